-- The token at the front of a text, whatever follows it.
use Rattle.std.proofs.Common.{◌≡◌, ℕ, zero, suc, ◌+◌, ◌-◌, ◌*◌, ◌/◌, ◌%◌, ◌^◌, ◌<◌, ◌≤◌, Bool, true, false, not, cond, eqb, ltb, List, [], ◌∷◌, ◌++◌, length, take, Option, Some, None, ◌⊎◌, inl, inr, refl, sym, ap, subst, ◌∙◌, append_assoc, arith}
use Rattle.std.specs.Prelude.{pos, decimal, codes}
use Rattle.std.specs.List.{AllByRecursion, list_all, prefix_len}
use Rattle.std.specs.Str.{bytes_eq}
use Rattle.std.specs.Fmt.{digits, digits_onto, digit_glyph}
use Rattle.std.proofs.Math.Seq.{take-append_seam, take-append-add, drop-append_seam}
use Rattle.std.proofs.lemmas.Bool.{eq-eqb, lt-ltb, eqb-true, ne_eqb, and_parts}
use Rattle.std.proofs.lemmas.Bool.Decides.{nat_tests}
use Rattle.std.proofs.lemmas.Fmt.{decimal_by_steps_wide}
use Rattle.std.proofs.lemmas.List.{length-append}
use Rattle.std.proofs.lemmas.Slice.Eq.{bytes_eq-Decides}
use Rattle.goal_token.specs.declared.token.Sign.{Sign}
use Rattle.goal_token.specs.declared.token.Sign.TheVariants as sign
use Rattle.goal_token.specs.declared.token.Token.{Token}
use Rattle.goal_token.specs.declared.token.Token.TheVariants as token
use Rattle.goal_token.specs.Words.{Table, lookup, words, signs_of_3, signs_of_2, signs_of_1}
use Rattle.goal_token.specs.Tokens.{is_blank, is_digit, begins_name, is_name_byte, begins_comment, number_after, literal_at, name_length, dotted_length, joined_length, word, word_at, sign_at, token_at}
use Rattle.goal_token.specs.Spelling.{sign_text}
use Rattle.goal_token.specs.Spacing.{EndsWord, begins_expression, BeginsExpression, IsNameText}
use Rattle.goal_token.proofs.NameLaws.{joined_word, one_name, two_names}

-- this token stands at the front of a text, with these bytes after it
abbrev pub IsFront : List ℕ → Token → List ℕ → Type 0
IsFront [] t rest = ⊥
IsFront (c ∷ text) t rest = (is_blank c ≡ false) × (begins_comment (c ∷ (text ++ rest)) ≡ false) × (token_at c (text ++ rest) ≡ (t, length (c ∷ text)))

-- ---- bytes

name_byte_high : (c : ℕ) → begins_name c ≡ true → 65 ≤ c
name_byte_high c e = grind (arith, nat_tests)

digit_range : (c : ℕ) → is_digit c ≡ true → (48 ≤ c) × (c ≤ 57)
digit_range c e = grind (arith, nat_tests)

high_no_blank : (c : ℕ) → 33 ≤ c → is_blank c ≡ false
high_no_blank c h = grind (arith, nat_tests)

high_no_digit : (c : ℕ) → 58 ≤ c → is_digit c ≡ false
high_no_digit c h = grind (arith, nat_tests)

no_comment : (c : ℕ) (bytes : List ℕ) → eqb c 40 ≡ false → begins_comment (c ∷ bytes) ≡ false
no_comment c [] e = refl
no_comment c (d ∷ bytes) e = rw e refl

operand_byte : (c : ℕ) → begins_expression c ≡ true → (eqb c 42 ≡ false) × (eqb c 62 ≡ false)
operand_byte c e = grind (arith, nat_tests)

no_name_byte_no_digit : (c : ℕ) → is_name_byte c ≡ false → is_digit c ≡ false
no_name_byte_no_digit c e = grind (arith, nat_tests)

-- ---- no word ends with a dot

-- the last byte is a dot
abbrev ends_dot : List ℕ → Bool
ends_dot [] = false
ends_dot (c ∷ []) = eqb c 46
ends_dot (c ∷ d ∷ bytes) = ends_dot (d ∷ bytes)

with_dot : (text : List ℕ) → ends_dot (text ++ 46 ∷ []) ≡ true
with_dot [] = refl
with_dot (c ∷ []) = refl
with_dot (c ∷ d ∷ text) = with_dot (d ∷ text)

no_dot : (text : List ℕ) (table : Table Token) → ends_dot text ≡ true → list_all (λ entry. not (ends_dot entry.0)) table ≡ true → lookup text table ≡ None
no_dot text [] dot all = refl
no_dot text (entry ∷ table) dot all =
    let p = and_parts (not (ends_dot entry.0)) (list_all (λ (x : List ℕ × Token). not (ends_dot x.0)) table) all in
    pick (bytes_eq text entry.0) entry.1 (lookup text table) (λ e. differs (ends_dot entry.0) p.0 (subst (λ t. ends_dot t ≡ true) ((bytes_eq-Decides text entry.0).0 e) dot)) (no_dot text table dot p.1)
  where
    differs : (b : Bool) → not b ≡ true → b ≡ true → ⊥
    differs b e f = grind arith

    pick : (b : Bool) (t : Token) (o : Option Token) → (b ≡ true → ⊥) → o ≡ None → cond b (Some t) o ≡ None
    pick true t o never e = absurd (never refl)
    pick false t o never e = e

dot_ends_no_word : (text : List ℕ) → lookup (text ++ 46 ∷ []) words ≡ None
unfolding words
dot_ends_no_word text = no_dot (text ++ 46 ∷ []) words (with_dot text) refl

-- ---- names and words

-- where a word may end, no byte of a name follows
pub ends_name : (rest : List ℕ) → EndsWord rest → name_length rest ≡ 0
ends_name [] h = refl
ends_name (c ∷ rest) h = rw h.0 refl

name_bytes : (xs rest : List ℕ) → AllByRecursion (λ d. is_name_byte d ≡ true) xs → name_length rest ≡ 0 → name_length (xs ++ rest) ≡ length xs
name_bytes [] rest all e = e
name_bytes (x ∷ xs) rest all e = let p = name_bytes xs rest all.1 e in rw all.0 (omega arith)

first_name_byte : (c : ℕ) → begins_name c ≡ true → is_name_byte c ≡ true
first_name_byte c e = rw e refl

all_name_bytes : (text : List ℕ) → IsNameText text → AllByRecursion (λ d. is_name_byte d ≡ true) text
all_name_bytes [] is = absurd is
all_name_bytes (c ∷ text) is = (first_name_byte c is.0, is.1)

name_has_length : (text rest : List ℕ) → IsNameText text → name_length rest ≡ 0 → name_length (text ++ rest) ≡ length text
name_has_length text rest is e = name_bytes text rest (all_name_bytes text is) e

none_where : (b : Bool) (o : Option Token) → (b ≡ true) ⊎ (o ≡ None) → cond b None o ≡ None
none_where true o h = refl
none_where false o (inl h) = absurd cc
none_where false o (inr h) = h

-- what a dot would join to a name is no word
not_joined : (text rest : List ℕ) → EndsWord rest
    → (dotted_length rest ≡ 0) ⊎ ((dotted_length rest ≡ 1) × (take (length text + 1) (text ++ rest) ≡ text ++ 46 ∷ []))
not_joined text [] h = inl refl
not_joined text (c ∷ rest) h = by_dot (eqb c 46) text c rest (eqb-true c 46) h.1 refl
  where
    by_dot : (b : Bool) (text : List ℕ) (c : ℕ) (rest : List ℕ) → (b ≡ true → c ≡ 46) → (c ≡ 46 → name_length rest ≡ 0) → eqb c 46 ≡ b
        → (dotted_length (c ∷ rest) ≡ 0) ⊎ ((dotted_length (c ∷ rest) ≡ 1) × (take (length text + 1) (text ++ c ∷ rest) ≡ text ++ 46 ∷ []))
    by_dot true text c rest is none e =
        let n : name_length rest ≡ 0 = none (is refl) in
        inr (rw (e, n) refl, take-append-add text (c ∷ rest) 1 ∙ ap (λ d. text ++ d ∷ []) (is refl))
    by_dot false text c rest is none e = inl (rw e refl)

alone_at : (text rest : List ℕ) (n : ℕ) → name_length (text ++ rest) ≡ length text → n ≡ dotted_length rest → joined_length (text ++ rest) ≡ length text + n
alone_at text rest n e d = rw (e, drop-append_seam text rest) (ap (λ k. length text + k) (sym d))

no_pair : (text rest : List ℕ) → IsNameText text → EndsWord rest → joined_word (text ++ rest) (name_length (text ++ rest)) (joined_length (text ++ rest)) ≡ None
no_pair text rest is ends =
    let n : name_length (text ++ rest) ≡ length text = name_has_length text rest is (ends_name rest ends) in
    let j : joined_length (text ++ rest) ≡ length text + dotted_length rest = alone_at text rest (dotted_length rest) n refl in
    subst (λ a. joined_word (text ++ rest) a (joined_length (text ++ rest)) ≡ None) (sym n)
    (subst (λ b. joined_word (text ++ rest) (length text) b ≡ None) (sym j) (by_end text rest (dotted_length rest) (not_joined text rest ends)))
  where
    by_end : (text rest : List ℕ) (d : ℕ) → (d ≡ 0) ⊎ ((d ≡ 1) × (take (length text + 1) (text ++ rest) ≡ text ++ 46 ∷ [])) → joined_word (text ++ rest) (length text) (length text + d) ≡ None
    by_end text rest d h = none_where (eqb (length text + d) (length text)) (lookup (take (length text + d) (text ++ rest)) words) (either text rest d h)
      where
        either : (text rest : List ℕ) (d : ℕ) → (d ≡ 0) ⊎ ((d ≡ 1) × (take (length text + 1) (text ++ rest) ≡ text ++ 46 ∷ []))
            → (eqb (length text + d) (length text) ≡ true) ⊎ (lookup (take (length text + d) (text ++ rest)) words ≡ None)
        either text rest d (inl h) = inl (eq-eqb (length text + d) (length text) (omega arith))
        either text rest d (inr h) = inr (rw (h.0, h.1) (dot_ends_no_word text))

word_front : (text rest : List ℕ) → IsNameText text → EndsWord rest → word_at (text ++ rest) ≡ (word text, length text)
word_front text rest is ends =
    let n : name_length (text ++ rest) ≡ length text = name_has_length text rest is (ends_name rest ends) in
    one_name (text ++ rest) (no_pair text rest is ends) ∙ rw (n, take-append_seam text rest) refl

-- ---- names and words at the front

name_front : (c : ℕ) (text rest : List ℕ) (t : Token) → begins_name c ≡ true → word_at (c ∷ (text ++ rest)) ≡ (t, length (c ∷ text)) → IsFront (c ∷ text) t rest
unfolding token_at
name_front c text rest t e f =
    let high : 65 ≤ c = name_byte_high c e in
    let digit : is_digit c ≡ false = high_no_digit c (omega arith) in
    (high_no_blank c (omega arith), no_comment c (text ++ rest) (ne_eqb c 40 (λ same. omega arith)), rw (digit, e) f)

pub front_of_word : (text rest : List ℕ) (t : Token) → IsNameText text → EndsWord rest → word text ≡ t → IsFront text t rest
front_of_word [] rest t is ends e = absurd is
front_of_word (c ∷ text) rest t is ends e = name_front c text rest t is.0 (word_front (c ∷ text) rest is ends ∙ ap (λ w. (w, length (c ∷ text))) e)

-- a word of two names is taken whole
pair_word : (front back rest : List ℕ) (t : Token) → IsNameText front → IsNameText back → EndsWord rest → lookup (front ++ 46 ∷ back) words ≡ Some t
    → word_at (front ++ 46 ∷ (back ++ rest)) ≡ (t, length (front ++ 46 ∷ back))
pair_word front back rest t is_front is_back ends e =
    let m : name_length (back ++ rest) ≡ length back = name_has_length back rest is_back (ends_name rest ends) in
    let n : name_length (front ++ 46 ∷ (back ++ rest)) ≡ length front = name_has_length front (46 ∷ (back ++ rest)) is_front refl in
    let d : suc (length back) ≡ dotted_length (46 ∷ (back ++ rest)) = rw m (omega arith) in
    let j : joined_length (front ++ 46 ∷ (back ++ rest)) ≡ length front + suc (length back) = alone_at front (46 ∷ (back ++ rest)) (suc (length back)) n d in
    let l : length front + suc (length back) ≡ length (front ++ 46 ∷ back) = sym (length-append front (46 ∷ back)) in
    let whole : take (length front + suc (length back)) (front ++ 46 ∷ (back ++ rest)) ≡ front ++ 46 ∷ back =
    take-append-add front (46 ∷ (back ++ rest)) (suc (length back)) ∙ ap (λ b. front ++ 46 ∷ b) (take-append_seam back rest) in
    let other : eqb (length front + suc (length back)) (length front) ≡ false = ne_eqb (length front + suc (length back)) (length front) (λ same. omega arith) in
    two_names (front ++ 46 ∷ (back ++ rest)) t (rw (j, n, other, whole) e) ∙ ap (λ k. (t, k)) (j ∙ l)

pub front_of_pair : (front back rest : List ℕ) (t : Token) → IsNameText front → IsNameText back → EndsWord rest → lookup (front ++ 46 ∷ back) words ≡ Some t → IsFront (front ++ 46 ∷ back) t rest
front_of_pair [] back rest t is_front is_back ends e = absurd is_front
front_of_pair (c ∷ front) back rest t is_front is_back ends e =
    name_front c (front ++ 46 ∷ back) rest t is_front.0 (ap word_at (append_assoc (c ∷ front) (46 ∷ back) rest) ∙ pair_word (c ∷ front) back rest t is_front is_back ends e)

-- ---- numbers

-- digits that stand for this number
record AreDigits (n : ℕ) (digits : List ℕ) : Type 0 where
  all : AllByRecursion (λ d. is_digit d ≡ true) digits
  value : number_after 0 digits ≡ n
  some : 1 ≤ length digits

last_digit : (v d : ℕ) (digits : List ℕ) → number_after v (digits ++ d ∷ []) ≡ 10 * number_after v digits + (d - 48)
last_digit v d [] = refl
last_digit v d (c ∷ digits) = last_digit (10 * v + (c - 48)) d digits

all_and : (digits : List ℕ) (d : ℕ) → AllByRecursion (λ d. is_digit d ≡ true) digits → is_digit d ≡ true → AllByRecursion (λ d. is_digit d ≡ true) (digits ++ d ∷ [])
all_and [] d all e = (e, tt)
all_and (c ∷ digits) d all e = (all.0, all_and digits d all.1 e)

is_the_digit : (n : ℕ) → n < 10 → is_digit (48 + n) ≡ true
is_the_digit n lt = grind (arith, nat_tests)

decimal_digits : (n : ℕ) → n < 2 ^ 126 → AreDigits n (decimal n)
decimal_digits n lt = decimal_by_steps_wide AreDigits one more n (omega arith)
  where
    one : (n : ℕ) → n < 10 → AreDigits n ((48 + n) ∷ [])
    one n lt = record { all = (is_the_digit n lt, tt); value = omega arith; some = omega arith }

    more : (n : ℕ) (digits : List ℕ) → 10 ≤ n → AreDigits (n / 10) digits → AreDigits n (digits ++ (48 + n % 10) ∷ [])
    more n digits le are =
        let v = are.value in
        let e = last_digit 0 (48 + n % 10) digits in
        record {
          all = all_and digits (48 + n % 10) are.all (is_the_digit (n % 10) (omega arith));
          value = omega arith;
          some = simp length-append (omega arith);
        }

ends_digits : (rest : List ℕ) → EndsWord rest → prefix_len is_digit rest ≡ 0
ends_digits [] h = refl
ends_digits (c ∷ rest) h = rw (no_name_byte_no_digit c h.0) refl

digits_have : (xs rest : List ℕ) → AllByRecursion (λ d. is_digit d ≡ true) xs → prefix_len is_digit rest ≡ 0 → prefix_len is_digit (xs ++ rest) ≡ length xs
digits_have [] rest all e = e
digits_have (x ∷ xs) rest all e = let p = digits_have xs rest all.1 e in rw all.0 (omega arith)

number_front : (digits rest : List ℕ) (n : ℕ) → n < 2 ^ 126 → AreDigits n digits → EndsWord rest → literal_at (digits ++ rest) ≡ (token.Literal (pos n), length digits)
unfolding literal_at
number_front digits rest n lt are ends =
    let k : prefix_len is_digit (digits ++ rest) ≡ length digits = digits_have digits rest are.all (ends_digits rest ends) in
    let v : number_after 0 digits ≡ n = are.value in
    let small : ltb n (2 ^ 126) ≡ true = lt-ltb n (2 ^ 126) lt in
    rw (k, take-append_seam digits rest, v, small) refl

front_of_digits : (digits rest : List ℕ) (n : ℕ) → n < 2 ^ 126 → AreDigits n digits → EndsWord rest → IsFront digits (token.Literal (pos n)) rest
unfolding token_at
front_of_digits [] rest n lt are ends = let some = are.some in absurd (omega arith)
front_of_digits (c ∷ digits) rest n lt are ends =
    let digit : is_digit c ≡ true = are.all.0 in
    let range = digit_range c digit in
    (high_no_blank c (omega arith), no_comment c (digits ++ rest) (ne_eqb c 40 (λ same. omega arith)), rw digit (number_front (c ∷ digits) rest n lt are ends))

pub front_of_number : (n : ℕ) (rest : List ℕ) → n < 2 ^ 126 → EndsWord rest → IsFront (decimal n) (token.Literal (pos n)) rest
front_of_number n rest lt ends = front_of_digits (decimal n) rest n lt (decimal_digits n lt) ends

-- a number begins with a digit
glyph_operand : (d : ℕ) (bytes : List ℕ) → d < 10 → BeginsExpression (digit_glyph false d ∷ bytes)
glyph_operand d bytes lt = grind (arith, nat_tests)

either_begins : (b : Bool) (x y : List ℕ) → BeginsExpression x → BeginsExpression y → BeginsExpression (cond b x y)
either_begins true x y p q = p
either_begins false x y p q = q

digits_begin : (k n : ℕ) (bytes : List ℕ) → BeginsExpression bytes → BeginsExpression (digits_onto k 10 false n bytes)
digits_begin zero n bytes h = h
digits_begin (suc k) n bytes h =
    let more = digit_glyph false (n % 10) ∷ bytes in
    let first = glyph_operand (n % 10) bytes (omega arith) in
    either_begins (eqb (n / 10) 0) more (digits_onto k 10 false (n / 10) more) first (digits_begin k (n / 10) more first)

some_digits_begin : (k n : ℕ) → BeginsExpression (digits_onto (suc k) 10 false n [])
some_digits_begin k n =
    let one = digit_glyph false (n % 10) ∷ [] in
    let first = glyph_operand (n % 10) [] (omega arith) in
    either_begins (eqb (n / 10) 0) one (digits_onto k 10 false (n / 10) one) first (digits_begin k (n / 10) one first)

pub begins_decimal : (n : ℕ) → BeginsExpression (decimal n)
unfolding digits
begins_decimal n = some_digits_begin 63 n

-- ---- signs

mod_is_a_word : word (codes "mod") ≡ token.Sign sign.Mod
unfolding word words
mod_is_a_word = refl

-- a sign before a blank
pub front_of_sign : (s : Sign) (rest : List ℕ) → IsFront (sign_text s) (token.Sign s) (32 ∷ rest)
unfolding token_at sign_at signs_of_3 signs_of_2 signs_of_1
front_of_sign sign.Iff rest = (refl, refl, refl)
front_of_sign sign.LeTest rest = (refl, refl, refl)
front_of_sign sign.GeTest rest = (refl, refl, refl)
front_of_sign sign.Arrow rest = (refl, refl, refl)
front_of_sign sign.And rest = (refl, refl, refl)
front_of_sign sign.Or rest = (refl, refl, refl)
front_of_sign sign.Ne rest = (refl, refl, refl)
front_of_sign sign.Le rest = (refl, refl, refl)
front_of_sign sign.Ge rest = (refl, refl, refl)
front_of_sign sign.EqTest rest = (refl, refl, refl)
front_of_sign sign.LtTest rest = (refl, refl, refl)
front_of_sign sign.GtTest rest = (refl, refl, refl)
front_of_sign sign.BoolAnd rest = (refl, refl, refl)
front_of_sign sign.BoolOr rest = (refl, refl, refl)
front_of_sign sign.Open rest = (refl, refl, refl)
front_of_sign sign.Close rest = (refl, refl, refl)
front_of_sign sign.Comma rest = (refl, refl, refl)
front_of_sign sign.Colon rest = (refl, refl, refl)
front_of_sign sign.Dot rest = (refl, refl, refl)
front_of_sign sign.Eq rest = (refl, refl, refl)
front_of_sign sign.Lt rest = (refl, refl, refl)
front_of_sign sign.Gt rest = (refl, refl, refl)
front_of_sign sign.Plus rest = (refl, refl, refl)
front_of_sign sign.Minus rest = (refl, refl, refl)
front_of_sign sign.Times rest = (refl, refl, refl)
front_of_sign sign.Divide rest = (refl, refl, refl)
front_of_sign sign.Power rest = (refl, refl, refl)
front_of_sign sign.Not rest = (refl, refl, refl)
front_of_sign sign.Mod rest = front_of_word (codes "mod") (32 ∷ rest) (token.Sign sign.Mod) (refl, (refl, (refl, tt))) (refl, λ e. absurd (omega arith)) mod_is_a_word

-- a dot and a closing parenthesis, before any bytes
pub front_of_dot : (rest : List ℕ) → IsFront (46 ∷ []) (token.Sign sign.Dot) rest
unfolding token_at sign_at signs_of_3 signs_of_2 signs_of_1
front_of_dot rest = (refl, no_comment 46 rest refl, refl)

pub front_of_close : (rest : List ℕ) → IsFront (41 ∷ []) (token.Sign sign.Close) rest
unfolding token_at sign_at signs_of_3 signs_of_2 signs_of_1
front_of_close rest = (refl, no_comment 41 rest refl, refl)

-- before an operand `(` opens no comment, and `-` begins no arrow
pub front_of_open : (bytes rest : List ℕ) → BeginsExpression bytes → IsFront (40 ∷ []) (token.Sign sign.Open) (bytes ++ rest)
unfolding token_at sign_at signs_of_3 signs_of_2 signs_of_1
front_of_open [] rest begins = absurd begins
front_of_open (c ∷ bytes) rest begins = (refl, (operand_byte c begins).0, refl)

pub front_of_minus : (bytes rest : List ℕ) → BeginsExpression bytes → IsFront (45 ∷ []) (token.Sign sign.Minus) (bytes ++ rest)
unfolding token_at sign_at signs_of_3 signs_of_2 signs_of_1
front_of_minus [] rest begins = absurd begins
front_of_minus (c ∷ bytes) rest begins = let arrow = (operand_byte c begins).1 in (refl, refl, rw arrow refl)
