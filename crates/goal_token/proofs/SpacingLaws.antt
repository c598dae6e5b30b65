-- Texts that spell tokens, put together from parts.
use Rattle.std.proofs.Common.{◌≡◌, ℕ, zero, suc, ◌+◌, ◌-◌, ◌^◌, ◌<◌, Bool, true, false, not, cond, ltb, List, [], ◌∷◌, ◌++◌, length, take, drop, Option, Some, None, refl, sym, ap, subst, ◌∙◌, append_assoc, arith}
use Rattle.std.specs.Prelude.{pos, unwrap_or, decimal, codes, ◌&&◌}
use Rattle.std.specs.List.{AllByRecursion, list_all, prefix_len}
use Rattle.std.specs.Option.{option_map_or}
use Rattle.std.specs.Str.{bytes_eq}
use Rattle.std.proofs.Math.Seq.{drop-append_seam}
use Rattle.std.proofs.lemmas.Bool.{and_parts}
use Rattle.std.proofs.lemmas.List.{append-nil, map-append, length-append}
use Rattle.std.proofs.lemmas.Slice.Eq.{bytes_eq-Decides}
use Rattle.goal_ast.specs.declared.term.Sort.{Sort}
use Rattle.goal_ast.specs.declared.term.Sort.TheVariants as sort
use Rattle.goal_ast.specs.declared.term.Fn1.TheVariants as one
use Rattle.goal_ast.specs.declared.term.Fn2.TheVariants as two
use Rattle.goal_ast.specs.declared.formula.BFn.TheVariants as bools
use Rattle.goal_token.specs.declared.token.Constant.TheVariants as constant
use Rattle.goal_token.specs.declared.token.Function.{Function}
use Rattle.goal_token.specs.declared.token.Function.TheVariants.{One, Two, Negb, Bool as OfBools}
use Rattle.goal_token.specs.declared.token.Sign.{Sign}
use Rattle.goal_token.specs.declared.token.Sign.TheVariants as sign
use Rattle.goal_token.specs.declared.token.Token.{Token}
use Rattle.goal_token.specs.declared.token.Token.TheVariants as token
use Rattle.goal_token.specs.declared.token.Placed.{Placed}
use Rattle.goal_token.specs.Words.{Table, lookup, words, signs_of_3, signs_of_2, signs_of_1}
use Rattle.goal_token.specs.Tokens.{is_blank, is_digit, begins_name, is_name_byte, begins_comment, after_comment, Sized, number_after, literal, literal_at, name_length, joined_length, word, word_at, sign_or, sign_at, token_at, placed, tokens_after, tokens_at, tokens_of}
use Rattle.goal_token.specs.Spelling.{sign_text, sort_text, function_text}
use Rattle.goal_token.specs.Spacing.{EndsWord, BeginsExpression, IsNameText, IsName, kinds_of, IsCut, Spells}
use Rattle.goal_token.proofs.TokenLaws.{of_blank, of_token, cases}
use Rattle.goal_token.proofs.SpacingSteps.{IsFront, ends_name, front_of_word, front_of_pair, front_of_number, front_of_sign, front_of_dot, front_of_close, front_of_open, front_of_minus}

-- ---- texts joined

-- one text after another
joined : (x m : List ℕ) (k l : List Token) (place : ℕ) (rest : List ℕ) → IsCut x k place (m ++ rest) → IsCut m l (place + length x) rest → IsCut (x ++ m) (k ++ l) place rest
joined x m k l place rest a b =
    let whole : tokens_at place ((x ++ m) ++ rest) ≡ a.cut ++ (b.cut ++ tokens_at (place + length x + length m) rest) =
    ap (tokens_at place) (append_assoc x m rest) ∙ a.tokens_are ∙ ap (λ ts. a.cut ++ ts) b.tokens_are in
    let n : place + length x + length m ≡ place + length (x ++ m) = omega (arith, length-append {A = ℕ}) in
    record {
      cut = a.cut ++ b.cut;
      kinds_are = map-append (λ (t : Placed). t.token) a.cut b.cut ∙ ap (λ ts. ts ++ kinds_of b.cut) a.kinds_are ∙ ap (λ ts. k ++ ts) b.kinds_are;
      tokens_are = whole ∙ sym (append_assoc a.cut b.cut (tokens_at (place + length x + length m) rest)) ∙ ap (λ p. (a.cut ++ b.cut) ++ tokens_at p rest) n;
    }

-- a token at the front is cut
front_cut : (text : List ℕ) (t : Token) (place : ℕ) (rest : List ℕ) → IsFront text t rest → IsCut text (t ∷ []) place rest
front_cut [] t place rest is = absurd is
front_cut (c ∷ text) t place rest is = record {
  cut = placed t place ∷ [];
  kinds_are = refl;
  tokens_are =
      of_token place c (text ++ rest) is.0 is.1 ∙ ap (λ (s : Sized). placed s.0 place ∷ tokens_at (place + s.1) (drop s.1 (c ∷ (text ++ rest)))) is.2
      ∙ ap (λ bytes. placed t place ∷ tokens_at (place + length (c ∷ text)) bytes) (drop-append_seam (c ∷ text) rest);
}

one_token : (text : List ℕ) (t : Token) → ((rest : List ℕ) → EndsWord rest → IsFront text t rest) → Spells text (t ∷ [])
one_token text t front place rest ends = front_cut text t place rest (front rest ends)

-- a token before a text
before : (text : List ℕ) (t : Token) (y : List ℕ) (l : List Token) → ((rest : List ℕ) → IsFront text t (y ++ rest)) → Spells y l → Spells (text ++ y) (t ∷ l)
before text t y l front q place rest ends = joined text y (t ∷ []) l place rest (front_cut text t place (y ++ rest) (front rest)) (q (place + length text) rest ends)

-- a text after one that may end before it
after : (x m : List ℕ) (k l : List Token) → ((rest : List ℕ) → EndsWord rest → EndsWord (m ++ rest)) → Spells x k → Spells m l → Spells (x ++ m) (k ++ l)
after x m k l ends_before p q place rest ends = joined x m k l place rest (p place (m ++ rest) (ends_before rest ends)) (q (place + length x) rest ends)

-- a blank or a line feed before a text
blank_before : (c : ℕ) (y : List ℕ) (l : List Token) → is_blank c ≡ true → Spells y l → Spells (c ∷ y) l
blank_before c y l blank q place rest ends =
    joined (c ∷ []) y [] l place rest (record { cut = []; kinds_are = refl; tokens_are = of_blank place c (y ++ rest) blank }) (q (place + 1) rest ends)

pub all_cut : (text : List ℕ) (k : List Token) → Spells text k → kinds_of (tokens_of text) ≡ k
all_cut text k s =
    let c = s 0 [] tt in
    ap kinds_of (ap tokens_of (sym (append-nil text)) ∙ c.tokens_are ∙ append-nil c.cut) ∙ c.kinds_are

-- ---- what an operand begins with

pub begins_append : (x y : List ℕ) → BeginsExpression x → BeginsExpression (x ++ y)
begins_append [] y h = absurd h
begins_append (c ∷ x) y h = h

pub begins_name_text : (x : List ℕ) → IsNameText x → BeginsExpression x
begins_name_text [] is = absurd is
begins_name_text (c ∷ x) is = rw is.0 refl

-- ---- blanks, signs and dots between texts

pub spells_spaced : {k l : List Token} {x y : List ℕ} → Spells x k → Spells y l → Spells (x ++ (32 ∷ y)) (k ++ l)
spells_spaced {k} {l} {x} {y} p q = after x (32 ∷ y) k l (λ rest ends. (refl, λ e. absurd (omega arith))) p (blank_before 32 y l refl q)

pub spells_sign : (s : Sign) (y : List ℕ) (l : List Token) → Spells y l → Spells (sign_text s ++ (32 ∷ y)) (token.Sign s ∷ l)
spells_sign s y l q = before (sign_text s) (token.Sign s) (32 ∷ y) l (λ rest. front_of_sign s (y ++ rest)) (blank_before 32 y l refl q)

pub spells_between : {k l : List Token} {x y : List ℕ} (s : Sign) → Spells x k → Spells y l → Spells (x ++ (32 ∷ (sign_text s ++ (32 ∷ y)))) (k ++ token.Sign s ∷ l)
spells_between {k} {l} {x} {y} s p q = spells_spaced p (spells_sign s y l q)

pub spells_grouped : {k : List Token} {x : List ℕ} → BeginsExpression x → Spells x k → Spells (40 ∷ (x ++ 41 ∷ [])) (token.Sign sign.Open ∷ (k ++ token.Sign sign.Close ∷ []))
spells_grouped {k} {x} begins p =
    before (40 ∷ []) (token.Sign sign.Open) (x ++ 41 ∷ []) (k ++ token.Sign sign.Close ∷ []) (λ rest. front_of_open (x ++ 41 ∷ []) rest (begins_append x (41 ∷ []) begins))
    (after x (41 ∷ []) k (token.Sign sign.Close ∷ []) (λ rest ends. (refl, λ e. absurd (omega arith))) p (one_token (41 ∷ []) (token.Sign sign.Close) (λ rest ends. front_of_close rest)))

pub spells_minus : {k : List Token} {x : List ℕ} → BeginsExpression x → Spells x k → Spells (45 ∷ x) (token.Sign sign.Minus ∷ k)
spells_minus {k} {x} begins p = before (45 ∷ []) (token.Sign sign.Minus) x k (λ rest. front_of_minus x rest begins) p

pub spells_comma : {k l : List Token} {x y : List ℕ} → Spells x k → Spells y l → Spells (x ++ (44 ∷ 32 ∷ y)) (k ++ token.Sign sign.Comma ∷ l)
spells_comma {k} {l} {x} {y} p q = after x (44 ∷ 32 ∷ y) k (token.Sign sign.Comma ∷ l) (λ rest ends. (refl, λ e. absurd (omega arith))) p (spells_sign sign.Comma y l q)

-- a dot, a blank or a line feed, and another text
dot_between : (c : ℕ) (x y : List ℕ) (k l : List Token) → is_blank c ≡ true → is_name_byte c ≡ false → Spells x k → Spells y l → Spells (x ++ (46 ∷ c ∷ y)) (k ++ token.Sign sign.Dot ∷ l)
dot_between c x y k l blank other p q =
    after x (46 ∷ c ∷ y) k (token.Sign sign.Dot ∷ l) (λ rest ends. (refl, λ e. rw other refl)) p
    (before (46 ∷ []) (token.Sign sign.Dot) (c ∷ y) l (λ rest. front_of_dot (c ∷ (y ++ rest))) (blank_before c y l blank q))

pub spells_dot : {k l : List Token} {x y : List ℕ} → Spells x k → Spells y l → Spells (x ++ (46 ∷ 32 ∷ y)) (k ++ token.Sign sign.Dot ∷ l)
spells_dot {k} {l} {x} {y} p q = dot_between 32 x y k l refl refl p q

pub spells_dot_line : {k l : List Token} {x y : List ℕ} → Spells x k → Spells y l → Spells (x ++ (46 ∷ 10 ∷ y)) (k ++ token.Sign sign.Dot ∷ l)
spells_dot_line {k} {l} {x} {y} p q = dot_between 10 x y k l refl refl p q

pub spells_last_dot : {k : List Token} {x : List ℕ} → Spells x k → Spells (x ++ (46 ∷ [])) (k ++ token.Sign sign.Dot ∷ [])
spells_last_dot {k} {x} p =
    after x (46 ∷ []) k (token.Sign sign.Dot ∷ []) (λ rest ends. (refl, λ e. ends_name rest ends)) p (one_token (46 ∷ []) (token.Sign sign.Dot) (λ rest ends. front_of_dot rest))

-- ---- names, words and numbers

pub spells_name : (text : List ℕ) → IsName text → Spells text (token.Name (record { bytes = text }) ∷ [])
unfolding word
spells_name text is =
    one_token text (token.Name (record { bytes = text })) (λ rest ends. front_of_word text rest (token.Name (record { bytes = text })) is.shape ends (ap (λ o. unwrap_or o (token.Name (record { bytes = text }))) is.free))

pub spells_word : (text : List ℕ) (t : Token) → IsNameText text → lookup text words ≡ Some t → Spells text (t ∷ [])
unfolding word
spells_word text t is e = one_token text t (λ rest ends. front_of_word text rest t is ends (ap (λ o. unwrap_or o (token.Name (record { bytes = text }))) e))

pub spells_dotted : (front back : List ℕ) (t : Token) → IsNameText front → IsNameText back → lookup (front ++ 46 ∷ back) words ≡ Some t → Spells (front ++ 46 ∷ back) (t ∷ [])
spells_dotted front back t is_front is_back e = one_token (front ++ 46 ∷ back) t (λ rest ends. front_of_pair front back rest t is_front is_back ends e)

pub spells_number : (n : ℕ) → n < 2 ^ 126 → Spells (decimal n) (token.Literal (pos n) ∷ [])
spells_number n lt = one_token (decimal n) (token.Literal (pos n)) (λ rest ends. front_of_number n rest lt ends)

-- the shape of a name, as a test
abbrev pub is_name_text : List ℕ → Bool
is_name_text [] = false
is_name_text (c ∷ bytes) = begins_name c && list_all is_name_byte bytes

all_of_test : (bytes : List ℕ) → list_all is_name_byte bytes ≡ true → AllByRecursion (λ d. is_name_byte d ≡ true) bytes
all_of_test [] e = tt
all_of_test (c ∷ bytes) e = let p = and_parts (is_name_byte c) (list_all is_name_byte bytes) e in (p.0, all_of_test bytes p.1)

pub name_text_of : (text : List ℕ) → is_name_text text ≡ true → IsNameText text
name_text_of [] e = absurd cc
name_text_of (c ∷ text) e = let p = and_parts (begins_name c) (list_all is_name_byte text) e in (p.0, all_of_test text p.1)

-- two names that a dot joins, as a test
abbrev pub is_pair_text : List ℕ → List ℕ → List ℕ → Bool
is_pair_text front back text = is_name_text front && is_name_text back && bytes_eq (front ++ 46 ∷ back) text

-- a word that is written out, by tests that compute
pub written_word : {text : List ℕ} {t : Token} → is_name_text text ≡ true → lookup text words ≡ Some t → Spells text (t ∷ [])
written_word {text} {t} is e = spells_word text t (name_text_of text is) e

pub written_pair : {text : List ℕ} {t : Token} (front back : List ℕ) → is_pair_text front back text ≡ true → lookup text words ≡ Some t → Spells text (t ∷ [])
written_pair {text} {t} front back is e =
    let p = and_parts (is_name_text front && is_name_text back) (bytes_eq (front ++ 46 ∷ back) text) is in
    let q = and_parts (is_name_text front) (is_name_text back) p.0 in
    let same : front ++ 46 ∷ back ≡ text = (bytes_eq-Decides (front ++ 46 ∷ back) text).0 p.1 in
    subst (λ x. Spells x (t ∷ [])) same (spells_dotted front back t (name_text_of front q.0) (name_text_of back q.1) (ap (λ x. lookup x words) same ∙ e))

pub spells_sort : (s : Sort) → Spells (sort_text s) (token.Sort s ∷ [])
unfolding words
spells_sort sort.Int = written_word refl refl
spells_sort sort.Bin = written_word refl refl
spells_sort sort.Nat = written_word refl refl
spells_sort sort.Pos = written_word refl refl
spells_sort sort.Bool = written_word refl refl

pub spells_true : Spells (codes "True") (token.Constant constant.True ∷ [])
unfolding words
spells_true = written_word refl refl

pub spells_false : Spells (codes "False") (token.Constant constant.False ∷ [])
unfolding words
spells_false = written_word refl refl

pub spells_bool_true : Spells (codes "true") (token.Constant constant.BoolTrue ∷ [])
unfolding words
spells_bool_true = written_word refl refl

pub spells_bool_false : Spells (codes "false") (token.Constant constant.BoolFalse ∷ [])
unfolding words
spells_bool_false = written_word refl refl

pub spells_function : (f : Function) → Spells (function_text f) (token.Function f ∷ [])
unfolding words
spells_function (One one.ZSucc) = written_pair (codes "Z") (codes "succ") refl refl
spells_function (One one.ZPred) = written_pair (codes "Z") (codes "pred") refl refl
spells_function (One one.ZOpp) = written_pair (codes "Z") (codes "opp") refl refl
spells_function (One one.ZAbs) = written_pair (codes "Z") (codes "abs") refl refl
spells_function (One one.ZSgn) = written_pair (codes "Z") (codes "sgn") refl refl
spells_function (One one.S) = written_word refl refl
spells_function (One one.NatPred) = written_pair (codes "Nat") (codes "pred") refl refl
spells_function (One one.NSucc) = written_pair (codes "N") (codes "succ") refl refl
spells_function (One one.NPred) = written_pair (codes "N") (codes "pred") refl refl
spells_function (One one.PosSucc) = written_pair (codes "Pos") (codes "succ") refl refl
spells_function (One one.PosPred) = written_pair (codes "Pos") (codes "pred") refl refl
spells_function (One one.OfNat) = written_pair (codes "Z") (codes "of_nat") refl refl
spells_function (One one.OfN) = written_pair (codes "Z") (codes "of_N") refl refl
spells_function (One one.OfPos) = written_pair (codes "Z") (codes "pos") refl refl
spells_function (One one.ToNat) = written_pair (codes "Z") (codes "to_nat") refl refl
spells_function (One one.ToN) = written_pair (codes "Z") (codes "to_N") refl refl
spells_function (Two two.ZMin) = written_pair (codes "Z") (codes "min") refl refl
spells_function (Two two.ZMax) = written_pair (codes "Z") (codes "max") refl refl
spells_function (Two two.NatMin) = written_pair (codes "Nat") (codes "min") refl refl
spells_function (Two two.NatMax) = written_pair (codes "Nat") (codes "max") refl refl
spells_function (Two two.NMin) = written_pair (codes "N") (codes "min") refl refl
spells_function (Two two.NMax) = written_pair (codes "N") (codes "max") refl refl
spells_function (Two two.PosMin) = written_pair (codes "Pos") (codes "min") refl refl
spells_function (Two two.PosMax) = written_pair (codes "Pos") (codes "max") refl refl
spells_function Negb = written_word refl refl
spells_function (OfBools bools.Imp) = written_word refl refl
spells_function (OfBools bools.Xor) = written_word refl refl
spells_function (OfBools bools.Eqb) = written_pair (codes "Bool") (codes "eqb") refl refl

-- ---- names are no words

-- a name, or no name
abbrev pub IsNamed : Token → Type 0
IsNamed (token.Name x) = IsName x.bytes
IsNamed other = Unit {0}

abbrev is_named : Token → Bool
is_named (token.Name x) = true
is_named other = false

other_named : (t : Token) → is_named t ≡ false → IsNamed t
other_named (token.Keyword k) e = tt
other_named (token.Sort s) e = tt
other_named (token.Constant c) e = tt
other_named (token.Function f) e = tt
other_named (token.Sign s) e = tt
other_named (token.Name n) e = absurd cc
other_named (token.Literal z) e = tt
other_named token.Wrong e = tt

abbrev has_no_name : Table Token → Bool
has_no_name table = list_all (λ entry. not (is_named entry.1)) table

found_named : (text : List ℕ) (table : Table Token) (t : Token) → has_no_name table ≡ true → lookup text table ≡ Some t → IsNamed t
found_named text [] t all e = absurd cc
found_named text (entry ∷ table) t all e =
    let p = and_parts (not (is_named entry.1)) (has_no_name table) all in
    pick (bytes_eq text entry.0) entry.1 (lookup text table) t e (other_named entry.1 (not_true (is_named entry.1) p.0)) (found_named text table t p.1)
  where
    not_true : (b : Bool) → not b ≡ true → b ≡ false
    not_true true e = absurd cc
    not_true false e = refl

    pick : (b : Bool) (u : Token) (o : Option Token) (t : Token) → cond b (Some u) o ≡ Some t → IsNamed u → (o ≡ Some t → IsNamed t) → IsNamed t
    pick true u o t e h k = let same : u ≡ t = cc in subst IsNamed same h
    pick false u o t e h k = k e

word_of_table : (text : List ℕ) (t : Token) → lookup text words ≡ Some t → IsNamed t
unfolding words
word_of_table text t e = found_named text words t refl e

word_named : (text : List ℕ) → IsNameText text → IsNamed (word text)
unfolding word
word_named text is = by_entry (lookup text words) text (word_of_table text) (λ free. record { shape = is; free = free })
  where
    by_entry : (o : Option Token) (text : List ℕ) → ((t : Token) → o ≡ Some t → IsNamed t) → (o ≡ None → IsName text) → IsNamed (unwrap_or o (token.Name (record { bytes = text })))
    by_entry (Some t) text some none = some t refl
    by_entry None text some none = none refl

front_passes : (bytes : List ℕ) → AllByRecursion (λ d. is_name_byte d ≡ true) (take (name_length bytes) bytes)
front_passes [] = tt
front_passes (c ∷ bytes) = by_test (is_name_byte c) (name_length bytes) c bytes refl (front_passes bytes)
  where
    by_test : (b : Bool) (n c : ℕ) (bytes : List ℕ) → is_name_byte c ≡ b → AllByRecursion (λ d. is_name_byte d ≡ true) (take n bytes)
        → AllByRecursion (λ d. is_name_byte d ≡ true) (take (cond b (1 + n) 0) (c ∷ bytes))
    by_test true n c bytes e all = let s : 1 + n ≡ suc n = omega arith in rw s (e, all)
    by_test false n c bytes e all = tt

front_shape : (c : ℕ) (bytes : List ℕ) → begins_name c ≡ true → IsNameText (take (name_length (c ∷ bytes)) (c ∷ bytes))
front_shape c bytes e =
    let n : name_length (c ∷ bytes) ≡ suc (name_length bytes) = rw e (omega arith) in
    rw n (e, front_passes bytes)

word_at_named : (c : ℕ) (bytes : List ℕ) → begins_name c ≡ true → IsNamed (word_at (c ∷ bytes)).0
unfolding word_at
word_at_named c bytes e =
    let all = c ∷ bytes in
    either (lookup (take (joined_length all) all) words) (joined_length all) (name_length all) (word (take (name_length all) all)) (word_of_table (take (joined_length all) all))
    (word_named (take (name_length all) all) (front_shape c bytes e))
  where
    either : (o : Option Token) (m n : ℕ) (d : Token) → ((t : Token) → o ≡ Some t → IsNamed t) → IsNamed d → IsNamed (option_map_or {U = Sized} (λ t. (t, m)) o (d, n)).0
    either (Some t) m n d some none = some t refl
    either None m n d some none = none

literal_named : (n : ℕ) → IsNamed (literal n)
literal_named n = by_test (ltb n (2 ^ 126)) n
  where
    by_test : (b : Bool) (n : ℕ) → IsNamed (cond b (token.Literal (pos n)) token.Wrong)
    by_test true n = tt
    by_test false n = tt

sign_named : (n : ℕ) (o : Option Sign) (other : Sized) → IsNamed other.0 → IsNamed (sign_or n o other).0
sign_named n (Some s) other h = tt
sign_named n None other h = h

sign_at_named : (bytes : List ℕ) → IsNamed (sign_at bytes).0
unfolding sign_at
sign_at_named bytes =
    let one = sign_or 1 (lookup (take 1 bytes) signs_of_1) (token.Wrong, 1) in
    let two = sign_or 2 (lookup (take 2 bytes) signs_of_2) one in
    let named_one : IsNamed one.0 = sign_named 1 (lookup (take 1 bytes) signs_of_1) (token.Wrong, 1) tt in
    let named_two : IsNamed two.0 = sign_named 2 (lookup (take 2 bytes) signs_of_2) one named_one in
    sign_named 3 (lookup (take 3 bytes) signs_of_3) two named_two

pub token_named : (c : ℕ) (bytes : List ℕ) → IsNamed (token_at c bytes).0
unfolding token_at literal_at
token_named c bytes =
    choose (is_digit c) (begins_name c) (literal_at (c ∷ bytes)) (word_at (c ∷ bytes)) (sign_at (c ∷ bytes))
    (literal_named (number_after 0 (take (prefix_len is_digit (c ∷ bytes)) (c ∷ bytes)))) (word_at_named c bytes) (sign_at_named (c ∷ bytes))
  where
    choose : (a b : Bool) (x y z : Sized) → IsNamed x.0 → (b ≡ true → IsNamed y.0) → IsNamed z.0 → IsNamed (cond a x (cond b y z)).0
    choose true b x y z p q r = p
    choose false true x y z p q r = q refl
    choose false false x y z p q r = r

-- each token that is a name is one by its bytes
abbrev AreNamed : List Placed → Type 0
AreNamed ts = AllByRecursion (λ (t : Placed). IsNamed t.token) ts

all_named : (read place : ℕ) (bytes : List ℕ) → AreNamed (tokens_after read place bytes)
all_named zero place [] = tt
all_named (suc read) place [] = tt
all_named (suc read) place (c ∷ bytes) = all_named read (place + 1) bytes
all_named zero place (c ∷ bytes) =
    cases AreNamed (is_blank c) (begins_comment (c ∷ bytes)) (after_comment 1 (drop 1 bytes))
    (tokens_after zero (place + 1) bytes)
    (placed (token_at c bytes).0 place ∷ tokens_after ((token_at c bytes).1 - 1) (place + 1) bytes)
    (placed token.Wrong (place + length (c ∷ bytes)) ∷ [])
    (λ rest. tokens_after (length bytes - length rest) (place + 1) bytes)
    (all_named zero (place + 1) bytes)
    (λ rest. all_named (length bytes - length rest) (place + 1) bytes)
    (tt, tt)
    (token_named c bytes, all_named ((token_at c bytes).1 - 1) (place + 1) bytes)

pub of_name_token : (bytes : List ℕ) → AllByRecursion (λ (t : Placed). IsNamed t.token) (tokens_of bytes)
of_name_token bytes = all_named zero 0 bytes
