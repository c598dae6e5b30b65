-- Each literal is from 0 and below 2^126.
use Rattle.std.proofs.Common.{◌≡◌, ℕ, zero, suc, ◌+◌, ◌-◌, ◌^◌, ◌<◌, Bool, true, false, cond, not, ltb, eqb, List, [], ◌∷◌, length, take, drop, Option, Some, None, refl, sym, subst, arith}
use Rattle.std.proofs.lemmas.Int.{ints}
use Rattle.std.specs.Prelude.{pos, unwrap_or}
use Rattle.std.specs.List.{list_all, prefix_len}
use Rattle.std.specs.Option.{option_map_or}
use Rattle.std.specs.Cmp.Lexicographic.{pointwise}
use Rattle.std.proofs.lemmas.Bool.{ltb-true, and_parts}
use Rattle.goal_token.specs.declared.token.Sign.{Sign}
use Rattle.goal_token.specs.declared.token.Token.{Token}
use Rattle.goal_token.specs.declared.token.Token.TheVariants as token
use Rattle.goal_token.specs.Words.{Table, lookup, words, signs_of_3, signs_of_2, signs_of_1}
use Rattle.goal_token.specs.Tokens.{is_blank, is_digit, begins_name, begins_comment, after_comment, number_after, Sized, literal, literal_at, name_length, joined_length, word, word_at, sign_or, sign_at, token_at, placed, tokens_after, IsSmallToken, AreSmall}
use Rattle.goal_token.proofs.TokenLaws.{cases}

literal_small : (n : ℕ) → IsSmallToken (literal n)
literal_small n = by_test (ltb n (2 ^ 126)) n (ltb-true n (2 ^ 126))
  where
    by_test : (b : Bool) (n : ℕ) → (b ≡ true → n < 2 ^ 126) → IsSmallToken (cond b (token.Literal (pos n)) token.Wrong)
    by_test true n h = (omega (arith, ints), h refl)
    by_test false n h = tt

-- ---- no word is a literal

abbrev is_literal : Token → Bool
is_literal (token.Literal z) = true
is_literal other = false

other_small : (t : Token) → is_literal t ≡ false → IsSmallToken t
other_small (token.Keyword k) e = tt
other_small (token.Sort s) e = tt
other_small (token.Constant c) e = tt
other_small (token.Function f) e = tt
other_small (token.Sign s) e = tt
other_small (token.Name n) e = tt
other_small (token.Literal z) e = absurd cc
other_small token.Wrong e = tt

abbrev has_no_literal : Table Token → Bool
has_no_literal table = list_all (λ entry. not (is_literal entry.1)) table

-- a word that is found, or else this token, is small
found_small : (text : List ℕ) (table : Table Token) (d : Token) → has_no_literal table ≡ true → IsSmallToken d → IsSmallToken (unwrap_or (lookup text table) d)
found_small text [] d e h = h
found_small text (entry ∷ table) d e h =
    let p = and_parts (not (is_literal entry.1)) (has_no_literal table) e in
    pick (pointwise eqb text entry.0) entry.1 (lookup text table) d (other_small entry.1 (not_true (is_literal entry.1) p.0)) (found_small text table d p.1 h)
  where
    not_true : (b : Bool) → not b ≡ true → b ≡ false
    not_true true e = absurd cc
    not_true false e = refl

    pick : (b : Bool) (t : Token) (o : Option Token) (d : Token) → IsSmallToken t → IsSmallToken (unwrap_or o d) → IsSmallToken (unwrap_or (cond b (Some t) o) d)
    pick true t o d h k = h
    pick false t o d h k = k

words_small : (text : List ℕ) (d : Token) → IsSmallToken d → IsSmallToken (unwrap_or (lookup text words) d)
unfolding words
words_small text d h = found_small text words d refl h

word_small : (text : List ℕ) → IsSmallToken (word text)
unfolding word
word_small text = words_small text (token.Name (record { bytes = text })) tt

word_at_small : (bytes : List ℕ) → IsSmallToken (word_at bytes).0
unfolding word_at
word_at_small bytes =
    let single = word (take (name_length bytes) bytes) in
    either (lookup (take (joined_length bytes) bytes) words) single (joined_length bytes) (name_length bytes) (words_small (take (joined_length bytes) bytes) single (word_small (take (name_length bytes) bytes)))
  where
    either : (o : Option Token) (d : Token) (m n : ℕ) → IsSmallToken (unwrap_or o d) → IsSmallToken (option_map_or {U = Sized} (λ t. (t, m)) o (d, n)).0
    either (Some t) d m n h = h
    either None d m n h = h

sign_small : (n : ℕ) (o : Option Sign) (other : Sized) → IsSmallToken other.0 → IsSmallToken (sign_or n o other).0
sign_small n (Some s) other h = tt
sign_small n None other h = h

sign_at_small : (bytes : List ℕ) → IsSmallToken (sign_at bytes).0
unfolding sign_at
sign_at_small bytes =
    let one = sign_or 1 (lookup (take 1 bytes) signs_of_1) (token.Wrong, 1) in
    let two = sign_or 2 (lookup (take 2 bytes) signs_of_2) one in
    let small_one : IsSmallToken one.0 = sign_small 1 (lookup (take 1 bytes) signs_of_1) (token.Wrong, 1) tt in
    let small_two : IsSmallToken two.0 = sign_small 2 (lookup (take 2 bytes) signs_of_2) one small_one in
    sign_small 3 (lookup (take 3 bytes) signs_of_3) two small_two

-- ---- all tokens

pub token_small : (c : ℕ) (bytes : List ℕ) → IsSmallToken (token_at c bytes).0
unfolding token_at literal_at
token_small c bytes =
    choose (is_digit c) (begins_name c) (literal_at (c ∷ bytes)) (word_at (c ∷ bytes)) (sign_at (c ∷ bytes))
    (literal_small (number_after 0 (take (prefix_len is_digit (c ∷ bytes)) (c ∷ bytes)))) (word_at_small (c ∷ bytes)) (sign_at_small (c ∷ bytes))
  where
    choose : (a b : Bool) (x y z : Sized) → IsSmallToken x.0 → IsSmallToken y.0 → IsSmallToken z.0 → IsSmallToken (cond a x (cond b y z)).0
    choose true b x y z p q r = p
    choose false true x y z p q r = q
    choose false false x y z p q r = r

pub all_small : (read place : ℕ) (bytes : List ℕ) → AreSmall (tokens_after read place bytes)
all_small zero place [] = tt
all_small (suc read) place [] = tt
all_small (suc read) place (c ∷ bytes) = all_small read (place + 1) bytes
all_small zero place (c ∷ bytes) =
    cases AreSmall (is_blank c) (begins_comment (c ∷ bytes)) (after_comment 1 (drop 1 bytes))
    (tokens_after zero (place + 1) bytes)
    (placed (token_at c bytes).0 place ∷ tokens_after ((token_at c bytes).1 - 1) (place + 1) bytes)
    (placed token.Wrong (place + length (c ∷ bytes)) ∷ [])
    (λ rest. tokens_after (length bytes - length rest) (place + 1) bytes)
    (all_small zero (place + 1) bytes)
    (λ rest. all_small (length bytes - length rest) (place + 1) bytes)
    (tt, tt)
    (token_small c bytes, all_small ((token_at c bytes).1 - 1) (place + 1) bytes)

pub taken_small : (t : Token) (n c : ℕ) (bytes : List ℕ) → (t, n) ≡ token_at c bytes → IsSmallToken t
taken_small t n c bytes e = subst (λ (s : Sized). IsSmallToken s.0) (sym e) (token_small c bytes)
