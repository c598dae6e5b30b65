-- The tokens of bytes, step by step: a blank, a comment, a token.
use Rattle.std.proofs.Common.{◌≡◌, ℕ, zero, suc, ◌+◌, ◌-◌, ◌<◌, ◌≤◌, Bool, true, false, cond, List, [], ◌∷◌, length, take, drop, Option, Some, None, refl, sym, ap, subst, ◌∙◌, arith, add-zero}
use Rattle.std.specs.Option.{option_map_or}
use Rattle.std.proofs.lemmas.Option.{same_Some}
use Rattle.goal_token.specs.declared.token.Token.{Token}
use Rattle.goal_token.specs.declared.token.Token.TheVariants as token
use Rattle.goal_token.specs.declared.token.Placed.{Placed}
use Rattle.goal_token.specs.Words.{lookup, words, signs_of_3, signs_of_2, signs_of_1}
use Rattle.goal_token.specs.Tokens.{is_blank, is_digit, begins_name, is_opening, is_closing, after_comment, begins_comment, Sized, name_length, dotted_length, joined_length, word, sign_or, literal_at, word_at, sign_at, token_at, placed, tokens_after, tokens_at, PlacesRise}

-- bytes that have been read are skipped
pub skip : (read place : ℕ) (bytes : List ℕ) → tokens_after read place bytes ≡ tokens_at (place + read) (drop read bytes)
skip zero place bytes = rw (add-zero place) refl
skip (suc read) place [] = refl
skip (suc read) place (c ∷ bytes) =
    let e : place + 1 + read ≡ place + suc read = omega arith in
    skip read (place + 1) bytes ∙ ap (λ p. tokens_at p (drop read bytes)) e

-- what follows a comment is an end of the bytes
pub record IsRest (bytes rest : List ℕ) : Type 0 where
  pub shorter : length rest ≤ length bytes
  pub end : rest ≡ drop (length bytes - length rest) bytes

whole : (bytes : List ℕ) → IsRest bytes bytes
whole bytes =
    let e : length bytes - length bytes ≡ 0 = omega arith in
    record { shorter = omega arith; end = rw e refl }

longer : (c : ℕ) (bytes rest : List ℕ) → IsRest bytes rest → IsRest (c ∷ bytes) rest
longer c bytes rest is =
    let e : length (c ∷ bytes) - length rest ≡ suc (length bytes - length rest) = let s = is.shorter in omega arith in
    record { shorter = let s = is.shorter in omega arith; end = rw e is.end }

by_case : (a b : Bool) (x y z o : Option (List ℕ)) {P : Type 0} → cond a x (cond b y z) ≡ o → (x ≡ o → P) → (y ≡ o → P) → (z ≡ o → P) → P
by_case true b x y z o e p q r = p e
by_case false true x y z o e p q r = q e
by_case false false x y z o e p q r = r e

pub comment_rest : (depth : ℕ) (bytes rest : List ℕ) → after_comment depth bytes ≡ Some rest → IsRest bytes rest
comment_rest zero bytes rest e = subst (IsRest bytes) (same_Some bytes rest e) (whole bytes)
comment_rest (suc depth) [] rest e = absurd cc
comment_rest (suc depth) (c ∷ []) rest e = absurd cc
comment_rest (suc depth) (c ∷ d ∷ bytes) rest e =
    by_case (is_opening c d) (is_closing c d) (after_comment (suc (suc depth)) bytes) (after_comment depth bytes) (after_comment (suc depth) (d ∷ bytes)) (Some rest) e
    (λ h. longer c (d ∷ bytes) rest (longer d bytes rest (comment_rest (suc (suc depth)) bytes rest h)))
    (λ h. longer c (d ∷ bytes) rest (longer d bytes rest (comment_rest depth bytes rest h)))
    (λ h. longer c (d ∷ bytes) rest (comment_rest (suc depth) (d ∷ bytes) rest h))

-- ---- the equations

pub of_blank : (place c : ℕ) (bytes : List ℕ) → is_blank c ≡ true → tokens_at place (c ∷ bytes) ≡ tokens_at (place + 1) bytes
of_blank place c bytes e = rw e refl

pub of_comment : (place c : ℕ) (bytes rest : List ℕ) → is_blank c ≡ false → begins_comment (c ∷ bytes) ≡ true → after_comment 1 (drop 1 bytes) ≡ Some rest
    → tokens_at place (c ∷ bytes) ≡ tokens_at (place + (length (c ∷ bytes) - length rest)) rest
of_comment place c [] rest b o e = absurd cc
of_comment place c (d ∷ bytes) rest b o e =
    let is = longer d bytes rest (comment_rest 1 bytes rest e) in
    let n = length (d ∷ bytes) - length rest in
    let p : place + 1 + n ≡ place + (length (c ∷ d ∷ bytes) - length rest) = let s = is.shorter in omega arith in
    rw (b, o, e) (skip n (place + 1) (d ∷ bytes) ∙ ap (tokens_at (place + 1 + n)) (sym is.end) ∙ ap (λ q. tokens_at q rest) p)

pub of_open_comment : (place c : ℕ) (bytes : List ℕ) → is_blank c ≡ false → begins_comment (c ∷ bytes) ≡ true → after_comment 1 (drop 1 bytes) ≡ None
    → tokens_at place (c ∷ bytes) ≡ placed token.Wrong (place + length (c ∷ bytes)) ∷ []
of_open_comment place c bytes b o e = rw (b, o, e) refl

-- ---- a token has a byte

-- a token of at least one byte
abbrev HasByte : Sized → Type 0
HasByte t = 1 ≤ t.1

literal_has : (c : ℕ) (bytes : List ℕ) → is_digit c ≡ true → HasByte (literal_at (c ∷ bytes))
unfolding literal_at
literal_has c bytes e = rw e (omega arith)

name_has : (c : ℕ) (bytes : List ℕ) → begins_name c ≡ true → 1 ≤ name_length (c ∷ bytes)
name_has c bytes e = rw e (omega arith)

either_has : {A : Type 0} (o : Option A) (f : A → Token) (n : ℕ) (d : Sized) → 1 ≤ n → HasByte d → HasByte (option_map_or (λ x. (f x, n)) o d)
either_has (Some x) f n d h k = h
either_has None f n d h k = k

word_has : (c : ℕ) (bytes : List ℕ) → begins_name c ≡ true → HasByte (word_at (c ∷ bytes))
unfolding word_at
word_has c bytes e =
    let has = name_has c bytes e in
    let all = c ∷ bytes in
    either_has (lookup (take (joined_length all) all) words) (λ t. t) (joined_length all) (word (take (name_length all) all), name_length all) (joined_has (name_length all) (dotted_length (drop (name_length all) all)) has) has
  where
    joined_has : (a b : ℕ) → 1 ≤ a → 1 ≤ a + b
    joined_has a b h = omega arith

sign_has : (bytes : List ℕ) → HasByte (sign_at bytes)
unfolding sign_at
sign_has bytes =
    let has_1 = either_has (lookup (take 1 bytes) signs_of_1) token.Sign 1 (token.Wrong, 1) (omega arith) (omega arith) in
    let has_2 = either_has (lookup (take 2 bytes) signs_of_2) token.Sign 2 (sign_or 1 (lookup (take 1 bytes) signs_of_1) (token.Wrong, 1)) (omega arith) has_1 in
    either_has (lookup (take 3 bytes) signs_of_3) token.Sign 3 (sign_or 2 (lookup (take 2 bytes) signs_of_2) (sign_or 1 (lookup (take 1 bytes) signs_of_1) (token.Wrong, 1))) (omega arith) has_2

choose : (a b : Bool) (x y z : Sized) → (a ≡ true → HasByte x) → (b ≡ true → HasByte y) → HasByte z → HasByte (cond a x (cond b y z))
choose true b x y z p q r = p refl
choose false true x y z p q r = q refl
choose false false x y z p q r = r

pub token_has : (c : ℕ) (bytes : List ℕ) → 1 ≤ (token_at c bytes).1
unfolding token_at
token_has c bytes =
    choose (is_digit c) (begins_name c) (literal_at (c ∷ bytes)) (word_at (c ∷ bytes)) (sign_at (c ∷ bytes)) (literal_has c bytes) (word_has c bytes) (sign_has (c ∷ bytes))

pub of_token : (place c : ℕ) (bytes : List ℕ) → is_blank c ≡ false → begins_comment (c ∷ bytes) ≡ false
    → tokens_at place (c ∷ bytes) ≡ placed (token_at c bytes).0 place ∷ tokens_at (place + (token_at c bytes).1) (drop (token_at c bytes).1 (c ∷ bytes))
of_token place c bytes b o =
    let n = (token_at c bytes).1 in
    let has : 1 ≤ n = token_has c bytes in
    let p : place + 1 + (n - 1) ≡ place + n = omega arith in
    let d : drop (n - 1) bytes ≡ drop n (c ∷ bytes) = (let s : n ≡ suc (n - 1) = omega arith in subst (λ k. drop (n - 1) bytes ≡ drop k (c ∷ bytes)) (sym s) refl) in
    rw (b, o) (ap (λ ts. placed (token_at c bytes).0 place ∷ ts) (skip (n - 1) (place + 1) bytes ∙ ap (λ q. tokens_at q (drop (n - 1) bytes)) p ∙ ap (tokens_at (place + n)) d))

-- ---- places

pub cases : (P : List Placed → Type 0) (b o : Bool) (e : Option (List ℕ)) (x t u : List Placed) (f : List ℕ → List Placed) → P x → ((rest : List ℕ) → P (f rest)) → P u → P t
    → P (cond b x (cond o (elim e as (λ _. List Placed) [ Some rest ↦ f rest | None ↦ u ]) t))
cases P true o e x t u f p q r s = p
cases P false true (Some rest) x t u f p q r s = q rest
cases P false true None x t u f p q r s = r
cases P false false e x t u f p q r s = s

pub rise : (read place : ℕ) (bytes : List ℕ) (least end : ℕ) → least ≤ place → place + length bytes ≡ end → PlacesRise least end (tokens_after read place bytes)
rise zero place [] least end le e = tt
rise (suc read) place [] least end le e = tt
rise (suc read) place (c ∷ bytes) least end le e = rise read (place + 1) bytes least end (omega arith) (omega arith)
rise zero place (c ∷ bytes) least end le e =
    let p : place + 1 + length bytes ≡ end = omega arith in
    let up : least ≤ place + 1 = omega arith in
    let below : place < end = omega arith in
    cases (PlacesRise least end) (is_blank c) (begins_comment (c ∷ bytes)) (after_comment 1 (drop 1 bytes))
    (tokens_after zero (place + 1) bytes)
    (placed (token_at c bytes).0 place ∷ tokens_after ((token_at c bytes).1 - 1) (place + 1) bytes)
    (placed token.Wrong (place + length (c ∷ bytes)) ∷ [])
    (λ rest. tokens_after (length bytes - length rest) (place + 1) bytes)
    (rise zero (place + 1) bytes least end up p)
    (λ rest. rise (length bytes - length rest) (place + 1) bytes least end up p)
    (omega arith, omega arith, λ _. refl, tt)
    (le, omega arith, λ h. absurd (omega arith), rise ((token_at c bytes).1 - 1) (place + 1) bytes (place + 1) end (omega arith) p)
