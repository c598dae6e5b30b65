-- The tokens of bytes from a place on, step by step.
use Rattle.std.proofs.Common.{◌≡◌, ℕ, ◌+◌, ◌-◌, ◌<◌, ◌≤◌, true, false, List, [], ◌∷◌, length, drop, get_or, Some, None, sym, ap, subst, ◌∙◌, arith, length-drop}
use Rattle.std.proofs.lemmas.List.{drop-drop}
use Rattle.goal_token.specs.declared.token.Token.{Token}
use Rattle.goal_token.specs.declared.token.Token.TheVariants as token
use Rattle.goal_token.specs.declared.token.Placed.{Placed}
use Rattle.goal_token.specs.Tokens.{is_blank, after_comment, begins_comment, Sized, token_at, placed, tokens_at, BeginsToken}
use Rattle.goal_token.proofs.CommentSteps.{one_left, first}
use Rattle.goal_token.proofs.TokenLaws.{of_blank, of_comment, of_open_comment, of_token}

-- the tokens from a place on
abbrev pub tokens_from : ℕ → List ℕ → List Placed
tokens_from place bytes = tokens_at place (drop place bytes)

pub past_blank : (place : ℕ) (bytes : List ℕ) (total : List Placed) → place < length bytes → is_blank (first place bytes) ≡ true
    → total ≡ tokens_from place bytes → total ≡ tokens_from (place + 1) bytes
past_blank place bytes total lt e so_far =
    so_far ∙ ap (tokens_at place) (one_left place bytes lt) ∙ of_blank place (first place bytes) (drop (place + 1) bytes) e

drop_two : (place : ℕ) (bytes : List ℕ) → drop 1 (drop (place + 1) bytes) ≡ drop (place + 2) bytes
drop_two place bytes = drop-drop 1 (place + 1) bytes ∙ (let e : place + 1 + 1 ≡ place + 2 = omega arith in ap (λ k. drop k bytes) e)

pub past_comment : (place after : ℕ) (bytes : List ℕ) (total : List Placed) → place + 2 ≤ after → after ≤ length bytes → is_blank (first place bytes) ≡ false
    → begins_comment (drop place bytes) ≡ true → after_comment 1 (drop (place + 2) bytes) ≡ Some (drop after bytes)
    → total ≡ tokens_from place bytes → total ≡ tokens_from after bytes
past_comment place after bytes total ge le b o e so_far =
    let one = one_left place bytes (omega arith) in
    let two : drop 1 (drop (place + 1) bytes) ≡ drop (place + 2) bytes = drop_two place bytes in
    let n : place + (length (first place bytes ∷ drop (place + 1) bytes) - length (drop after bytes)) ≡ after = omega (arith, length-drop (place + 1) bytes, length-drop after bytes) in
    so_far ∙ ap (tokens_at place) one
    ∙ of_comment place (first place bytes) (drop (place + 1) bytes) (drop after bytes) b (subst (λ xs. begins_comment xs ≡ true) one o) (ap (after_comment 1) two ∙ e)
    ∙ ap (λ k. tokens_at k (drop after bytes)) n

pub in_open_comment : (place : ℕ) (bytes : List ℕ) (total : List Placed) → place < length bytes → is_blank (first place bytes) ≡ false
    → begins_comment (drop place bytes) ≡ true → after_comment 1 (drop (place + 2) bytes) ≡ None
    → total ≡ tokens_from place bytes → total ≡ placed token.Wrong (length bytes) ∷ []
in_open_comment place bytes total lt b o e so_far =
    let one = one_left place bytes lt in
    let two : drop 1 (drop (place + 1) bytes) ≡ drop (place + 2) bytes = drop_two place bytes in
    let n : place + length (first place bytes ∷ drop (place + 1) bytes) ≡ length bytes = omega (arith, length-drop (place + 1) bytes) in
    so_far ∙ ap (tokens_at place) one
    ∙ of_open_comment place (first place bytes) (drop (place + 1) bytes) b (subst (λ xs. begins_comment xs ≡ true) one o) (ap (after_comment 1) two ∙ e)
    ∙ ap (λ k. placed token.Wrong k ∷ []) n

pub begins_here : (place : ℕ) (bytes : List ℕ) → place < length bytes → is_blank (first place bytes) ≡ false → begins_comment (drop place bytes) ≡ false → BeginsToken (drop place bytes)
begins_here place bytes lt b o =
    let one = one_left place bytes lt in
    subst BeginsToken (sym one) (b, subst (λ xs. begins_comment xs ≡ false) one o)

front : (place : ℕ) (bytes : List ℕ) (t : Token) (n : ℕ) → 0 < length bytes → BeginsToken bytes → (t, n) ≡ token_at (get_or bytes 0 0) (drop 1 bytes)
    → tokens_at place bytes ≡ placed t place ∷ tokens_at (place + n) (drop n bytes)
front place [] t n lt begins e = absurd (omega arith)
front place (c ∷ bytes) t n lt begins e =
    subst (λ (s : Sized). tokens_at place (c ∷ bytes) ≡ placed s.0 place ∷ tokens_at (place + s.1) (drop s.1 (c ∷ bytes))) (sym e) (of_token place c bytes begins.0 begins.1)

pub taken : (place : ℕ) (bytes : List ℕ) (t : Token) (n : ℕ) → place < length bytes → BeginsToken (drop place bytes)
    → (t, n) ≡ token_at (get_or (drop place bytes) 0 0) (drop 1 (drop place bytes))
    → tokens_from place bytes ≡ placed t place ∷ tokens_from (place + n) bytes
taken place bytes t n lt begins e =
    let some : 0 < length (drop place bytes) = omega (arith, length-drop place bytes) in
    front place (drop place bytes) t n some begins e ∙ ap (λ xs. placed t place ∷ tokens_at (place + n) xs) (drop-drop n place bytes)
