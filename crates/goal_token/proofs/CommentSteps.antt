-- Reading a comment by places.
use Rattle.std.proofs.Common.{◌≡◌, ℕ, zero, suc, ◌+◌, ◌-◌, ◌<◌, ◌≤◌, true, false, cond, List, [], ◌∷◌, length, drop, get_or, Option, None, refl, sym, ap, ◌∙◌, arith, add-one, drop-cons, length-drop}
use Rattle.goal_token.specs.Tokens.{is_opening, is_closing, after_comment}

pub one_left : (place : ℕ) (bytes : List ℕ) → place < length bytes → drop place bytes ≡ get_or bytes place 0 ∷ drop (place + 1) bytes
one_left place bytes lt = rw (add-one, drop-cons bytes place 0) refl

pub two_left : (place : ℕ) (bytes : List ℕ) → place + 2 ≤ length bytes → drop place bytes ≡ get_or bytes place 0 ∷ get_or bytes (place + 1) 0 ∷ drop (place + 2) bytes
two_left place bytes le =
    let e : place + 1 + 1 ≡ place + 2 = omega arith in
    one_left place bytes (omega arith) ∙ ap (λ xs. get_or bytes place 0 ∷ xs) (one_left (place + 1) bytes (omega arith) ∙ ap (λ k. get_or bytes (place + 1) 0 ∷ drop k bytes) e)

pub comment_step : (depth place : ℕ) (bytes : List ℕ) → 0 < depth → place + 2 ≤ length bytes
    → after_comment depth (drop place bytes)
    ≡ cond (is_opening (get_or bytes place 0) (get_or bytes (place + 1) 0)) (after_comment (depth + 1) (drop (place + 2) bytes))
    (cond (is_closing (get_or bytes place 0) (get_or bytes (place + 1) 0)) (after_comment (depth - 1) (drop (place + 2) bytes)) (after_comment depth (drop (place + 1) bytes)))
comment_step zero place bytes pos le = absurd (omega arith)
comment_step (suc depth) place bytes pos le =
    let c = get_or bytes place 0 in
    let d = get_or bytes (place + 1) 0 in
    let up : suc (suc depth) ≡ suc depth + 1 = omega arith in
    let down : depth ≡ suc depth - 1 = omega arith in
    let next : d ∷ drop (place + 2) bytes ≡ drop (place + 1) bytes = (let e : place + 1 + 1 ≡ place + 2 = omega arith in sym (one_left (place + 1) bytes (omega arith) ∙ ap (λ k. d ∷ drop k bytes) e)) in
    ap (after_comment (suc depth)) (two_left place bytes le)
    ∙ ap (λ n. cond (is_opening c d) (after_comment n (drop (place + 2) bytes)) (cond (is_closing c d) (after_comment depth (drop (place + 2) bytes)) (after_comment (suc depth) (d ∷ drop (place + 2) bytes)))) up
    ∙ ap (λ n. cond (is_opening c d) (after_comment (suc depth + 1) (drop (place + 2) bytes)) (cond (is_closing c d) (after_comment n (drop (place + 2) bytes)) (after_comment (suc depth) (d ∷ drop (place + 2) bytes)))) down
    ∙ ap (λ xs. cond (is_opening c d) (after_comment (suc depth + 1) (drop (place + 2) bytes)) (cond (is_closing c d) (after_comment (suc depth - 1) (drop (place + 2) bytes)) (after_comment (suc depth) xs))) next

too_short : (depth : ℕ) (bytes : List ℕ) → 0 < depth → length bytes < 2 → after_comment depth bytes ≡ None
too_short zero bytes pos lt = absurd (omega arith)
too_short (suc depth) [] pos lt = refl
too_short (suc depth) (c ∷ []) pos lt = refl
too_short (suc depth) (c ∷ d ∷ bytes) pos lt = absurd (omega arith)

pub comment_end : (depth place : ℕ) (bytes : List ℕ) → 0 < depth → length bytes - place < 2 → after_comment depth (drop place bytes) ≡ None
comment_end depth place bytes pos lt = too_short depth (drop place bytes) pos (rw (length-drop place bytes) lt)

-- the bytes at a place and after it
abbrev pub first : ℕ → List ℕ → ℕ
first place bytes = get_or bytes place 0

abbrev pub second : ℕ → List ℕ → ℕ
second place bytes = get_or bytes (place + 1) 0

pub opens : (depth place : ℕ) (bytes : List ℕ) (total : Option (List ℕ)) → 0 < depth → place + 2 ≤ length bytes → is_opening (first place bytes) (second place bytes) ≡ true
    → after_comment depth (drop place bytes) ≡ total → after_comment (depth + 1) (drop (place + 2) bytes) ≡ total
opens depth place bytes total pos le e so_far = sym (rw e at (comment_step depth place bytes pos le)) ∙ so_far

pub closes : (depth place : ℕ) (bytes : List ℕ) (total : Option (List ℕ)) → 0 < depth → place + 2 ≤ length bytes → is_opening (first place bytes) (second place bytes) ≡ false
    → is_closing (first place bytes) (second place bytes) ≡ true
    → after_comment depth (drop place bytes) ≡ total → after_comment (depth - 1) (drop (place + 2) bytes) ≡ total
closes depth place bytes total pos le e f so_far = sym (rw (e, f) at (comment_step depth place bytes pos le)) ∙ so_far

pub passes : (depth place : ℕ) (bytes : List ℕ) (total : Option (List ℕ)) → 0 < depth → place + 2 ≤ length bytes → is_opening (first place bytes) (second place bytes) ≡ false
    → is_closing (first place bytes) (second place bytes) ≡ false
    → after_comment depth (drop place bytes) ≡ total → after_comment depth (drop (place + 1) bytes) ≡ total
passes depth place bytes total pos le e f so_far = sym (rw (e, f) at (comment_step depth place bytes pos le)) ∙ so_far
