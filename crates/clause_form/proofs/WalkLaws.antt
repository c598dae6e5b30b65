-- The alternative at a place.
use Rattle.std.specs.Prelude.{◌≡◌, ℕ, zero, suc, ◌+◌, ◌*◌, ◌-◌, ◌/◌, ◌%◌, ◌<◌, ◌≤◌, List, [], ◌∷◌, ◌++◌, map, length, slice_index_or, refl}
use Rattle.std.specs.Borrow.{Bor}
use Rattle.std.proofs.Common.{ap, ◌∙◌, sym, arith, inl, inr}
use Rattle.std.proofs.lemmas.Bool.{cases_lt}
use Rattle.std.proofs.lemmas.List.{append-nil, length-map, get_or_append_left, get_or-append-add, get_or-map}
use Rattle.std.proofs.lemmas.Nat.{div-add-mod', div-mul-add}
use Rattle.std.proofs.Math.Nat.{div-eq_of_lt, mod-eq_of_lt, mod-lt}
use Rattle.clause_form.specs.Alternatives.{pairs}
use Rattle.cert_kit.specs.declared.row.PRow.{PRow}
use Rattle.clause_form.specs.machine.Walk.{lent, row_at}

pub none_there : (rows : List PRow) (k : ℕ) → length rows ≤ k → row_at rows k ≡ []
none_there [] k h = refl
none_there (r ∷ rows) zero h = absurd (omega arith)
none_there (r ∷ rows) (suc k) h = none_there rows k (omega arith)

pub one_there : (rows : List PRow) (k : ℕ) (r : PRow) → k < length rows → r ≡ slice_index_or rows k r → row_at rows k ≡ r ∷ []
one_there [] k r h e = absurd (omega arith)
one_there (q ∷ rows) zero r h e = ap (λ s. s ∷ []) (sym e)
one_there (q ∷ rows) (suc k) r h e = one_there rows k r (omega arith) e

pub nothing_more : (out rows : List PRow) (k : ℕ) → length rows ≤ k → out ≡ out ++ row_at rows k
nothing_more out rows k h = sym (ap (λ s. out ++ s) (none_there rows k h) ∙ append-nil out)

lent_append : (out : List (Bor PRow)) (b : Bor PRow) → lent (out ++ b ∷ []) ≡ lent out ++ b.now ∷ []
lent_append [] b = refl
lent_append (a ∷ out) b = ap (λ s. a.now ∷ s) (lent_append out b)

pub one_more : (out new : List (Bor PRow)) (b : Bor PRow) (rows : List PRow) (k : ℕ) → new ≡ out ++ b ∷ [] → k < length rows → b.now ≡ slice_index_or rows k b.now → lent new ≡ lent out ++ row_at rows k
one_more out new b rows k e h i = ap lent e ∙ lent_append out b ∙ ap (λ s. lent out ++ s) (sym (one_there rows k b.now h i))

-- ---- places in pairs

next_quotient : (n j : ℕ) → 0 < n → (n + j) / n ≡ suc (j / n)
next_quotient n j h =
    let e : n + j ≡ suc (j / n) * n + j % n = omega (arith, div-add-mod' j n) in
    ap (λ x. x / n) e ∙ div-mul-add (suc (j / n)) n (j % n) (mod-lt j h)

next_remainder : (n j : ℕ) → 0 < n → (n + j) % n ≡ j % n
next_remainder n j h =
    let a = div-add-mod' (n + j) n in
    let b = div-add-mod' j n in
    let c : (n + j) / n * n ≡ suc (j / n) * n = ap (λ x. x * n) (next_quotient n j h) in
    omega arith

abbrev AtPair : List (List PRow) → List (List PRow) → ℕ → Type 0
AtPair a b k = slice_index_or (pairs a b) k [] ≡ slice_index_or a (k / length b) [] ++ slice_index_or b (k % length b) []

-- the alternative at a place is one of the first and one of the second
pub pairs_at : (a b : List (List PRow)) (k : ℕ) → 0 < length b → k < length a * length b
    → slice_index_or (pairs a b) k [] ≡ slice_index_or a (k / length b) [] ++ slice_index_or b (k % length b) []
pairs_at [] b k h l = absurd (omega arith)
pairs_at (r ∷ a) b k h l = elim (cases_lt k (length b)) [ inl s ↦ first s | inr s ↦ later s (λ j m. pairs_at a b j h m) ]
  where
    first : k < length b → AtPair (r ∷ a) b k
    first s =
        let m : length (map (λ c. r ++ c) b) ≡ length b = length-map b (λ c. r ++ c) in
        get_or_append_left (map (λ c. r ++ c) b) (pairs a b) [] k (omega arith)
        ∙ get_or-map (λ c. r ++ c) b k [] [] s
        ∙ sym (ap (λ i. slice_index_or (r ∷ a) i [] ++ slice_index_or b (k % length b) []) (div-eq_of_lt s) ∙ ap (λ i. r ++ slice_index_or b i []) (mod-eq_of_lt s))

    later : length b ≤ k → ((j : ℕ) → j < length a * length b → slice_index_or (pairs a b) j [] ≡ slice_index_or a (j / length b) [] ++ slice_index_or b (j % length b) []) → AtPair (r ∷ a) b k
    later s f =
        let j : ℕ = k - length b in
        let m : length (map (λ c. r ++ c) b) ≡ length b = length-map b (λ c. r ++ c) in
        let e : length (map (λ c. r ++ c) b) + (k - length b) ≡ k = omega arith in
        let g : length b + (k - length b) ≡ k = omega arith in
        let p : slice_index_or (pairs (r ∷ a) b) (length (map (λ c. r ++ c) b) + (k - length b)) [] ≡ slice_index_or (pairs a b) (k - length b) []
        = get_or-append-add (map (λ c. r ++ c) b) (pairs a b) (k - length b) [] in
        let q : k / length b ≡ suc ((k - length b) / length b) = ap (λ x. x / length b) (sym g) ∙ next_quotient (length b) (k - length b) h in
        let t : k % length b ≡ (k - length b) % length b = ap (λ x. x % length b) (sym g) ∙ next_remainder (length b) (k - length b) h in
        ap (λ i. slice_index_or (pairs (r ∷ a) b) i []) (sym e) ∙ p ∙ f (k - length b) (omega arith)
        ∙ sym (ap (λ i. slice_index_or (r ∷ a) i [] ++ slice_index_or b (k % length b) []) q ∙ ap (λ i. slice_index_or a ((k - length b) / length b) [] ++ slice_index_or b i []) t)
