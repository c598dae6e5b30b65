-- The values of a point over any common denominator, and what is false or between there.
use Rattle.std.specs.Prelude.{◌≡◌, ℕ, ℤ, pos, ◌*ℤ◌, neg_ℤ, ◌<ℤ◌, List, [], ◌∷◌, Some, slice_get}
use Rattle.std.specs.List.{AllByRecursion}
use Rattle.mm_num.specs.Small.{IsSmall}
use Rattle.mm_num.specs.Frac.{IsFraction}
use Rattle.mm_poly.specs.declared.term.Term.{Term}
use Rattle.mm_poly.specs.Poly.{linear_value, plus, scaled, variable_of, constant_of}
use Rattle.cert_kit.specs.declared.row.PRow.{PRow}
use Rattle.cert_kit.specs.Row.{Compares}
use Rattle.cert_kit.specs.Cut.{cut_of}
use Rattle.cut_branch.specs.declared.scaled.Scaled.{Scaled}
use Rattle.cut_branch.specs.Points.{value_over, IsWhole}
use Rattle.cut_branch.specs.Picking.{FitsSplit}

-- each numerator over the denominator is the fraction at its place
abbrev pub AreOver : ℤ → List ℤ → List (ℤ × ℤ) → Type 0
AreOver den [] [] = Unit {0}
AreOver den [] (x ∷ xs) = ⊥
AreOver den (n ∷ nums) [] = ⊥
AreOver den (n ∷ nums) (x ∷ xs) = (n *ℤ x.1 ≡ x.0 *ℤ den) × AreOver den nums xs

-- the fractions over a common denominator
pub record IsScaled (xs : List (ℤ × ℤ)) (s : Scaled) : Type 0 where
  pub positive : pos 0 <ℤ s.den
  pub small : IsSmall s.den
  pub over : AreOver s.den s.nums.items xs
  pub fractions : AllByRecursion IsFraction xs

-- the cut of a row is false there
abbrev pub IsFalseOver : List ℕ → Scaled → PRow → Type 0
IsFalseOver vars s r = Compares (cut_of r).op (value_over vars s.den s.nums.items (cut_of r).poly) → ⊥

-- the row of this number has such a cut
pub record HasFalseCut (rows : List PRow) (vars : List ℕ) (s : Scaled) (n : ℕ) : Type 0 where
  pub row : PRow
  pub here : slice_get rows n ≡ Some row
  pub cut : IsFalseOver vars s row

-- the value at a place isn't whole
pub record IsFractional (xs : List (ℤ × ℤ)) (n : ℕ) : Type 0 where
  pub value : ℤ × ℤ
  pub here : slice_get xs n ≡ Some value
  pub split : IsWhole value → ⊥

-- a multiple of a variable, and a number
abbrev pub shifted : ℤ → ℕ → ℤ → List Term
shifted sign v k = plus (scaled sign (variable_of v)) (constant_of k)

-- wherever the variable has this value, the polynomial is above -1 and below 0
pub record IsSplitAt (v : ℕ) (x : ℤ × ℤ) (p : List Term) : Type 0 where
  pub between : (w : List (ℕ × ℕ) → ℤ) → pos 0 <ℤ w [] → w ((v, 1) ∷ []) *ℤ x.1 ≡ x.0 *ℤ w [] → (neg_ℤ (w []) <ℤ linear_value w p) × (linear_value w p <ℤ pos 0)
  pub fits : FitsSplit p
