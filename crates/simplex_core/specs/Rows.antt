-- Rows, and the points that solve them.
use Rattle.std.specs.Prelude.{◌≡◌, ℕ, suc, true, List, [], ◌∷◌, length, ℤ, pos, ◌+ℤ◌, ◌*ℤ◌, ◌≤ℤ◌}
use Rattle.std.specs.List.{All, AllByRecursion}
use Rattle.mm_num.specs.Small.{IsSmall}
use Rattle.mm_num.specs.Frac.{IsFraction}
use Rattle.simplex_core.specs.declared.row.LinRow.{LinRow}

-- how many unknowns the rows have
abbrev pub unknowns : List LinRow → ℕ
unknowns [] = 0
unknowns (r ∷ rs) = length r.coeffs.items

-- each row has n coefficients
abbrev pub AreWide : ℕ → List LinRow → Type 0
AreWide n rows = AllByRecursion (λ r. length r.coeffs.items ≡ n) rows

-- all numbers are small
abbrev pub IsSmallRow : LinRow → Type 0
IsSmallRow r = All IsSmall r.coeffs.items × IsSmall r.constant

abbrev pub AreSmall : List LinRow → Type 0
AreSmall rows = All IsSmallRow rows

-- a value for each variable, times numbers
abbrev pub dot : (ℕ → ℤ) → List ℤ → ℤ
dot v [] = pos 0
dot v (c ∷ cs) = c *ℤ v 0 +ℤ dot (λ i. v (suc i)) cs

-- coeffs * x + constant, where the unknowns and the constant's own value stand over one denominator
abbrev pub row_value : (ℕ → ℤ) → ℤ → LinRow → ℤ
row_value v h r = dot v r.coeffs.items +ℤ r.constant *ℤ h

-- coeffs * x + constant at fractions, as a numerator over the product of the denominators
abbrev pub row_fraction : List ℤ → ℤ → List (ℤ × ℤ) → ℤ × ℤ
row_fraction [] k xs = (k, pos 1)
row_fraction (c ∷ cs) k [] = (k, pos 1)
row_fraction (c ∷ cs) k (x ∷ xs) =
    let rest : ℤ × ℤ = row_fraction cs k xs in
    ((c *ℤ x.0) *ℤ rest.1 +ℤ x.1 *ℤ rest.0, x.1 *ℤ rest.1)

-- the fractions solve a row: the numerator over a denominator above 0 is at least 0, or 0
abbrev pub IsSolved : List (ℤ × ℤ) → LinRow → Type 0
IsSolved xs r =
    (pos 0 ≤ℤ (row_fraction r.coeffs.items r.constant xs).0)
    × (r.equal ≡ true → (row_fraction r.coeffs.items r.constant xs).0 ≡ pos 0)

-- a fraction for each unknown, which together solve all rows
pub record IsPoint (rows : List LinRow) (xs : List (ℤ × ℤ)) : Type 0 where
  pub count : length xs ≡ unknowns rows
  pub fractions : AllByRecursion IsFraction xs
  pub solved : AllByRecursion (IsSolved xs) rows
