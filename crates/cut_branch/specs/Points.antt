-- Rational points of linear rows, as numerators over one common denominator.
use Rattle.std.specs.Prelude.{◌≡◌, ℕ, ◌≤◌, ℤ, pos, List, [], ◌∷◌}
use Rattle.std.specs.List.{AllByRecursion}
use Rattle.mm_poly.specs.declared.term.Term.{Term}
use Rattle.mm_poly.specs.Poly.{linear_value, degree}
use Rattle.cert_kit.specs.declared.row.PRow.{PRow}
use Rattle.cert_kit.specs.Row.{Compares}
use Rattle.cert_kit.specs.Variables.{point_over, variables_of}
use Rattle.farkas_rows.specs.Fractions.{denominator, numerators}

-- every unknown is a variable
abbrev pub AreLinear : List PRow → Type 0
AreLinear rows = AllByRecursion (λ (r : PRow). degree r.poly ≤ 1) rows

-- what a monomial of degree at most 1 counts for, where variables have these numerators over a denominator
abbrev pub weight_over : List ℕ → ℤ → List ℤ → List (ℕ × ℕ) → ℤ
weight_over vars den nums [] = den
weight_over vars den nums (f ∷ fs) = point_over vars nums f.0

-- a linear polynomial's value there, as a numerator over the denominator
abbrev pub value_over : List ℕ → ℤ → List ℤ → List Term → ℤ
value_over vars den nums p = linear_value (weight_over vars den nums) p

-- its value at the point that gives the variables of rows these fractions, in order
abbrev pub value_at : List PRow → List (ℤ × ℤ) → List Term → ℤ
value_at rows xs p = value_over (variables_of rows) (denominator xs) (numerators xs) p

-- a linear row holds at the point
abbrev pub HoldsAt : List PRow → List (ℤ × ℤ) → PRow → Type 0
HoldsAt rows xs r = Compares r.op (value_at rows xs r.poly)

-- a whole number, in lowest terms
abbrev pub IsWhole : ℤ × ℤ → Type 0
IsWhole x = x.1 ≡ pos 1

abbrev pub IsIntegral : List (ℤ × ℤ) → Type 0
IsIntegral xs = AllByRecursion IsWhole xs
