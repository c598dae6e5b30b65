-- Points written as lists of numbers, and a bound on values there.
use Rattle.std.specs.Prelude.{ℕ, ◌*◌, ◌^◌, max, ℤ, pos, unsigned_abs, List, [], ◌∷◌, slice_index_or}
use Rattle.mm_poly.specs.declared.term.Term.{Term}
use Rattle.mm_poly.specs.Poly.{norm, degree}

-- the number at each place, and 0 past the end
abbrev pub point_of : List ℤ → ℕ → ℤ
point_of point v = slice_index_or point v (pos 0)

-- the greatest magnitude, 0 where there is no number
abbrev pub greatest_magnitude : List ℤ → ℕ
greatest_magnitude [] = 0
greatest_magnitude (z ∷ zs) = max (unsigned_abs z) (greatest_magnitude zs)

-- a bound on a value's magnitude: what the norm is multiplied by is at least 1
abbrev pub value_bound : List Term → List ℤ → ℕ
value_bound p point = norm p * max 1 (greatest_magnitude point) ^ degree p
