-- Boxes: clauses whose rows of one variable bound each of their variables from below and from above.
use Rattle.std.specs.Prelude.{◌≡◌, ℕ, zero, suc, ◌+◌, ◌*◌, ◌^◌, max, ℤ, pos, negsuc, ◌+ℤ◌, ◌-ℤ◌, neg_ℤ, ◌≤ℤ◌, unsigned_abs, List, [], ◌∷◌, map, length, Bool, true, false, ◌&&◌, nat_le, nat_lt, Option, Some, None, if◌then◌else◌}
use Rattle.std.specs.Option.{option_map_or}
use Rattle.std.specs.Int.{int_min, int_max}
use Rattle.std.specs.List.{flat_map, find, list_all}
use Rattle.std.specs.Ordering.{int_eq, is_eq}
use Rattle.mm_num.specs.Option.{◌>>=◌}
use Rattle.mm_poly.specs.declared.term.Term.{Term}
use Rattle.mm_poly.specs.Mono.{mono_cmp}
use Rattle.mm_poly.specs.Poly.{norm, spread, degree, constant_part, without_constant}
use Rattle.cert_kit.specs.declared.row.Op.{Op}
use Rattle.cert_kit.specs.declared.row.Op.TheVariants.{Ge, Eq}
use Rattle.cert_kit.specs.declared.row.PRow.{PRow}
use Rattle.cert_kit.specs.Row.{all_hold}
use Rattle.cert_kit.specs.Cut.{cut_of}
use Rattle.cert_kit.specs.Variables.{variables_of, point_over}
use Rattle.box_enum.specs.declared.bounds.Bounds.{Bounds}

-- ---- the bounds of a variable

-- the terms are c times the variable x, and nothing else
abbrev pub is_multiple_of : ℕ → ℤ → List Term → Bool
is_multiple_of x c (t ∷ []) = is_eq (mono_cmp t.mono ((x, 1) ∷ [])) && int_eq t.coeff c
is_multiple_of x c ts = false

-- c times the variable x, and a constant
abbrev pub is_shifted : ℕ → ℤ → List Term → Bool
is_shifted x c p = is_multiple_of x c (without_constant p)

-- x + k >= 0 and x + k = 0 bound x from below by -k, and -x + k = 0 by k
abbrev pub lower_by : ℕ → Op → List Term → Option ℤ
lower_by x Ge p = if is_shifted x (pos 1) p then Some (neg_ℤ (constant_part p)) else None
lower_by x Eq p = if is_shifted x (pos 1) p then Some (neg_ℤ (constant_part p)) else if is_shifted x (negsuc 0) p then Some (constant_part p) else None

-- -x + k >= 0 and -x + k = 0 bound x from above by k, and x + k = 0 by -k
abbrev pub upper_by : ℕ → Op → List Term → Option ℤ
upper_by x Ge p = if is_shifted x (negsuc 0) p then Some (constant_part p) else None
upper_by x Eq p = if is_shifted x (negsuc 0) p then Some (constant_part p) else if is_shifted x (pos 1) p then Some (neg_ℤ (constant_part p)) else None

-- the better of two bounds, where one or both may be lacking
abbrev pub better : (ℤ → ℤ → ℤ) → Option ℤ → Option ℤ → Option ℤ
better choose None o = o
better choose (Some a) None = Some a
better choose (Some a) (Some b) = Some (choose a b)

-- the greatest lower and the least upper bound that the cuts of rows give a variable
abbrev pub low_of : ℕ → List PRow → Option ℤ
low_of x [] = None
low_of x (r ∷ rows) = better int_max (lower_by x (cut_of r).op (cut_of r).poly) (low_of x rows)

abbrev pub high_of : ℕ → List PRow → Option ℤ
high_of x [] = None
high_of x (r ∷ rows) = better int_min (upper_by x (cut_of r).op (cut_of r).poly) (high_of x rows)

-- ---- the box of a clause

-- a variable's least and greatest value
pub record Side : Type 0 where
  pub low : ℤ
  pub high : ℤ

abbrev pub side_of : List PRow → ℕ → Option Side
side_of rows x = low_of x rows >>= λ low. high_of x rows >>= λ high. Some (record { low = low; high = high })

abbrev pub sides_of : List PRow → List ℕ → Option (List Side)
sides_of rows [] = Some []
sides_of rows (x ∷ xs) = side_of rows x >>= λ s. sides_of rows xs >>= λ sides. Some (s ∷ sides)

-- the side of each variable, in their order; none where some variable lacks a bound
abbrev pub box_of : List PRow → Option (List Side)
box_of rows = sides_of rows (variables_of rows)

abbrev pub bounds_of : List Side → Bounds
bounds_of sides = record { low = map (λ (s : Side). s.low) sides; high = map (λ (s : Side). s.high) sides }

-- ---- its points

-- the natural number, 0 for a number below 0
abbrev pub not_below_0 : ℤ → ℕ
not_below_0 (pos n) = n
not_below_0 (negsuc n) = 0

-- how many values a side has
abbrev pub count_of : Side → ℕ
count_of s = not_below_0 ((s.high -ℤ s.low) +ℤ pos 1)

-- how many points a box has
abbrev pub size_of : List Side → ℕ
size_of [] = 1
size_of (s ∷ sides) = count_of s * size_of sides

-- this many numbers from z on
abbrev pub integers_from : ℤ → ℕ → List ℤ
integers_from z zero = []
integers_from z (suc n) = z ∷ integers_from (z +ℤ pos 1) n

-- by the first variable's value, then the second's, each rising
abbrev pub points_of : List Side → List (List ℤ)
points_of [] = [] ∷ []
points_of (s ∷ sides) = flat_map (λ z. map (λ zs. z ∷ zs) (points_of sides)) (integers_from s.low (count_of s))

-- whether the values of the rows' variables, in their order, solve the rows
abbrev pub solved_by : List PRow → List ℤ → Bool
solved_by rows zs = all_hold (point_over (variables_of rows) zs) rows

-- the first point of the box that solves the rows, where there is one
abbrev pub first_point : List PRow → Option (List ℤ)
first_point rows = box_of rows >>= λ sides. find (solved_by rows) (points_of sides)

-- a point gives each of these variables a value from the least to the greatest of its side
abbrev pub AreBetween : (ℕ → ℤ) → List ℕ → List Side → Type 0
AreBetween x [] sides = Unit {0}
AreBetween x (v ∷ vars) [] = ⊥
AreBetween x (v ∷ vars) (s ∷ sides) = (s.low ≤ℤ x v) × (x v ≤ℤ s.high) × AreBetween x vars sides

-- ---- boxed within so many turns

-- the greatest magnitude of a bound, 0 without variables
abbrev pub reach_of : List Side → ℕ
reach_of [] = 0
reach_of (s ∷ sides) = max (max (unsigned_abs s.low) (unsigned_abs s.high)) (reach_of sides)

-- small enough for each step of a certificate over a box that reaches to b
abbrev pub is_modest : ℕ → PRow → Bool
is_modest b r = nat_le (spread r.poly * (2 * degree r.poly + 1)) 65536 && nat_lt (norm r.poly * (4 * b + 4) ^ (2 * degree r.poly)) (2 ^ 100)

abbrev pub is_box_within : ℕ → List PRow → List Side → Bool
is_box_within turns rows sides = nat_le (length sides) 2048 && (nat_le (size_of sides) turns && list_all (is_modest (reach_of sides)) rows)

-- each variable has both bounds, there are at most 2,048 variables and as many points as turns, and each row is small
-- enough
abbrev pub is_boxed : ℕ → List PRow → Bool
is_boxed turns rows = option_map_or (is_box_within turns rows) (box_of rows) false

abbrev pub IsBoxed : ℕ → List PRow → Type 0
IsBoxed turns rows = is_boxed turns rows ≡ true
