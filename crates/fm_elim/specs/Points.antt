-- The point of an elimination: the unknowns get values in the reverse order of their removal.
use Rattle.std.specs.Prelude.{ℕ, ◌+◌, ◌*◌, ◌^◌, ◌<◌, ◌≤◌, max, ℤ, pos, ◌*ℤ◌, neg_ℤ, unsigned_abs, List, [], ◌∷◌, map, cond}
use Rattle.std.specs.Int.{int_min, int_max}
use Rattle.std.specs.List.{AllByRecursion}
use Rattle.mm_num.specs.Quotient.{floor_by}
use Rattle.mm_poly.specs.declared.term.Term.{Term}
use Rattle.mm_poly.specs.Mono.{is_constant}
use Rattle.mm_poly.specs.Poly.{linear_value, with_weight, degree, Fits}
use Rattle.cert_kit.specs.declared.row.PRow.{PRow}
use Rattle.cert_kit.specs.Row.{Compares}
use Rattle.cert_kit.specs.Meaning.{at_least_0}
use Rattle.fm_elim.specs.declared.removal.Removal.{Removal}
use Rattle.fm_elim.specs.declared.removal.Removal.TheVariants.{Solved, Bounded}
use Rattle.fm_elim.specs.Unknowns.{unknowns, coeff_in}
use Rattle.fm_elim.specs.Elimination.{outcome}

-- a value for each monomial
abbrev pub Values : Type 0
Values = List (ℕ × ℕ) → ℤ

-- 0 for each unknown, and the constant counts for itself
abbrev pub no_values : Values
no_values m = cond (is_constant m) (pos 1) (pos 0)

-- what a row's value is without an unknown's term
abbrev pub rest_of : List (ℕ × ℕ) → Values → List Term → ℤ
rest_of u v p = linear_value (with_weight v u (pos 0)) p

-- the least value that a lower row allows, and the greatest one that an upper row allows
abbrev pub least_allowed : List (ℕ × ℕ) → Values → PRow → ℤ
least_allowed u v l = neg_ℤ (floor_by (rest_of u v l.poly) (unsigned_abs (coeff_in u l)))

abbrev pub greatest_allowed : List (ℕ × ℕ) → Values → PRow → ℤ
greatest_allowed u v h = floor_by (rest_of u v h.poly) (unsigned_abs (coeff_in u h))

-- a value lowered to what the upper rows allow, and one raised to what the lower rows allow
abbrev pub lowered : List (ℕ × ℕ) → Values → List PRow → ℤ → ℤ
lowered u v [] z = z
lowered u v (h ∷ hs) z = lowered u v hs (int_min z (greatest_allowed u v h))

abbrev pub raised : List (ℕ × ℕ) → Values → List PRow → ℤ → ℤ
raised u v [] z = z
raised u v (l ∷ ls) z = raised u v ls (int_max z (least_allowed u v l))

-- what the equality gives, or the allowed value nearest to 0
abbrev pub value_after : Values → Removal → ℤ
value_after v (Solved u p) = neg_ℤ (coeff_in u (at_least_0 p) *ℤ rest_of u v p)
value_after v (Bounded u ls hs) = raised u v ls (lowered u v hs (pos 0))

abbrev pub unknown_of : Removal → List (ℕ × ℕ)
unknown_of (Solved u p) = u
unknown_of (Bounded u ls hs) = u

-- the values after removals in order: the last one comes first
abbrev pub values_of : List Removal → Values
values_of [] = no_values
values_of (r ∷ later) = with_weight (values_of later) (unknown_of r) (value_after (values_of later) r)

-- the values of the rows' unknowns, in monomial order
abbrev pub point_of : List PRow → List ℤ
point_of rows = map (values_of (outcome rows).removed) (unknowns rows)

-- the greatest magnitude of a value; an unknown that wasn't removed has 0
abbrev pub greatest_value : List Removal → ℕ
greatest_value [] = 0
greatest_value (r ∷ later) = max (unsigned_abs (value_after (values_of later) r)) (greatest_value later)

-- each norm of a tidy row times 1 more than the greatest magnitude of a value is below 2^126
abbrev pub IsTame : List PRow → Type 0
IsTame rows = (outcome rows).norm * (1 + greatest_value (outcome rows).removed) < 2 ^ 126

-- a row holds where each monomial counts for its value
abbrev pub HoldsBy : Values → PRow → Type 0
HoldsBy v r = Compares r.op (linear_value v r.poly)

-- within the limits of polynomials
abbrev pub AreRows : List PRow → Type 0
AreRows rows = AllByRecursion (λ (r : PRow). Fits r.poly) rows

-- every unknown has degree 1
abbrev pub AreLinear : List PRow → Type 0
AreLinear rows = AllByRecursion (λ (r : PRow). degree r.poly ≤ 1) rows

-- the value of each variable
abbrev pub point_at : List PRow → ℕ → ℤ
point_at rows v = values_of (outcome rows).removed ((v, 1) ∷ [])
