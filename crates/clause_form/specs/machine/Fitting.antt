-- The polynomial of a term, found step by step where each step has room.
use Rattle.std.specs.Prelude.{ℕ, zero, suc, ◌+◌, ◌*◌, ◌-◌, ◌^◌, ◌%◌, ℤ, pos, unsigned_abs, nat_lt, nat_le, ◌==◌, List, [], ◌∷◌, Bool, true, false, ◌&&◌, ◌||◌, Option, Some, None, if◌then◌else◌}
use Rattle.mm_num.specs.Option.{◌>>=◌}
use Rattle.mm_poly.specs.declared.term.Term.{Term}
use Rattle.mm_poly.specs.Poly.{norm, spread, degree, plus, times, constant_of, variable_of}
use Rattle.zify.specs.declared.term.ZTerm.{ZTerm}
use Rattle.zify.specs.declared.term.ZTerm.TheOpen.{ZTerm-F}
use Rattle.zify.specs.declared.term.ZTerm.TheFolds.{fold-ZTerm}
use Rattle.clause_form.specs.Polynomial.{opposite_of}

abbrev pub sum_has_room : List Term → List Term → Bool
sum_has_room p q = nat_lt (norm p + norm q) (2 ^ 126) && nat_le (spread p + spread q) 65536

abbrev pub product_has_room : List Term → List Term → Bool
product_has_room p q = nat_lt (norm p * norm q) (2 ^ 126) && (nat_le (spread p * spread q) 65536 && nat_le (degree p + degree q) 255)

abbrev pub fitted_sum : List Term → List Term → Option (List Term)
fitted_sum p q = if sum_has_room p q then Some (plus p q) else None

abbrev pub fitted_product : List Term → List Term → Option (List Term)
fitted_product p q = if product_has_room p q then Some (times p q) else None

abbrev pub fitted_constant : ℤ → Option (List Term)
fitted_constant n = if nat_lt (unsigned_abs n) (2 ^ 126) then Some (constant_of n) else None

abbrev pub is_zero : Option (List Term) → Bool
is_zero None = false
is_zero (Some []) = true
is_zero (Some (t ∷ p)) = false

abbrev pub product_fitted : Option (List Term) → Option (List Term) → Option (List Term)
product_fitted o r = o >>= λ p. r >>= λ q. fitted_product p q

-- 0 where a factor is 0, whatever the other is
abbrev pub times_fitted : Option (List Term) → Option (List Term) → Option (List Term)
times_fitted o r = if is_zero o || is_zero r then Some [] else product_fitted o r

-- so many times, one after another
abbrev pub turns_product : List Term → ℕ → Option (List Term)
turns_product p zero = Some (constant_of (pos 1))
turns_product p (suc n) = turns_product p n >>= λ r. fitted_product p r

-- 0, 1 or -1
abbrev pub is_unit : List Term → Bool
is_unit p = degree p == 0 && nat_le (norm p) 1

-- the power of an exponent from 1 on: of 0, 1 and -1 the exponents go by twos
abbrev pub fitted_power : List Term → ℕ → Option (List Term)
fitted_power p k = if is_unit p then turns_product p (2 - k % 2) else (if nat_lt k 100 then turns_product p k else None)

abbrev pub opposite_fitted : Option (List Term) → Option (List Term)
opposite_fitted o = o >>= λ p. Some (opposite_of p)

abbrev pub sum_fitted : Option (List Term) → Option (List Term) → Option (List Term)
sum_fitted o r = o >>= λ p. r >>= λ q. fitted_sum p q

abbrev pub positive_power : Option (List Term) → ℕ → Option (List Term)
positive_power o k = o >>= λ p. fitted_power p k

abbrev pub power_fitted : Option (List Term) → ℕ → Option (List Term)
power_fitted o k = if k == 0 then Some (constant_of (pos 1)) else positive_power o k

abbrev pub fitted_level : ZTerm-F (Option (List Term)) → Option (List Term)
fitted_level (ZTerm-F.Lit n) = fitted_constant n
fitted_level (ZTerm-F.Var v) = Some (variable_of v)
fitted_level (ZTerm-F.Neg o) = opposite_fitted o
fitted_level (ZTerm-F.Add o r) = sum_fitted o r
fitted_level (ZTerm-F.Sub o r) = sum_fitted o (opposite_fitted r)
fitted_level (ZTerm-F.Mul o r) = times_fitted o r
fitted_level (ZTerm-F.Pow o k) = power_fitted o (unsigned_abs k)

abbrev pub fitted : ZTerm → Option (List Term)
fitted = fold-ZTerm (Option (List Term)) fitted_level
