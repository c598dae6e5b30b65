-- The polynomial of a term.
use Rattle.std.specs.Prelude.{ℕ, ◌^◌, ◌<◌, ◌≤◌, zero, suc, pos, negsuc, unsigned_abs, List}
use Rattle.mm_poly.specs.declared.term.Term.{Term}
use Rattle.mm_poly.specs.Poly.{norm, spread, degree, plus, scaled, times, constant_of, variable_of}
use Rattle.zify.specs.declared.term.ZTerm.{ZTerm}
use Rattle.goal_measure.specs.declared.measure.Measure.{Measure}
use Rattle.zify.specs.declared.term.ZTerm.TheOpen.{ZTerm-F}
use Rattle.zify.specs.declared.term.ZTerm.TheFolds.{fold-ZTerm}

abbrev pub poly_power : List Term → ℕ → List Term
poly_power p zero = constant_of (pos 1)
poly_power p (suc n) = times p (poly_power p n)

abbrev pub opposite_of : List Term → List Term
opposite_of p = scaled (negsuc 0) p

abbrev pub difference : List Term → List Term → List Term
difference p q = plus p (opposite_of q)

abbrev pub poly_level : ZTerm-F (List Term) → List Term
poly_level (ZTerm-F.Lit n) = constant_of n
poly_level (ZTerm-F.Var v) = variable_of v
poly_level (ZTerm-F.Neg p) = opposite_of p
poly_level (ZTerm-F.Add p q) = plus p q
poly_level (ZTerm-F.Sub p q) = difference p q
poly_level (ZTerm-F.Mul p q) = times p q
poly_level (ZTerm-F.Pow p k) = poly_power p (unsigned_abs k)

-- the polynomial that a term is, multiplied out
abbrev pub poly_of : ZTerm → List Term
poly_of = fold-ZTerm (List Term) poly_level

-- a polynomial within measures
pub record Within (p : List Term) (m : Measure) : Type 0 where
  pub norm : norm p ≤ m.weight
  pub spread : spread p ≤ m.spread
  pub degree : degree p ≤ m.degree

-- within the limits of a translated goal
pub record IsWithinLimits (m : Measure) : Type 0 where
  pub weight : m.weight < 2 ^ 100
  pub spread : m.spread ≤ 256
  pub degree : m.degree ≤ 8
