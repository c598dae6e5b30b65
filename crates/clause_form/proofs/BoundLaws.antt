-- The polynomial of a term is within the term's measures.
use Rattle.std.specs.Prelude.{◌≡◌, ℕ, zero, suc, ◌*◌, ◌^◌, ℤ, pos, negsuc, unsigned_abs, List, []}
use Rattle.std.proofs.Common.{◌∙◌, sym, subst, arith}
use Rattle.std.proofs.lemmas.Int.{ints}
use Rattle.std.proofs.Math.Nat.{pow-zero, pow-suc, mul-le-mul, mul_comm}
use Rattle.mm_poly.specs.declared.term.Term.{Term}
use Rattle.mm_poly.specs.Poly.{plus, times, constant_of, variable_of}
use Rattle.mm_poly.proofs.BoundLaws.{norm_with, norm_plus, norm_scaled, norm_times, spread_with, spread_plus, spread_scaled, spread_times, degree_with, degree_plus, degree_scaled, degree_times}
use Rattle.zify.specs.declared.term.ZTerm.{ZTerm}
use Rattle.zify.specs.declared.term.ZTerm.TheOpen.{ZTerm-F}
use Rattle.zify.specs.declared.term.ZTerm.TheViews.{roll-ZTerm}
use Rattle.zify.specs.declared.term.ZTerm.TheFolds.{map-ZTerm, fold-roll-ZTerm, ind-ZTerm}
use Rattle.goal_measure.specs.declared.measure.Measure.{Measure}
use Rattle.goal_measure.specs.Measure.{of_literal, of_variable, of_sum, of_product, of_power}
use Rattle.zify.specs.Measure.{measure_level, measure_of}
use Rattle.clause_form.specs.Polynomial.{poly_power, opposite_of, poly_level, poly_of, Within}

pub constant_within : (n : ℤ) → Within (constant_of n) (of_literal (unsigned_abs n))
constant_within n = record {
  norm = omega (arith, norm_with n [] []);
  spread = omega (arith, spread_with n [] []);
  degree = omega (arith, degree_with n [] []);
}

pub variable_within : (v : ℕ) → Within (variable_of v) of_variable
variable_within v = record { norm = omega (arith, ints); spread = omega arith; degree = omega arith }

pub opposite_within : (p : List Term) (a : Measure) → Within p a → Within (opposite_of p) a
opposite_within p a h = record {
  norm = omega (arith, ints, norm_scaled (negsuc 0) p, h.norm);
  spread = omega (arith, spread_scaled (negsuc 0) p, h.spread);
  degree = omega (arith, degree_scaled (negsuc 0) p, h.degree);
}

pub sum_within : (p q : List Term) (a b : Measure) → Within p a → Within q b → Within (plus p q) (of_sum a b)
sum_within p q a b h k = record {
  norm = omega (arith, norm_plus p q, h.norm, k.norm);
  spread = omega (arith, spread_plus p q, h.spread, k.spread);
  degree = omega (arith, degree_plus p q, h.degree, k.degree);
}

pub product_within : (p q : List Term) (a b : Measure) → Within p a → Within q b → Within (times p q) (of_product a b)
product_within p q a b h k = record {
  norm = omega (arith, norm_times p q, mul-le-mul h.norm k.norm);
  spread = omega (arith, spread_times p q, mul-le-mul h.spread k.spread);
  degree = omega (arith, degree_times p q, h.degree, k.degree);
}

next_power : (a n : ℕ) → a * a ^ n ≡ a ^ suc n
next_power a n = mul_comm a (a ^ n) ∙ sym (pow-suc a n)

pub power_within : (p : List Term) (a : Measure) (n : ℕ) → Within p a → Within (poly_power p n) (of_power a n)
power_within p a zero h =
    let c = constant_within (pos 1) in
    record {
      norm = omega (arith, c.norm, pow-zero a.weight);
      spread = omega (arith, c.spread, pow-zero a.spread);
      degree = omega (arith, c.degree);
    }
power_within p a (suc n) h =
    let c = product_within p (poly_power p n) a (of_power a n) h (power_within p a n h) in
    record {
      norm = omega (arith, c.norm, next_power a.weight n);
      spread = omega (arith, c.spread, next_power a.spread n);
      degree = omega (arith, c.degree);
    }

abbrev TermWithin : ZTerm → Type 0
TermWithin t = Within (poly_of t) (measure_of t)

abbrev Known : Type 0
Known = (t : ZTerm) × TermWithin t

abbrev terms_of : ZTerm-F Known → ZTerm-F ZTerm
terms_of y = map-ZTerm Known ZTerm (λ p. p.0) y

within_step : (y : ZTerm-F Known) → Within (poly_level (map-ZTerm ZTerm (List Term) poly_of (terms_of y))) (measure_level (map-ZTerm ZTerm Measure measure_of (terms_of y)))
within_step (ZTerm-F.Lit n) = constant_within n
within_step (ZTerm-F.Var v) = variable_within v
within_step (ZTerm-F.Neg a) = opposite_within (poly_of a.0) (measure_of a.0) a.1
within_step (ZTerm-F.Add a b) = sum_within (poly_of a.0) (poly_of b.0) (measure_of a.0) (measure_of b.0) a.1 b.1
within_step (ZTerm-F.Sub a b) =
    sum_within (poly_of a.0) (opposite_of (poly_of b.0)) (measure_of a.0) (measure_of b.0) a.1 (opposite_within (poly_of b.0) (measure_of b.0) b.1)
within_step (ZTerm-F.Mul a b) = product_within (poly_of a.0) (poly_of b.0) (measure_of a.0) (measure_of b.0) a.1 b.1
within_step (ZTerm-F.Pow a k) = power_within (poly_of a.0) (measure_of a.0) (unsigned_abs k) a.1

moved : (p q : List Term) (a b : Measure) → p ≡ q → a ≡ b → Within q b → Within p a
moved p q a b e f h = subst (λ r. Within r a) (sym e) (subst (λ c. Within q c) (sym f) h)

pub term_within : (t : ZTerm) → TermWithin t
term_within = ind-ZTerm TermWithin (λ d y q. subst (λ (z : ZTerm-F ZTerm). TermWithin (roll-ZTerm z)) q (step y))
  where
    step : (y : ZTerm-F Known) → TermWithin (roll-ZTerm (terms_of y))
    step y = moved _ _ _ _ (fold-roll-ZTerm (List Term) poly_level (terms_of y)) (fold-roll-ZTerm Measure measure_level (terms_of y)) (within_step y)
