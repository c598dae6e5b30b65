-- Plans of formulas within the limits.
use Rattle.std.specs.Prelude.{◌≡◌, List}
use Rattle.std.proofs.Common.{ap, arith}
use Rattle.mm_poly.specs.declared.term.Term.{Term}
use Rattle.mm_poly.specs.Poly.{norm, spread}
use Rattle.zify.specs.declared.term.ZTerm.{ZTerm}
use Rattle.goal_measure.specs.declared.measure.Measure.{Measure}
use Rattle.goal_measure.specs.Measure.{of_atom, greater}
use Rattle.zify.specs.Measure.{measure_of}
use Rattle.clause_form.specs.Polynomial.{poly_of, IsWithinLimits}
use Rattle.clause_form.specs.Alternatives.{ComparisonHasRoom}
use Rattle.clause_form.proofs.BoundLaws.{term_within}

pub first_within : (a b : Measure) → IsWithinLimits (greater a b) → IsWithinLimits a
first_within a b h = record { weight = omega (arith, h.weight); spread = omega (arith, h.spread); degree = omega (arith, h.degree) }

pub second_within : (a b : Measure) → IsWithinLimits (greater a b) → IsWithinLimits b
second_within a b h = record { weight = omega (arith, h.weight); spread = omega (arith, h.spread); degree = omega (arith, h.degree) }

pub left_within : (a b : Measure) → IsWithinLimits (of_atom a b) → IsWithinLimits a
left_within a b h = record { weight = omega (arith, h.weight); spread = omega (arith, h.spread); degree = omega (arith, h.degree) }

pub right_within : (a b : Measure) → IsWithinLimits (of_atom a b) → IsWithinLimits b
right_within a b h = record { weight = omega (arith, h.weight); spread = omega (arith, h.spread); degree = omega (arith, h.degree) }

pub atom_room : (t u : ZTerm) (p q : List Term) → p ≡ poly_of t → q ≡ poly_of u → IsWithinLimits (of_atom (measure_of t) (measure_of u)) → ComparisonHasRoom p q
atom_room t u p q e f h =
    let a = term_within t in
    let b = term_within u in
    record {
      norm = omega (arith, ap (λ (r : List Term). norm r) e, ap (λ (r : List Term). norm r) f, a.norm, b.norm, h.weight);
      spread = omega (arith, ap (λ (r : List Term). spread r) e, ap (λ (r : List Term). spread r) f, a.spread, b.spread, h.spread);
    }
