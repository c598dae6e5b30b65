-- Room for the rows of a comparison.
use Rattle.std.specs.Prelude.{◌≡◌, ◌≤◌, negsuc, List}
use Rattle.std.proofs.Common.{arith, ap}
use Rattle.mm_poly.specs.declared.term.Term.{Term}
use Rattle.mm_poly.specs.Poly.{norm, spread, constant_of}
use Rattle.mm_poly.specs.Room.{SumHasRoom}
use Rattle.mm_poly.proofs.BoundLaws.{norm_plus, norm_scaled, spread_plus, spread_scaled}
use Rattle.clause_form.specs.Polynomial.{opposite_of, difference}
use Rattle.clause_form.specs.Alternatives.{ComparisonHasRoom}

opposite_norm : (q : List Term) → norm (opposite_of q) ≤ norm q
opposite_norm q = omega (arith, norm_scaled (negsuc 0) q)

pub difference_room : (p q r : List Term) → r ≡ opposite_of q → ComparisonHasRoom p q → SumHasRoom p r
difference_room p q r e h = record {
  norm = omega (arith, ap (λ (u : List Term). norm u) e, opposite_norm q, h.norm);
  spread = omega (arith, ap (λ (u : List Term). spread u) e, spread_scaled (negsuc 0) q, h.spread);
}

pub one_less : (p q d c : List Term) → d ≡ difference p q → c ≡ constant_of (negsuc 0) → ComparisonHasRoom p q → SumHasRoom d c
one_less p q d c e f h = record {
  norm = omega (arith, ap (λ (u : List Term). norm u) e, ap (λ (u : List Term). norm u) f, norm_plus p (opposite_of q), opposite_norm q, h.norm);
  spread = omega (arith, ap (λ (u : List Term). spread u) e, ap (λ (u : List Term). spread u) f, spread_plus p (opposite_of q), spread_scaled (negsuc 0) q, h.spread);
}
