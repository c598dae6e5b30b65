use Rattle.std.proofs.Common.{List, ℤ, unsigned_abs, ap, sym, subst, ◌∙◌}
use Rattle.std.proofs.lemmas.Int.{to_z-of_z}
use Rattle.mm_poly.specs.declared.term.Term.{Term}
use Rattle.mm_poly.specs.Poly.{Fits, floor_divided}
use Rattle.mm_poly.proofs.JoinedLaws.{fits_divided, positive}
use Rattle.mm_poly.proofs.poly.Poly.floor_divided.Goals as goal

pub invariant_of-result : goal.invariant_of-result
invariant_of-result c =
    let e = c.in_ok-terms.ensures ∙ ap (λ (d : ℤ). floor_divided (unsigned_abs d) c.deref.result.now) (to_z-of_z _ _ c.ranges.divisor) ∙ ap (λ (ts : List Term). floor_divided (unsigned_abs c.args.divisor) ts) c.deref.ensures.value in
    subst (λ ts. Fits ts) (sym e) (fits_divided (unsigned_abs c.args.divisor) c.self.inside.terms.items (positive c.args.divisor c.requires.positive) c.self.invariant)
