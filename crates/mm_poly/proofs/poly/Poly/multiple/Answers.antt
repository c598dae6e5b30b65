use Rattle.std.proofs.Common.{◌*◌, ◌^◌, ◌<◌, unsigned_abs, ℤ, List, sym, ap, subst, ◌∙◌}
use Rattle.std.proofs.lemmas.Int.{to_z-of_z}
use Rattle.mm_poly.specs.declared.term.Term.{Term}
use Rattle.mm_poly.specs.Poly.{norm, scaled, Fits}
use Rattle.mm_poly.proofs.PolyLaws.{fits_scaled}
use Rattle.mm_poly.proofs.poly.Poly.multiple.Goals as goal

pub invariant_of-result : goal.invariant_of-result
invariant_of-result c =
    let e = c.in_ok-terms.ensures ∙ ap (λ (a : ℤ). scaled a c.deref.result.now) (to_z-of_z _ _ c.ranges.c) ∙ ap (λ (ts : List Term). scaled c.args.c ts) c.deref.ensures.value in
    let n : norm c.self.inside.terms.items * unsigned_abs c.args.c < 2 ^ 126 = subst (λ ts. norm ts * unsigned_abs c.args.c < 2 ^ 126) (sym c.self.view_is) c.requires in
    subst (λ ts. Fits ts) (sym e) (fits_scaled c.args.c c.self.inside.terms.items c.self.invariant n)
