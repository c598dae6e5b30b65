use Rattle.std.proofs.Common.{◌≡◌, sym, subst}
use Rattle.mm_poly.specs.Poly.{times, Fits}
use Rattle.mm_poly.specs.Room.{ProductHasRoom}
use Rattle.mm_poly.proofs.ProductLaws.{fits_times}
use Rattle.mm_poly.proofs.poly.Poly.product.Goals as goal

pub invariant_of-result : goal.invariant_of-result
invariant_of-result c =
    let e : c.in_ok-terms.terms.items ≡ times c.self.inside.terms.items c.other.inside.terms.items = cc (c.in_ok-terms.ensures, c.deref.ensures.value, c.deref-2.ensures.value) in
    let r : ProductHasRoom c.self.inside.terms.items c.other.inside.terms.items =
    subst (λ ts. ProductHasRoom ts c.other.inside.terms.items) (sym c.self.view_is) (subst (λ ts. ProductHasRoom c.args.self.now ts) (sym c.other.view_is) c.requires) in
    subst (λ ts. Fits ts) (sym e) (fits_times c.self.inside.terms.items c.other.inside.terms.items c.self.invariant c.other.invariant r.norm r.spread r.degree)
