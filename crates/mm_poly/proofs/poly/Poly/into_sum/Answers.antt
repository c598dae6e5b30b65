use Rattle.std.proofs.Common.{◌≡◌, sym, subst}
use Rattle.mm_poly.specs.Poly.{plus, Fits}
use Rattle.mm_poly.specs.Room.{SumHasRoom}
use Rattle.mm_poly.proofs.PolyLaws.{fits_plus}
use Rattle.mm_poly.proofs.poly.Poly.into_sum.Goals as goal

pub invariant_of-result : goal.invariant_of-result
invariant_of-result c =
    let e : c.in_ok-terms.terms.items ≡ plus c.self.inside.terms.items c.other.inside.terms.items = c.in_ok-terms.ensures in
    let r : SumHasRoom c.self.inside.terms.items c.other.inside.terms.items =
    subst (λ ts. SumHasRoom ts c.other.inside.terms.items) (sym c.self.view_is) (subst (λ ts. SumHasRoom c.args.self ts) (sym c.other.view_is) c.requires) in
    subst (λ ts. Fits ts) (sym e) (fits_plus c.self.inside.terms.items c.other.inside.terms.items c.self.invariant c.other.invariant r.norm r.spread)
