use Rattle.std.proofs.Common.{◌≡◌, sym, subst}
use Rattle.mm_poly.specs.Poly.{Fits, without_constant}
use Rattle.mm_poly.proofs.CutBoundLaws.{fits_without}
use Rattle.mm_poly.proofs.poly.Poly.without_constant.Goals as goal

pub invariant_of-result : goal.invariant_of-result
invariant_of-result c =
    let e : c.in_ok-terms.terms.items ≡ without_constant c.self.inside.terms.items = cc (c.in_ok-terms.ensures, c.unknowns.ensures, c.deref.ensures.value) in
    subst (λ ts. Fits ts) (sym e) (fits_without c.self.inside.terms.items c.self.invariant)
