use Rattle.std.proofs.Common.{◌*◌, ◌^◌, ◌<◌, unsigned_abs, negsuc, sym, subst, arith}
use Rattle.mm_poly.specs.Poly.{norm, Fits}
use Rattle.mm_poly.proofs.PolyLaws.{fits_scaled}
use Rattle.mm_poly.proofs.poly.Poly.negated.Goals as goal

pub invariant_of-result : goal.invariant_of-result
invariant_of-result c =
    let n : norm c.self.inside.terms.items * unsigned_abs (negsuc 0) < 2 ^ 126 = omega (arith, c.self.invariant.norm) in
    subst (λ ts. Fits ts) (sym c.opposites.ensures) (fits_scaled (negsuc 0) c.self.inside.terms.items c.self.invariant n)
