use Rattle.std.proofs.Common.{◌≡◌, sym, subst}
use Rattle.mm_poly.specs.Mono.{IsMonomial, without_variable}
use Rattle.mm_poly.proofs.ExponentLaws.{monomial_without}
use Rattle.mm_poly.proofs.mono.Mono.without.Goals as goal

pub invariant_of-result : goal.invariant_of-result
invariant_of-result c =
    let e : c.in_ok-factors.factors.items ≡ without_variable c.self.inside.factors.items c.args.v = cc (c.in_ok-factors.ensures, c.as_slice.ensures) in
    subst (λ fs. IsMonomial fs) (sym e) (monomial_without c.self.inside.factors.items c.args.v c.self.invariant)
