use Rattle.std.proofs.Common.{◌≡◌, ◌+◌, ◌≤◌, sym, subst, arith}
use Rattle.std.proofs.lemmas.Grind.{common_steps}
use Rattle.mm_poly.specs.Mono.{mono_degree, mono_times, IsMonomial}
use Rattle.mm_poly.proofs.FactorLaws.{monomial_times}
use Rattle.mm_poly.proofs.mono.Mono.times.Goals as goal

pub invariant_of-result : goal.invariant_of-result
invariant_of-result c =
    let e : c.in_ok-factors.factors.items ≡ mono_times c.self.inside.factors.items c.other.inside.factors.items = cc (c.in_ok-factors.ensures, c.as_slice.ensures, c.as_slice-2.ensures) in
    let s : mono_degree c.self.inside.factors.items + mono_degree c.other.inside.factors.items ≤ 255 = grind (arith, common_steps) in
    subst (λ fs. IsMonomial fs) (sym e) (monomial_times c.self.inside.factors.items c.other.inside.factors.items c.self.invariant c.other.invariant s)
