use Rattle.std.proofs.Common.{arith, ◌≡◌, ◌+◌, drop}
use Rattle.std.proofs.lemmas.Grind.{common_steps}
use Rattle.mm_poly.specs.Tests.{rises}
use Rattle.mm_poly.proofs.EachLaws.{below_step}
use Rattle.mm_poly.proofs.mono.is_monomial.Goals as goal

pub loop-n-preserved : goal.loop-n-preserved
loop-n-preserved c =
    let q : rises (c.loop-n.degree + c.from-degree.result) (drop (c.loop-n.n + 1) c.args.factors.now) ≡ rises 0 c.args.factors.now = grind (arith, common_steps) in
    (q, c.if-degree-gt255.false, below_step _ _ _ (0, 0) (omega arith) c.has_exponent.ensures.room c.loop-n.invariant.2)
