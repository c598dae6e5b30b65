use Rattle.std.proofs.Common.{◌*ℤ◌, to_z, of_z, ap, ◌∙◌, arith}
use Rattle.std.proofs.lemmas.Int.{to_z-of_z}
use Rattle.std.specs.Int.{w128}
use Rattle.mm_num.specs.Power.{power}
use Rattle.mm_poly.proofs.PointSteps.{raise_fits, raise, all_raised}
use Rattle.mm_poly.proofs.point.times_power.Goals as goal

pub overflow_mul-product : goal.overflow_mul-product
overflow_mul-product c = raise_fits _ _ _ _ _ c.loop.invariant (omega arith)

pub loop-preserved : goal.loop-preserved
loop-preserved c = raise _ _ _ _ _ c.loop.invariant (omega arith) _ (to_z-of_z _ _ (raise_fits _ _ _ _ _ c.loop.invariant (omega arith)))

pub returns : goal.returns
returns c =
    all_raised _ _ _ _ _ c.loop.invariant (omega arith)
    ∙ ap (λ n. n *ℤ power (to_z w128 (of_z w128 c.args.base)) c.args.exponent) (to_z-of_z _ _ c.ranges.number)
    ∙ ap (λ b. c.args.number *ℤ power b c.args.exponent) (to_z-of_z _ _ c.ranges.base)
