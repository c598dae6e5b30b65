use Rattle.std.proofs.Common.{◌-◌, ◌^◌, sym, arith}
use Rattle.std.proofs.lemmas.Grind.{common_steps}
use Rattle.std.proofs.Math.Nat.{pow-zero}
use Rattle.goal_measure.proofs.CapLaws.{power_reaches, power_goes}
use Rattle.goal_measure.proofs.measure.power_below.Goals as goal

pub loop-init : goal.loop-init
loop-init c = (sym (pow-zero c.args.base), omega arith)

pub returns-then-value-limit : goal.returns-then-value-limit
returns-then-value-limit c =
    power_reaches c.args.base c.loop.counter c.args.exponent c.loop.value c.saturating_mul-value.result c.args.limit (2 ^ 128 - 1) c.requires.base (grind (arith, common_steps)) c.loop.invariant.0
    (grind (arith, common_steps)) c.if-value-limit.true

pub loop-preserved : goal.loop-preserved
loop-preserved c =
    power_goes c.args.base c.loop.counter c.loop.value c.saturating_mul-value.result c.args.limit (2 ^ 128 - 1) c.loop.invariant.0 (grind (arith, common_steps)) (grind (arith, common_steps))
    (grind (arith, common_steps))
