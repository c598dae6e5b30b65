use Rattle.std.proofs.Common.{arith}
use Rattle.std.specs.Prelude.{refl}
use Rattle.box_enum.proofs.EdgeLaws.{factor_below}
use Rattle.box_enum.proofs.waiting.past.Goals as goal

pub loop-n-preserved : goal.loop-n-preserved
loop-n-preserved c = factor_below c.args.factors.now c.loop-n.n _ c.loop-n.past _ (0, 0) (omega arith) (omega arith) refl c.loop-n.invariant c.greater-past.ensures.first (omega (arith, c.greater-past.ensures.second))
