use Rattle.std.proofs.Common.{arith}
use Rattle.cert_check.proofs.UseLaws.{step_noted}
use Rattle.cert_check.proofs.uses.note_steps.Goals as goal

pub loop-step-preserved : goal.loop-step-preserved
loop-step-preserved c = step_noted c.args.first c.args.time c.args.steps.now c.loop-step.step-index c.step-item.result c.loop-step.times.items _ _
    (omega arith) c.step-item.is c.note_step.ensures c.loop-step.invariant
