use Rattle.std.proofs.Common.{arith}
use Rattle.cert_check.proofs.LetGoLaws.{next_turn}
use Rattle.cert_check.proofs.step.push_each.Goals as goal

pub loop-time-preserved : goal.loop-time-preserved
loop-time-preserved c = next_turn _ _ _ _ _ _ _ _ _ _ c.loop-time.invariant (omega arith) c.index-steps-time.is c.in_ok-push_step.ensures c.in_ok-let_go.ensures c.requires.known.by_close
