use Rattle.cert_check.proofs.LetGoLaws.{Going}
use Rattle.cert_check.proofs.step.push_each.Given as goal

-- the steps that are left, over the rows so far, and the close have the first fault of all
abbrev pub invariant-loop-time : goal.invariant-loop-time
invariant-loop-time l = Going l.uses.first l.uses.times.items l.steps l.close l.fn.rows l.rows l.time
