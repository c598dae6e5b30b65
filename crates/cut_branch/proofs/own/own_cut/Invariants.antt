use Rattle.std.proofs.Common.{IfSome}
use Rattle.cut_branch.specs.declared.own.Found.{Found}
use Rattle.cut_branch.specs.machine.Scaling.{HasFalseCut}
use Rattle.cut_branch.proofs.own.own_cut.Given as goal

abbrev pub invariant-loop-place : goal.invariant-loop-place
invariant-loop-place l = IfSome l.best (λ (f : Found). HasFalseCut l.rows l.vars l.at f.number)
