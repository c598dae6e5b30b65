use Rattle.std.proofs.Common.{take}
use Rattle.cut_branch.specs.Points.{IsIntegral}
use Rattle.cut_branch.proofs.splitting.is_integral.Given as goal

abbrev pub invariant-loop-value : goal.invariant-loop-value
invariant-loop-value l = IsIntegral (take l.value-index l.point)
