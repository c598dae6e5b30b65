use Rattle.std.proofs.Common.{take}
use Rattle.cut_branch.specs.machine.Scaling.{AreOver}
use Rattle.cut_branch.proofs.scaled.over_one.Given as goal

abbrev pub invariant-loop-value : goal.invariant-loop-value
invariant-loop-value l = AreOver l.den l.nums.items (take l.value-index l.point)
