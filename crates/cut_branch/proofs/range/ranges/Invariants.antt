use Rattle.std.proofs.Common.{◌≡◌, length}
use Rattle.cut_branch.proofs.range.ranges.Given as goal

abbrev pub invariant-loop-row : goal.invariant-loop-row
invariant-loop-row l = length l.ranges.items ≡ length l.vars
