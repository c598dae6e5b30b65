use Rattle.std.proofs.Common.{◌≡◌, length}
use Rattle.cut_branch.proofs.range.unbounded.Given as goal

abbrev pub invariant-loop-var : goal.invariant-loop-var
invariant-loop-var l = length l.ranges.items ≡ l._var-index
