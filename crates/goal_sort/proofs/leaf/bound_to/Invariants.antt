use Rattle.std.proofs.Common.{◌≡◌, drop}
use Rattle.goal_sort.specs.Sorting.{bound_from}
use Rattle.goal_sort.proofs.leaf.bound_to.Given as goal

-- none so far has the name
abbrev pub invariant-loop-v : goal.invariant-loop-v
invariant-loop-v l = bound_from l.v l.name (drop l.v l.bound) ≡ bound_from 0 l.name l.bound
