use Rattle.std.proofs.Common.{◌≡◌, [], take, drop}
use Rattle.goal_sort.specs.Sorting.{second_binding}
use Rattle.goal_sort.proofs.root.second_binding.Given as goal

-- those so far have different names
abbrev pub invariant-loop-v : goal.invariant-loop-v
invariant-loop-v l = second_binding (take l.v l.bound) (drop l.v l.bound) ≡ second_binding [] l.bound
