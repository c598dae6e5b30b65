use Rattle.std.specs.Prelude.{◌≡◌, ◌++◌, take, map}
use Rattle.goal_sort.specs.Sorting.{variable_of}
use Rattle.goal_sort.proofs.root.push_variables.Given as goal

-- those so far are out
abbrev pub invariant-loop-one : goal.invariant-loop-one
invariant-loop-one l = l.out.items ≡ l.fn.out.items ++ map variable_of (take l.one-index l.bound)
