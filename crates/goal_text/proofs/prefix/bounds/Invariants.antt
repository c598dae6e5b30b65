use Rattle.std.proofs.Common.{◌≡◌, ◌++◌, length}
use Rattle.std.specs.Prelude.{reverse}
use Rattle.goal_text.specs.Files.{bounds}
use Rattle.goal_text.proofs.prefix.bounds.Given as goal

-- the names that are left, and those moved in order, are all names
abbrev pub invariant-loop-name : goal.invariant-loop-name
invariant-loop-name l = bounds l.sort l.names ++ reverse l.bound.items ≡ bounds l.initial.sort l.initial.names

abbrev pub decreases-loop-name : goal.decreases-loop-name
decreases-loop-name l = length l.names
