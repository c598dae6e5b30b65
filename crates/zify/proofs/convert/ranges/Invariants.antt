use Rattle.std.specs.Prelude.{◌≡◌, ◌++◌, drop}
use Rattle.goal_ast.specs.Range.{sorts_of}
use Rattle.zify.specs.Translation.{ranges_from}
use Rattle.zify.proofs.convert.ranges.Given as goal

-- the ranges so far, and those of the other variables
abbrev pub invariant-loop-at : goal.invariant-loop-at
invariant-loop-at l = l.out ++ ranges_from l.at (sorts_of (drop l.at l.vars)) ≡ ranges_from 0 (sorts_of l.vars)
