use Rattle.std.proofs.Common.{◌≡◌, ◌++◌, drop}
use Rattle.goal_print.specs.Binders.{following}
use Rattle.goal_print.proofs.binders.push_following.Given as goal

-- what is out, with what is left, is all
abbrev pub invariant-loop-bound : goal.invariant-loop-bound
invariant-loop-bound l = l.out.items ++ following l.several l.sort (drop l.bound-index l.vars) ≡ l.fn.out.items ++ following l.several l.fn.first l.vars
