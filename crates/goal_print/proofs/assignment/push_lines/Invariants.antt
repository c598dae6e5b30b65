use Rattle.std.proofs.Common.{◌≡◌, ◌++◌, drop}
use Rattle.goal_print.specs.Text.{lines_text}
use Rattle.goal_print.proofs.assignment.push_lines.Given as goal

-- what is out, with what is left, is all
abbrev pub invariant-loop-at : goal.invariant-loop-at
invariant-loop-at l = l.out.items ++ lines_text (drop l.at l.vars) (drop l.at l.values) ≡ l.fn.out.items ++ lines_text l.vars l.values
