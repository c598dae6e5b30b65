use Rattle.std.proofs.Common.{◌≡◌, ◌++◌, drop}
use Rattle.goal_serve.specs.Line.{lines_text}
use Rattle.session_serve.specs.Report.{goals_lines}
use Rattle.session_serve.proofs.report.push_goals.Given as goal

-- what is out, with the goals that are left
abbrev pub invariant-loop-number : goal.invariant-loop-number
invariant-loop-number l = l.out.items ++ lines_text (goals_lines l.number (drop l.number l.goals) (drop l.number l.answers)) ≡ l.fn.out.items ++ lines_text (goals_lines 0 l.goals l.answers)
