use Rattle.std.proofs.Common.{◌≡◌, ◌++◌, drop}
use Rattle.goal_serve.specs.Line.{lines_text}
use Rattle.session_serve.specs.Report.{sessions_lines}
use Rattle.session_serve.proofs.report.push_sessions.Given as goal

-- what is out, with the sessions that are left
abbrev pub invariant-loop-number : goal.invariant-loop-number
invariant-loop-number l = l.out.items ++ lines_text (sessions_lines l.number (drop l.number l.sessions) (drop l.number l.answers)) ≡ l.fn.out.items ++ lines_text (sessions_lines 0 l.sessions l.answers)
