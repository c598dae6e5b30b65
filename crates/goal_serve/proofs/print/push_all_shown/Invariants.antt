use Rattle.std.proofs.Common.{◌≡◌, ◌++◌, drop}
use Rattle.goal_serve.specs.Line.{lines_text}
use Rattle.goal_serve.specs.Reply.{shown_lines}
use Rattle.goal_serve.proofs.print.push_all_shown.Given as goal

-- what is out, with the clauses that are left
abbrev pub invariant-loop-number : goal.invariant-loop-number
invariant-loop-number l = l.out.items ++ lines_text (shown_lines l.number (drop l.number l.shown)) ≡ l.fn.out.items ++ lines_text (shown_lines 0 l.shown)
