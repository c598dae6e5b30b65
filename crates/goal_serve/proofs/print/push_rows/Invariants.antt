use Rattle.std.proofs.Common.{◌≡◌, ◌++◌, drop, map}
use Rattle.goal_serve.specs.Line.{Row, lines_text}
use Rattle.goal_serve.proofs.print.push_rows.Given as goal

-- what is out, with the rows that are left
abbrev pub invariant-loop-row : goal.invariant-loop-row
invariant-loop-row l = l.out.items ++ lines_text (map Row (drop l.row-index l.rows)) ≡ l.fn.out.items ++ lines_text (map Row l.rows)
