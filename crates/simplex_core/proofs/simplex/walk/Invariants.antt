use Rattle.simplex_core.proofs.SolveLaws.{IsAlong}
use Rattle.simplex_core.proofs.simplex.walk.Given as goal

abbrev pub invariant-bases : goal.invariant-bases
invariant-bases l = IsAlong l.rows l.width l.turns l.lines.items l.pivots.items l.left

abbrev pub decreases-bases : goal.decreases-bases
decreases-bases l = l.left
