use Rattle.std.proofs.Common.{take}
use Rattle.fm_elim.specs.Points.{AreRows}
use Rattle.relaxation.proofs.alone.are_rows.Given as goal

abbrev pub invariant-loop-row : goal.invariant-loop-row
invariant-loop-row l = AreRows (take l.row-index l.rows)
