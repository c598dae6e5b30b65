use Rattle.std.proofs.Common.{◌≡◌, drop}
use Rattle.fm_elim.specs.Steps.{solvable_from}
use Rattle.fm_elim.specs.machine.Tidying.{rows_of}
use Rattle.fm_elim.proofs.choice.solvable.Given as goal

abbrev pub invariant-loop-place : goal.invariant-loop-place
invariant-loop-place l = solvable_from (rows_of (drop l.place l.rows)) l.place ≡ solvable_from (rows_of l.rows) 0
