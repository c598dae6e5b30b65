use Rattle.std.proofs.Common.{◌≡◌, drop}
use Rattle.fm_elim.specs.Steps.{equality_from}
use Rattle.fm_elim.specs.machine.Tidying.{rows_of}
use Rattle.fm_elim.proofs.choice.equality_place.Given as goal

abbrev pub invariant-loop-place : goal.invariant-loop-place
invariant-loop-place l = equality_from (rows_of (drop l.place l.rows)) l.place ≡ equality_from (rows_of l.rows) 0
