use Rattle.std.proofs.Common.{◌≡◌, drop}
use Rattle.fm_elim.specs.machine.Tidying.{parallel_from}
use Rattle.fm_elim.proofs.parallel.parallel_place.Given as goal

abbrev pub invariant-loop-place : goal.invariant-loop-place
invariant-loop-place l = parallel_from (drop l.place l.rows) l.row l.place ≡ parallel_from l.rows l.row 0
