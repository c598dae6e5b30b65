use Rattle.std.proofs.Common.{◌≡◌, drop}
use Rattle.fm_elim.specs.Unknowns.{unknowns}
use Rattle.fm_elim.proofs.point.unknowns.Given as goal

abbrev pub invariant-loop-n : goal.invariant-loop-n
invariant-loop-n l = l.found.items ≡ unknowns (drop l.n l.rows)
