use Rattle.std.proofs.Common.{◌≡◌, drop}
use Rattle.fm_elim.specs.Unknowns.{unknowns}
use Rattle.fm_elim.specs.machine.Choice.{first_lent, first_of}
use Rattle.fm_elim.specs.machine.Tidying.{rows_of}
use Rattle.fm_elim.proofs.exact.first_unknown.Given as goal

abbrev pub invariant-loop-n : goal.invariant-loop-n
invariant-loop-n l = first_lent l.first ≡ first_of (unknowns (rows_of (drop l.n l.rows)))
