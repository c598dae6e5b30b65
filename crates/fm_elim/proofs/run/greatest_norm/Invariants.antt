use Rattle.std.proofs.Common.{◌≡◌, drop, max}
use Rattle.fm_elim.specs.Elimination.{greatest_norm}
use Rattle.fm_elim.specs.machine.Tidying.{rows_of}
use Rattle.fm_elim.proofs.run.greatest_norm.Given as goal

abbrev pub invariant-loop-live : goal.invariant-loop-live
invariant-loop-live l = max l.greatest (greatest_norm (rows_of (drop l.live-index l.rows))) ≡ greatest_norm (rows_of l.rows)
