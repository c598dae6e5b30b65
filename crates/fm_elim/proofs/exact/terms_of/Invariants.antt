use Rattle.std.proofs.Common.{◌≡◌, ◌++◌, drop}
use Rattle.fm_elim.specs.machine.Choice.{lent, terms_of}
use Rattle.fm_elim.specs.machine.Tidying.{rows_of}
use Rattle.fm_elim.proofs.exact.terms_of.Given as goal

abbrev pub invariant-loop-live : goal.invariant-loop-live
invariant-loop-live l = lent l.terms.items ++ terms_of (rows_of (drop l.live-index l.rows)) ≡ terms_of (rows_of l.rows)
