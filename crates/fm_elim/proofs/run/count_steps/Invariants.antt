use Rattle.std.proofs.Common.{◌≡◌, ◌+◌, ◌*◌, ◌≤◌, drop}
use Rattle.fm_elim.specs.Elimination.{enough_steps}
use Rattle.fm_elim.specs.machine.Tidying.{rows_of}
use Rattle.fm_elim.proofs.run.count_steps.Given as goal

abbrev pub invariant-loop-live : goal.invariant-loop-live
invariant-loop-live l = record {
  sum : l.total + enough_steps (rows_of (drop l.live-index l.rows)) ≡ enough_steps (rows_of l.rows) + 1;
  small : l.total ≤ 1 + 65537 * l.live-index;
}
