use Rattle.std.proofs.Common.{◌≡◌, drop, ◌&&◌}
use Rattle.std.specs.List.{list_all}
use Rattle.fm_elim.specs.machine.Choice.{is_at_most_1, is_at_least_minus_1}
use Rattle.fm_elim.specs.machine.Tidying.{rows_of}
use Rattle.fm_elim.proofs.exact.is_exact.Given as goal

abbrev pub invariant-loop-live : goal.invariant-loop-live
invariant-loop-live l = record {
  low : (l.lower_ones && list_all (is_at_most_1 l.unknown) (rows_of (drop l.live-index l.rows))) ≡ list_all (is_at_most_1 l.unknown) (rows_of l.rows);
  high : (l.upper_ones && list_all (is_at_least_minus_1 l.unknown) (rows_of (drop l.live-index l.rows))) ≡ list_all (is_at_least_minus_1 l.unknown) (rows_of l.rows);
}
