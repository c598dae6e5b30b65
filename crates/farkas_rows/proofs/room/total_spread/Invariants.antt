use Rattle.std.proofs.Common.{◌≡◌, ◌^◌, ◌-◌, min, ◌+◌, ◌≤◌, drop}
use Rattle.farkas_rows.specs.Combining.{spreads}
use Rattle.farkas_rows.proofs.room.total_spread.Given as goal

abbrev pub invariant-loop-row : goal.invariant-loop-row
invariant-loop-row l = record {
  sum : min (l.total + spreads (drop l.row-index l.rows)) (2 ^ 64 - 1) ≡ min (spreads l.rows) (2 ^ 64 - 1);
  most : l.total ≤ 2 ^ 64 - 1;
}
