use Rattle.std.proofs.Common.{◌≡◌, ◌^◌, ◌-◌, min, ◌+◌, ◌≤◌, drop}
use Rattle.farkas_rows.specs.Combining.{norms}
use Rattle.farkas_rows.proofs.room.total_norm.Given as goal

abbrev pub invariant-loop-place : goal.invariant-loop-place
invariant-loop-place l = record {
  sum : min (l.total + norms (drop l.place l.multipliers) (drop l.place l.rows)) (2 ^ 128 - 1) ≡ min (norms l.multipliers l.rows) (2 ^ 128 - 1);
  most : l.total ≤ 2 ^ 128 - 1;
}
