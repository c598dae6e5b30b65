use Rattle.std.proofs.Common.{take}
use Rattle.std.specs.List.{flat_map}
use Rattle.cert_kit.specs.Bytes.{row_bytes}
use Rattle.cert_kit.proofs.bytes.put_each_row.Given as goal

abbrev pub invariant-loop-row : goal.invariant-loop-row
invariant-loop-row g l = g.S.ByteSink.took l.fn.sink (flat_map row_bytes (take l.row-index l.rows)) l.sink
