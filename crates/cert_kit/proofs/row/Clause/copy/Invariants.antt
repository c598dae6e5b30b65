use Rattle.std.proofs.Common.{◌≡◌, take}
use Rattle.cert_kit.proofs.row.Clause.copy.Given as goal

abbrev pub invariant-loop-row : goal.invariant-loop-row
invariant-loop-row l = l.rows.items ≡ take l.row-index l.row-items
