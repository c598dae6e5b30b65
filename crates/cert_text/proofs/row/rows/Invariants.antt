use Rattle.std.proofs.Common.{◌≡◌, ◌-◌}
use Rattle.cert_text.specs.Reading.{rows_at}
use Rattle.cert_text.proofs.LoopSteps.{rows_before}
use Rattle.cert_text.proofs.row.rows.Given as goal

-- the rows so far with what is left to read are all that is read
abbrev pub invariant-loop : goal.invariant-loop
invariant-loop l = rows_before l.rows.items (rows_at (l.most - l.counter) l.rest) ≡ rows_at l.most l.bytes
