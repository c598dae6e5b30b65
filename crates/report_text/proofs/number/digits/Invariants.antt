use Rattle.std.proofs.Common.{◌≡◌, ◌<◌, drop}
use Rattle.cert_text.specs.Reading.{digits_at}
use Rattle.report_text.proofs.number.digits.Given as goal

abbrev pub invariant-loop-place : goal.invariant-loop-place
invariant-loop-place l = record { number : digits_at l.limit l.value (drop l.place l.bytes) ≡ digits_at l.limit l.first l.bytes; below : l.value < l.limit }
