-- A row that is lent, or was made.
use Rattle.cert_kit.specs.declared.row.PRow.{PRow}
use Rattle.cert_check.specs.declared.walked.Held.{Held}
use Rattle.cert_check.specs.declared.walked.Held.TheVariants.{Lent, Made}

abbrev pub held_row : Held → PRow
held_row (Lent r) = r.now
held_row (Made r) = r
