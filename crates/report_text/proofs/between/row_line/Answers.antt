use Rattle.std.proofs.Common.{subst}
use Rattle.cert_text.specs.Place.{FindsRow}
use Rattle.report_text.proofs.BetweenLaws.{row_found}
use Rattle.report_text.proofs.between.row_line.Goals as goal

pub returns-in-Some : goal.returns-in-Some
returns-in-Some c =
    row_found c.args.bytes.now c.after.result.now c.in-Some.row c.in-Some.length (subst (FindsRow c.args.bytes.now) c.in-Some.is c.in_ok-row.ensures) c.after.ensures
