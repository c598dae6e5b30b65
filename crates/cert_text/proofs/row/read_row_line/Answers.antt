use Rattle.std.proofs.Common.{◌≡◌, Some, rules}
use Rattle.cert_text.specs.Reading.{row_at}
use Rattle.cert_text.proofs.FoundLaws.{row_found}
use Rattle.cert_text.proofs.row.read_row_line.Goals as goal

pub returns-in-Some : goal.returns-in-Some
returns-in-Some c =
    let e : Some (c.in-Some.row, c.in-Some.rest.now) ≡ row_at c.args.bytes.now = search rules in
    row_found c.args.bytes.now c.in-Some.row c.in-Some.rest.now c.front_length.result e c.front_length.ensures
