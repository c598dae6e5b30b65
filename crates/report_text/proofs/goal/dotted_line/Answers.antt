use Rattle.report_text.proofs.BetweenLaws.{dot_missing, dot_found, dotted_no_line, dotted_no_dot, dotted_found}
use Rattle.report_text.proofs.goal.dotted_line.Goals as goal

pub returns-in_err-line : goal.returns-in_err-line
returns-in_err-line c = rw c.from_residual.ensures (dotted_no_line c.args.bytes.now c.in_err-line.ensures)

pub returns-in_err-text : goal.returns-in_err-text
returns-in_err-text c =
    rw c.from_residual-in_err-text.ensures
    (dotted_no_dot c.args.bytes.now c.in_ok-line.line.now c.in_ok-line.rest.now c.in_ok-line.ensures (dot_missing c.in_ok-line.line.now c.in_err-text.ensures.cases))

pub returns : goal.returns
returns c =
    dotted_found c.args.bytes.now c.in_ok-line.line.now c.in_ok-line.rest.now c.in_ok-text.text.now c.in_ok-line.ensures
    (dot_found c.in_ok-line.line.now c.in_ok-text.text c.in_ok-text.ensures.cases)
