use Rattle.std.proofs.Common.{subst}
use Rattle.report_text.specs.machine.Parts.{ReadsName}
use Rattle.report_text.proofs.BetweenLaws.{named_no_line, named_other}
use Rattle.report_text.proofs.between.named.Goals as goal

pub returns-in_default : goal.returns-in_default
returns-in_default c = named_no_line c.args.bytes.now c.in_default.ensures

pub returns-in-None : goal.returns-in-None
returns-in-None c =
    named_other c.args.bytes.now c.in-Some.text.now c.in-Some.rest.now c.in-Some.ensures (subst (ReadsName c.in-Some.text.now) c.in-None.is c.in_ok-name.ensures)
