use Rattle.report_check.proofs.ServedLaws.{accepted}
use Rattle.report_check.proofs.law.served_reports_are_accepted.Goals as goal

pub returns : goal.returns
returns c = accepted
