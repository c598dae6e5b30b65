use Rattle.report_check.proofs.VerdictLaws.{one_verdict}
use Rattle.report_check.proofs.law.one_verdict.Goals as goal

pub returns : goal.returns
returns c = one_verdict
