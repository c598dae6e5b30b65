use Rattle.report_text.proofs.RunLaws.{report_fits}
use Rattle.report_text.proofs.BackLaws.{report_of_lines}
use Rattle.report_text.proofs.law.reports_are_lines.Goals as goal

pub returns : goal.returns
returns c = record { fit = report_fits; all = λ lines fit. let l = report_of_lines lines fit in (l.report, l.within, l.are) }
