use Rattle.report_text.specs.Report.{report_lines}
use Rattle.report_text.proofs.UniqueLaws.{alone}
use Rattle.report_text.proofs.PlaceLaws.{one_reading}
use Rattle.report_text.proofs.RunLaws.{report_fits}
use Rattle.report_text.proofs.OneLaws.{one_report}
use Rattle.report_text.proofs.law.one_reading.Goals as goal

pub returns : goal.returns
returns c = λ r s i j e. one_report r s i j (one_reading alone (report_lines r) (report_lines s) (report_fits r i) (report_fits s j) e)
