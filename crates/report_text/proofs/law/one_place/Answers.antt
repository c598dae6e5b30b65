use Rattle.report_text.specs.Report.{report_lines}
use Rattle.report_text.proofs.UniqueLaws.{alone}
use Rattle.report_text.proofs.PlaceLaws.{one_place, not_all}
use Rattle.report_text.proofs.RunLaws.{report_fits}
use Rattle.report_text.proofs.law.one_place.Goals as goal

pub returns : goal.returns
returns c = record {
  one = one_place alone;
  none = λ bytes at ends r is. not_all alone bytes at (report_lines r) ends (report_fits r is);
}
