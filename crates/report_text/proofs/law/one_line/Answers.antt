use Rattle.report_text.proofs.UniqueLaws.{alone}
use Rattle.report_text.proofs.law.one_line.Goals as goal

pub returns : goal.returns
returns c = alone
