use Rattle.report_check.proofs.RightLaws.{right}
use Rattle.report_check.proofs.law.good_goals_are_right.Goals as goal

pub returns : goal.returns
returns c = right
