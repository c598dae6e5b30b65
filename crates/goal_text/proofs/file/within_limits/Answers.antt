use Rattle.goal_text.proofs.FewLaws.{within_limits}
use Rattle.goal_text.proofs.file.within_limits.Goals as goal

pub returns : goal.returns
returns c = within_limits
