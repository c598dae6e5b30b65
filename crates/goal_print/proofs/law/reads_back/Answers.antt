use Rattle.goal_print.proofs.ReadsBackLaws.{reads_back}
use Rattle.goal_print.proofs.law.reads_back.Goals as goal

pub returns : goal.returns
returns c = reads_back
