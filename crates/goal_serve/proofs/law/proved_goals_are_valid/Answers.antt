use Rattle.goal_serve.proofs.AnswerLaws.{proved_valid}
use Rattle.goal_serve.proofs.law.proved_goals_are_valid.Goals as goal

pub returns : goal.returns
returns c = proved_valid
