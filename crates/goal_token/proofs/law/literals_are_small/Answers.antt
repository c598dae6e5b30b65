use Rattle.goal_token.proofs.SmallLaws.{all_small}
use Rattle.goal_token.proofs.law.literals_are_small.Goals as goal

pub returns : goal.returns
returns c = λ bytes. all_small 0 0 bytes
