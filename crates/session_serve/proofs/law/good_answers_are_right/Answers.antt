use Rattle.session_serve.proofs.RightLaws.{all_right}
use Rattle.session_serve.proofs.law.good_answers_are_right.Goals as goal

pub returns : goal.returns
returns c = all_right c.sorted_goals_are_well_formed.ensures c.proved_goals_are_valid.ensures
