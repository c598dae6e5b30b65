use Rattle.goal_sort.proofs.WellFormedLaws.{well_formed}
use Rattle.goal_sort.proofs.law.sorted_goals_are_well_formed.Goals as goal

pub returns : goal.returns
returns c = well_formed
