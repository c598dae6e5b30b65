use Rattle.goal_sort.proofs.AgainLaws.{one_sorting}
use Rattle.goal_sort.proofs.law.one_sorting.Goals as goal

pub returns : goal.returns
returns c = one_sorting
