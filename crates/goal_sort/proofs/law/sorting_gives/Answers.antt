use Rattle.goal_sort.proofs.AgainLaws.{again}
use Rattle.goal_sort.proofs.law.sorting_gives.Goals as goal

pub returns : goal.returns
returns c = again
