use Rattle.goal_sort.proofs.SortingSteps.{given_sorted, given_well_formed, given_refused, given_none}
use Rattle.goal_sort.specs.Sorting.{sorting}
use Rattle.goal_sort.proofs.root.sorts.Goals as goal

pub returns-clause-sorted : goal.returns-clause-sorted
returns-clause-sorted c = given_sorted c.args.raw.now c.sorted_goal.result c.requires c.sorted_goal.ensures

pub returns-clause-well_formed : goal.returns-clause-well_formed
returns-clause-well_formed c = given_well_formed c.args.raw.now c.sorted_goal.result c.requires c.sorted_goal.ensures

pub returns-clause-refused : goal.returns-clause-refused
returns-clause-refused c = given_refused c.sorted_goal.result (sorting c.args.raw.now) c.sorted_goal.ensures

pub returns-clause-exact : goal.returns-clause-exact
returns-clause-exact c = given_none c.args.raw.now c.sorted_goal.result c.sorted_goal.ensures
