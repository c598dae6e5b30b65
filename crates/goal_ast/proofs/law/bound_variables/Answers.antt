use Rattle.goal_ast.proofs.VariableLaws.{goal_named}
use Rattle.goal_ast.proofs.CountingLaws.{value_same, bool_same, truth_same, eval_same}
use Rattle.goal_ast.proofs.law.bound_variables.Goals as goal

pub returns-clause-named : goal.returns-clause-named
returns-clause-named c = goal_named

pub returns-clause-terms : goal.returns-clause-terms
returns-clause-terms c = value_same

pub returns-clause-bools : goal.returns-clause-bools
returns-clause-bools c = bool_same

pub returns-clause-truth : goal.returns-clause-truth
returns-clause-truth c = truth_same

pub returns-clause-eval : goal.returns-clause-eval
returns-clause-eval c = eval_same
