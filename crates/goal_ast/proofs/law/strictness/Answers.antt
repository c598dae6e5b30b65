use Rattle.goal_ast.proofs.EvaluationLaws.{evaluated_is}
use Rattle.goal_ast.proofs.TruthLaws.{bool_agrees, truth_agrees}
use Rattle.goal_ast.proofs.law.strictness.Goals as goal

pub returns-clause-terms : goal.returns-clause-terms
returns-clause-terms c = evaluated_is

pub returns-clause-bools : goal.returns-clause-bools
returns-clause-bools c = bool_agrees

pub returns-clause-formulas : goal.returns-clause-formulas
returns-clause-formulas c = truth_agrees
