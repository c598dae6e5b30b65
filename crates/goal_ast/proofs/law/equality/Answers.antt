use Rattle.goal_ast.proofs.EqualityLaws.{same_exactly}
use Rattle.goal_ast.proofs.law.equality.Goals as goal

pub returns : goal.returns
returns c = same_exactly
