use Rattle.fm_elim.proofs.StepLaws.{solved_keeps, halved_keeps, eliminated_keeps}
use Rattle.fm_elim.proofs.law.steps.Goals as goal

pub returns-clause-solved : goal.returns-clause-solved
returns-clause-solved c = solved_keeps

pub returns-clause-halved : goal.returns-clause-halved
returns-clause-halved c = halved_keeps

pub returns-clause-eliminated : goal.returns-clause-eliminated
returns-clause-eliminated c = eliminated_keeps
