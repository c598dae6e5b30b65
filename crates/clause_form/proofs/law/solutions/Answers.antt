use Rattle.clause_form.proofs.SolutionLaws.{refuted_back}
use Rattle.clause_form.proofs.law.solutions.Goals as goal

pub returns : goal.returns
returns c = refuted_back
