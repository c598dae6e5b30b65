use Rattle.clause_form.proofs.BoundLaws.{term_within}
use Rattle.clause_form.proofs.law.bounds.Goals as goal

pub returns : goal.returns
returns c = term_within
