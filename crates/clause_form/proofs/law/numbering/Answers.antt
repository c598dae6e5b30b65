use Rattle.clause_form.proofs.NumberingLaws.{clauses_numbered, clauses_rise}
use Rattle.clause_form.proofs.law.numbering.Goals as goal

pub returns : goal.returns
returns c = record { numbers = clauses_numbered; order = clauses_rise }
