use Rattle.clause_form.proofs.ClauseLaws.{point_law, valid_law}
use Rattle.clause_form.proofs.law.refutation.Goals as goal

pub returns : goal.returns
returns c = record { point = point_law; valid = valid_law }
