use Rattle.cert_text.proofs.CheckLaws.{same_place, no_check_there}
use Rattle.cert_text.proofs.check.one_place.Goals as goal

pub returns-clause-one : goal.returns-clause-one
returns-clause-one c = same_place

pub returns-clause-none : goal.returns-clause-none
returns-clause-none c = no_check_there
