use Rattle.fm_elim.proofs.StepLaws.{tidied_same, tidied_contra}
use Rattle.fm_elim.proofs.law.tidy.Goals as goal

pub returns-clause-same : goal.returns-clause-same
returns-clause-same c = tidied_same

pub returns-clause-contra : goal.returns-clause-contra
returns-clause-contra c = tidied_contra
