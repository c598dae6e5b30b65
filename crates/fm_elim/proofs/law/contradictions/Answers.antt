use Rattle.fm_elim.proofs.ContraLaws.{contra}
use Rattle.fm_elim.proofs.law.contradictions.Goals as goal

pub returns : goal.returns
returns c = contra
