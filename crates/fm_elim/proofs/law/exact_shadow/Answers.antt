use Rattle.fm_elim.proofs.StepLaws.{shadow_exact}
use Rattle.fm_elim.proofs.law.exact_shadow.Goals as goal

pub returns : goal.returns
returns c = shadow_exact
