use Rattle.simplex_core.proofs.CountLaws.{few_pivots as proved}
use Rattle.simplex_core.proofs.law.few_pivots.Goals as goal

pub returns : goal.returns
returns c = proved
