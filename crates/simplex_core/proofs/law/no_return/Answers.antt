use Rattle.simplex_core.proofs.ClashLaws.{no_return as proved}
use Rattle.simplex_core.proofs.law.no_return.Goals as goal

pub returns : goal.returns
returns c = proved
