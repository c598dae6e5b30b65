use Rattle.fm_elim.proofs.NumberLaws.{are_numbered}
use Rattle.fm_elim.proofs.law.numbering.Goals as goal

pub returns : goal.returns
returns c = λ rows n a l o. are_numbered rows n a l o
