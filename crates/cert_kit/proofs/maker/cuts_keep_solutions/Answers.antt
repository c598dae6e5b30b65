use Rattle.cert_kit.proofs.CutBackLaws.{cut_same}
use Rattle.cert_kit.proofs.maker.cuts_keep_solutions.Goals as goal

pub returns : goal.returns
returns c = cut_same
