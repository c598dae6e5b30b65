use Rattle.zify.proofs.TranslationLaws.{at_points}
use Rattle.zify.proofs.law.points.Goals as goal

pub returns : goal.returns
returns c = record { suits = λ goal y w h. (at_points goal w y h).0; same = λ goal y w h. (at_points goal w y h).1 }
