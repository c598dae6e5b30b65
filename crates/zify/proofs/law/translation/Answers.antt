use Rattle.zify.proofs.TranslationLaws.{law}
use Rattle.zify.proofs.law.translation.Goals as goal

pub returns : goal.returns
returns c = law
