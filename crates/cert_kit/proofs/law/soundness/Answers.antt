use Rattle.cert_kit.proofs.SoundLaws.{accepted_sound}
use Rattle.cert_kit.proofs.law.soundness.Goals as goal

pub returns-clause-accepted : goal.returns-clause-accepted
returns-clause-accepted c = accepted_sound

pub returns-clause-good : goal.returns-clause-good
returns-clause-good c = λ d rows g. accepted_sound d rows g.accepted
