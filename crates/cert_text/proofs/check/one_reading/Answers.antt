use Rattle.cert_text.proofs.CheckLaws.{same_reading}
use Rattle.cert_text.proofs.check.one_reading.Goals as goal

pub returns : goal.returns
returns c = same_reading
