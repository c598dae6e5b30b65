use Rattle.cert_kit.proofs.KeyLaws.{rows_codec, one_key}
use Rattle.cert_kit.proofs.key.keys.Goals as goal

pub returns-clause-codec : goal.returns-clause-codec
returns-clause-codec c = rows_codec

pub returns-clause-same : goal.returns-clause-same
returns-clause-same c = one_key
