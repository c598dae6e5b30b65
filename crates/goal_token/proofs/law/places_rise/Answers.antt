use Rattle.std.proofs.Common.{length, arith}
use Rattle.goal_token.proofs.TokenLaws.{rise}
use Rattle.goal_token.proofs.law.places_rise.Goals as goal

pub returns : goal.returns
returns c = λ bytes. rise 0 0 bytes 0 (length bytes) (omega arith) (omega arith)
