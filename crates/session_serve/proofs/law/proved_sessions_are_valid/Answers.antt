use Rattle.session_serve.proofs.RightLaws.{all_valid}
use Rattle.session_serve.proofs.law.proved_sessions_are_valid.Goals as goal

pub returns : goal.returns
returns c = all_valid
