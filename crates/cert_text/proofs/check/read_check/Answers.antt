use Rattle.cert_text.proofs.CheckLaws.{check_found, check_bad}
use Rattle.cert_text.proofs.check.read_check.Goals as goal

pub returns-clause-found : goal.returns-clause-found
returns-clause-found c = check_found c.args.bytes.now c.check.result c.check.ensures

pub returns-clause-bad : goal.returns-clause-bad
returns-clause-bad c = check_bad c.args.bytes.now c.check.result c.check.ensures
