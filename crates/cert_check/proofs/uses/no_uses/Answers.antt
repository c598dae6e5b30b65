use Rattle.cert_check.proofs.UseLaws.{none_known}
use Rattle.cert_check.proofs.uses.no_uses.Goals as goal

pub returns-clause-known : goal.returns-clause-known
returns-clause-known c = none_known c.args.first c.new.result.items c.new.ensures.items
