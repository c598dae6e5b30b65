use Rattle.cert_check.proofs.UseLaws.{uses_known}
use Rattle.cert_check.proofs.uses.last_uses.Goals as goal

pub returns-then-levels-eq0-clause-known : goal.returns-then-levels-eq0-clause-known
returns-then-levels-eq0-clause-known c = c.no_uses.ensures.known c.args.steps.now c.args.close.now

pub returns-clause-known : goal.returns-clause-known
returns-clause-known c = uses_known c.args.first c.args.steps.now c.args.close.now _ _ _ c.note_in_order.ensures c.note_close.ensures
