use Rattle.report_text.proofs.NextLaws.{gives_counted}
use Rattle.report_text.proofs.next.found_next.Goals as goal

pub returns-clause-counted : goal.returns-clause-counted
returns-clause-counted c = gives_counted c.args.vars.now c.args.progress c.args.bytes.now c.by_due.result c.requires c.by_due.ensures
