use Rattle.std.proofs.Common.{subst, ◌-◌}
use Rattle.report_text.specs.Fitting.{AtRow}
use Rattle.report_text.specs.machine.Kinds.{IsRowLine}
use Rattle.report_text.specs.Progress.{reading_at}
use Rattle.report_text.specs.machine.Steps.{FindsKind}
use Rattle.report_text.proofs.NextLaws.{seen, gives_cert}
use Rattle.report_text.proofs.next.rowed.Goals as goal

pub returns-in-Some : goal.returns-in-Some
returns-in-Some c =
    λ vars. subst
    (λ o. FindsKind IsRowLine (reading_at c.args.progress (AtRow c.args.number c.args.rows (c.args.last - c.args.number))) vars c.args.bytes.now (seen o)) c.in-Some.is
    (c.in_ok-found.ensures vars)

pub returns : goal.returns
returns c =
    gives_cert c.args.progress c.args.bytes.now c.args.number c.args.rows (c.args.last - c.args.number) c.certificate_next.result
    (λ vars. subst (λ o. FindsKind IsRowLine (reading_at c.args.progress (AtRow c.args.number c.args.rows (c.args.last - c.args.number))) vars c.args.bytes.now
    (seen o)) c.in_default.is (c.in_ok-found.ensures vars))
    c.certificate_next.ensures
