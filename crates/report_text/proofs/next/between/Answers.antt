use Rattle.std.proofs.Common.{subst, sym}
use Rattle.goal_ast.specs.declared.goal.Mode.TheVariants.{Lia}
use Rattle.report_text.specs.Fitting.{Between}
use Rattle.report_text.specs.machine.Reading.{cache_at}
use Rattle.report_text.specs.Progress.{reading_at, FindsNext}
use Rattle.report_text.specs.machine.Steps.{FindsKind, moved_by, call_due, IsSessionKind, IsAskedKind}
use Rattle.report_text.proofs.NextLaws.{seen, cache_next, one_of_three}
use Rattle.report_text.proofs.next.between.Goals as goal

pub returns-in-Some : goal.returns-in-Some
returns-in-Some c =
    λ vars. subst (λ o. FindsKind IsSessionKind (reading_at c.args.progress Between) vars c.args.bytes.now (seen o)) c.in-Some.is (c.in_ok-found.ensures vars)

pub returns-in-Some-2 : goal.returns-in-Some-2
returns-in-Some-2 c =
    λ vars. subst (λ o. FindsKind IsAskedKind (reading_at c.args.progress Between) vars c.args.bytes.now (seen o)) c.in-Some-2.is (c.in_ok-found-2.ensures vars)

pub returns : goal.returns
returns c = λ vars.
    subst (FindsNext (reading_at c.args.progress Between) vars c.args.bytes.now) (sym c.cache_next.ensures)
    (one_of_three vars c.args.progress c.args.bytes.now (moved_by c.args.progress (call_due Lia 0) (cache_at Lia c.args.bytes.now))
    (subst (λ o. FindsKind IsSessionKind (reading_at c.args.progress Between) vars c.args.bytes.now (seen o)) c.in_default.is (c.in_ok-found.ensures vars))
    (subst (λ o. FindsKind IsAskedKind (reading_at c.args.progress Between) vars c.args.bytes.now (seen o)) c.in_default-2.is (c.in_ok-found-2.ensures vars))
    (cache_next vars c.args.progress c.args.bytes.now))
