use Rattle.std.proofs.Common.{subst}
use Rattle.goal_serve.specs.declared.trying.Reached.{Reached}
use Rattle.goal_serve.specs.machine.Trying.{IsReached}
use Rattle.goal_serve.proofs.TryingLaws.{one_shown}
use Rattle.goal_serve.proofs.trying.after_all.Goals as goal

pub returns-in_ok-push-in-Shown : goal.returns-in_ok-push-in-Shown
returns-in_ok-push-in-Shown c = λ turns cs n t e r.
    let q = subst (λ (x : Reached). IsReached c.args.goal.now turns n x) c.in-Shown.is r in
    (one_shown c.args.goal.now turns cs n c.args.shown.items _ c.in-Shown.one c.in_ok-push-in-Shown.ensures.items t q.0, q.1)

pub returns-in_ok-next-in-Refuted : goal.returns-in_ok-next-in-Refuted
returns-in_ok-next-in-Refuted c = λ turns cs n t e r. c.in_ok-next-in-Refuted.ensures turns cs n (subst (λ (x : Reached). IsReached c.args.goal.now turns n x) c.in-Refuted.is r)
