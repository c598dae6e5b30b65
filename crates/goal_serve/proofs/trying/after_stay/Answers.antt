use Rattle.std.proofs.Common.{subst}
use Rattle.goal_serve.specs.declared.trying.Reached.{Reached}
use Rattle.goal_serve.specs.machine.Trying.{IsReached}
use Rattle.goal_serve.proofs.TryingLaws.{stays_with}
use Rattle.goal_serve.proofs.trying.after_stay.Goals as goal

pub returns-in-Shown : goal.returns-in-Shown
returns-in-Shown c = λ turns cs n t e r.
    let q = subst (λ (x : Reached). IsReached c.args.goal.now turns n x) c.in-Shown.is r in
    ((stays_with c.args.goal.now turns cs c.args.clause c.args.why n t.0, t.1), q.1)
