use Rattle.std.proofs.Common.{subst}
use Rattle.goal_serve.specs.declared.trying.Tried.{Tried}
use Rattle.goal_serve.specs.machine.Trying.{IsTried}
use Rattle.goal_serve.proofs.trying.go_on.Goals as goal

pub returns-in-Stays : goal.returns-in-Stays
returns-in-Stays c = λ turns cs n t e r. c.after_stay.ensures turns cs n (subst (λ (x : Tried). IsTried c.args.goal.now turns cs x) c.in-Stays.is t) e r
