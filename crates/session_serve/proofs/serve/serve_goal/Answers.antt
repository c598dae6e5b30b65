use Rattle.std.proofs.lemmas.Result.{IfOk-weaker}
use Rattle.goal_serve.specs.Answering.{MeetsGoal}
use Rattle.session_serve.specs.Serving.{IsServed}
use Rattle.session_serve.proofs.ServingLaws.{served}
use Rattle.session_serve.proofs.serve.serve_goal.Goals as goal

pub returns-in-Ok : goal.returns-in-Ok
returns-in-Ok g c =
    IfOk-weaker c.answer.result (MeetsGoal c.in-Ok.goal c.args.turns) (IsServed c.args.turns c.args.raw.now)
    (λ a meets. served c.args.raw.now c.in-Ok.goal c.args.turns a c.in-Ok.ensures.sorted meets) c.answer.ensures.good
