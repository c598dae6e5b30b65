use Rattle.std.proofs.Common.{◌++◌, ap, ◌∙◌}
use Rattle.std.proofs.lemmas.Result.{on_ok_weaker}
use Rattle.goal_serve.proofs.PrintLaws.{values_are}
use Rattle.goal_serve.proofs.print.push_values.Goals as goal

pub returns : goal.returns
returns c = on_ok_weaker c.push_assignment.result (λ e. e ∙ ap (λ text. c.args.out.now.items ++ text) (values_are c.args.goal.now.vars c.args.a.now.values)) c.push_assignment.ensures
