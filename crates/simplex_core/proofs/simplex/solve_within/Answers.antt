use Rattle.std.proofs.lemmas.Result.{IfOk-weaker}
use Rattle.simplex_core.proofs.SolveLaws.{answer_enough, answer_forms}
use Rattle.simplex_core.proofs.simplex.solve_within.Goals as goal

pub returns-clause-enough_turns : goal.returns-clause-enough_turns
returns-clause-enough_turns c e = IfOk-weaker c.walk.result _ _ (λ w h. answer_enough c.args.rows.now c.args.turns w.solved e h.0) c.walk.ensures

pub returns-clause-narrow_forms : goal.returns-clause-narrow_forms
returns-clause-narrow_forms c e = IfOk-weaker c.walk.result _ _ (λ w h. answer_forms c.args.rows.now c.args.turns w.solved e h.0) c.walk.ensures
