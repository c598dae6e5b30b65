use Rattle.std.specs.Prelude.{Option}
use Rattle.std.proofs.Common.{ap, ◌∙◌, subst}
use Rattle.zify.specs.declared.fail.ZFail.{ZFail}
use Rattle.goal_measure.specs.Bounding.{formula_bound}
use Rattle.zify.specs.machine.Refusal.{refused, Zified}
use Rattle.zify.proofs.WholeLaws.{gives_translated, gives_law, gives_limits, gives_weight, gives_spread, gives_degree}
use Rattle.zify.proofs.convert.zify.Goals as goal
use Rattle.zify.proofs.convert.zify.Goals.{After-zify_within}

answered : (c : After-zify_within) → Zified c.args.goal.now (refused (formula_bound c.args.goal.now.body)) c.zify_within.result
answered c = subst (λ (o : Option ZFail). Zified c.args.goal.now o c.zify_within.result) (c.refusal.ensures ∙ ap refused c.weigh_formula.ensures) c.zify_within.ensures

pub returns-clause-translated : goal.returns-clause-translated
returns-clause-translated c = gives_translated c.args.goal.now c.zify_within.result (answered c)

pub returns-clause-law : goal.returns-clause-law
returns-clause-law c = gives_law c.args.goal.now c.zify_within.result c.requires (answered c)

pub returns-clause-limits : goal.returns-clause-limits
returns-clause-limits c = gives_limits c.args.goal.now c.zify_within.result (answered c)

pub returns-clause-weight : goal.returns-clause-weight
returns-clause-weight c = gives_weight c.args.goal.now c.zify_within.result (answered c)

pub returns-clause-spread : goal.returns-clause-spread
returns-clause-spread c = gives_spread c.args.goal.now c.zify_within.result (answered c)

pub returns-clause-degree : goal.returns-clause-degree
returns-clause-degree c = gives_degree c.args.goal.now c.zify_within.result (answered c)
