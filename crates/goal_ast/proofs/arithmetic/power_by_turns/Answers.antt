use Rattle.std.proofs.Common.{◌≡◌, ◌<◌, ◌*ℤ◌, arith, ap, sym, ◌∙◌, None, to_z-of_z}
use Rattle.std.proofs.lemmas.Grind.{common_steps}
use Rattle.mm_num.specs.Power.{power}
use Rattle.goal_ast.specs.Evaluation.{checked}
use Rattle.goal_ast.proofs.PowerLaws.{power_ends}
use Rattle.goal_ast.proofs.arithmetic.power_by_turns.Goals as goal

pub returns-in_err-value-clause-value : goal.returns-in_err-value-clause-value
returns-in_err-value-clause-value c =
    let within : c.loop.counter < c.args.exponent = grind (arith, common_steps) in
    let none : None ≡ checked (c.args.base *ℤ c.loop.value) = grind (arith, common_steps) in
    let same : c.loop.value ≡ power c.args.base c.loop.counter = sym c.loop.value-is ∙ c.loop.invariant ∙ ap (λ b. power b c.loop.counter) (to_z-of_z c.ranges.base) in
    let ends = power_ends c.args.base c.loop.value c.loop.counter c.args.exponent c.requires same within none in
    grind (arith, common_steps)
