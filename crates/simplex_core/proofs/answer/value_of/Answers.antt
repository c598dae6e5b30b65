use Rattle.std.proofs.Common.{subst, sym, ◌∙◌, arith}
use Rattle.simplex_core.specs.Form.{Among, one_of, Line}
use Rattle.simplex_core.specs.machine.Tableau.{IsValueOf}
use Rattle.simplex_core.proofs.ChoiceLaws.{Among-get_or}
use Rattle.simplex_core.proofs.PointLaws.{value_here, value_nowhere}
use Rattle.simplex_core.proofs.answer.value_of.Goals as goal

pub returns-then-basic-variable : goal.returns-then-basic-variable
returns-then-basic-variable c =
    let form = c.args.lines.now in
    let l = c.line-item.result in
    let stands : Among c.line-item.result c.args.lines.now =
    subst (λ (x : Line). Among x form) (sym c.line-item.is) (Among-get_or form c.loop-line.line-index c.line-item.result c.loop-line-test.true) in
    subst (λ j. IsValueOf (one_of c.args.unknowns c.args.rows.now) form j c.basic_value.result) (sym c.basic.ensures ∙ c.if-basic-variable.true)
    (value_here c.args.unknowns c.args.rows.now form c.line-item.result c.basic_value.result c.requires.form stands c.basic_value.ensures.fraction c.basic_value.ensures.value)

pub returns : goal.returns
returns c =
    value_nowhere (one_of c.args.unknowns c.args.rows.now) c.args.lines.now c.args.variable c.zero.result c.zero.ensures.fraction c.zero.ensures.value
    (λ k h. c.loop-line.invariant k (omega (arith, h)))
