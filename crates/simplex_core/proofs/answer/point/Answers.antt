use Rattle.std.proofs.Common.{◌≡◌, ◌+◌, length, ap, subst, sym, ◌∙◌, arith}
use Rattle.std.proofs.lemmas.List.{length_push}
use Rattle.simplex_core.specs.Form.{one_of}
use Rattle.simplex_core.specs.machine.Tableau.{IsValueOf, AreValues}
use Rattle.simplex_core.proofs.PointLaws.{AreValues-push}
use Rattle.simplex_core.proofs.answer.point.Goals as goal

pub loop-variable-preserved : goal.loop-variable-preserved
loop-variable-preserved c =
    let one = one_of c.args.unknowns c.args.rows.now in
    let form = c.args.lines.now in
    let values = c.loop-variable.values.items in
    let next : 0 + length c.loop-variable.values.items ≡ c.loop-variable.variable = (let q = c.loop-variable.invariant.count in omega (arith, q)) in
    record {
      count = ap length c.in_ok-push.ensures.items ∙ length_push c.loop-variable.values.items c.value_of.result ∙ ap (λ k. k + 1) c.loop-variable.invariant.count;
      values = subst (AreValues one form 0) (sym c.in_ok-push.ensures.items)
          (AreValues-push one form 0 c.loop-variable.values.items c.value_of.result c.loop-variable.invariant.values
          (subst (λ j. IsValueOf one form j c.value_of.result) (sym next) c.value_of.ensures));
    }
