use Rattle.std.proofs.Common.{◌∙◌, refl, ◌+◌, ◌*◌, ◌-◌, ◌^◌, min, ap, sym, arith}
use Rattle.clause_form.proofs.TallyLaws.{joint_step, joint_end}
use Rattle.clause_form.proofs.tally.with_hypotheses.Goals as goal

pub loop-hyp-preserved : goal.loop-hyp-preserved
loop-hyp-preserved c = (
  omega (arith, c.saturating_mul-number.ensures),
  joint_step c.loop-hyp.number c.saturating_mul-number.result c.loop-hyp.hyp-index (c.loop-hyp.hyp-index + 1) c.args.hyps.now c.hyp-item.result (omega arith) (sym c.hyp-item.is)
      (c.saturating_mul-number.ensures ∙ ap (λ a. min (c.loop-hyp.number * a) (2 ^ 64 - 1)) c.count.ensures.holds) refl
      ∙ c.loop-hyp.invariant.1,
)

pub returns : goal.returns
returns c = joint_end c.loop-hyp.number c.loop-hyp.hyp-index _ c.args.hyps.now (omega arith) c.loop-hyp.invariant.0 c.loop-hyp.invariant.1
