use Rattle.std.specs.Prelude.{refl}
use Rattle.box_enum.proofs.BoundLaws.{push_span}
use Rattle.box_enum.proofs.bounds.no_spans.Goals as goal

pub loop-var-preserved : goal.loop-var-preserved
loop-var-preserved c = push_span c.loop-var.spans.items _ _ c.args.vars.now c.loop-var._var-index c.loop-var-test.true c.in_ok-push.ensures.items refl c.loop-var.invariant
