use Rattle.std.proofs.Common.{sym, arith}
use Rattle.mm_poly.proofs.PointSteps.{multiply, too_big}
use Rattle.mm_poly.proofs.point.is_small_multiple.Goals as goal

pub returns-in_default : goal.returns-in_default
returns-in_default c =
    let big = too_big _ _ _ _ _ c.loop.invariant (omega arith) (omega arith) (omega (arith, c.in-Some.ensures)) in
    (λ f. cc, λ s. absurd (omega arith))

pub returns-in_default-2 : goal.returns-in_default-2
returns-in_default-2 c =
    let big = too_big _ _ _ _ _ c.loop.invariant (omega arith) (omega arith) (omega (arith, c.in_default.ensures)) in
    (λ f. cc, λ s. absurd (omega arith))

pub loop-preserved : goal.loop-preserved
loop-preserved c = multiply _ _ _ _ _ _ c.loop.invariant (omega arith) (sym c.in-Some.ensures.1) (omega arith)
