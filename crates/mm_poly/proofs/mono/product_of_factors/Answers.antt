use Rattle.std.proofs.Common.{length, ◌≤◌, ◌⊎◌, inl, inr, refl, arith}
use Rattle.mm_poly.proofs.FactorSteps.{factor_less, factor_equal, factor_greater, factored}
use Rattle.mm_poly.proofs.mono.product_of_factors.Goals as goal
use Rattle.mm_poly.proofs.mono.product_of_factors.Goals.{then-loop-i-test+else-j-right, else-loop-i-test}

pub loop-i-preserved-in-Less : goal.loop-i-preserved-in-Less
loop-i-preserved-in-Less c = factor_less _ _ _ _ _ _ _ c.loop-i.invariant (omega arith) (omega arith) refl refl _ c.in-Less.ensures c.in_ok-push-in-Less.ensures.ok

pub loop-i-preserved-in-Equal : goal.loop-i-preserved-in-Equal
loop-i-preserved-in-Equal c = factor_equal _ _ _ _ _ _ _ c.loop-i.invariant (omega arith) (omega arith) refl refl _ c.in-Equal.ensures c.in_ok-push-in-Equal.ensures.ok

pub loop-i-preserved : goal.loop-i-preserved
loop-i-preserved c = factor_greater _ _ _ _ _ _ _ c.loop-i.invariant (omega arith) (omega arith) refl refl _ c.in-Greater.ensures c.in_ok-push-in-Greater.ensures.ok

pub returns : goal.returns
returns c =
    let used : (length c.args.left.now ≤ c.loop-i.i) ⊎ (length c.args.right.now ≤ c.loop-i.j) =
    elim c.loop-i-test.branch [ then-loop-i-test+else-j-right w ↦ inr (omega arith) | else-loop-i-test w ↦ inl (omega arith) ] in
    factored _ _ _ _ _ c.loop-i.invariant used _ _ c.in_ok-extend_from_slice.ensures.ok c.in_ok-extend_from_slice-2.ensures.ok
