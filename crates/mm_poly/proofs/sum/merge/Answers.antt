use Rattle.std.proofs.Common.{length, ◌≤◌, ◌⊎◌, inl, inr, ◌∙◌, arith}
use Rattle.mm_poly.proofs.MergeSteps.{less, equal, greater, finished}
use Rattle.mm_poly.proofs.sum.merge.Goals as goal
use Rattle.mm_poly.proofs.sum.merge.Goals.{then-loop-i-test+else-j-right, else-loop-i-test}

pub loop-i-preserved-in-Less : goal.loop-i-preserved-in-Less
loop-i-preserved-in-Less c = less _ _ _ _ _ _ _ c.loop-i.invariant (omega arith) (omega arith) c.index-left-i.is c.index-right-j.is _ c.in-Less.ensures c.in_ok-push_copy-in-Less.ensures

pub loop-i-preserved-in-Equal : goal.loop-i-preserved-in-Equal
loop-i-preserved-in-Equal c = equal _ _ _ _ _ _ _ c.loop-i.invariant (omega arith) (omega arith) c.index-left-i.is c.index-right-j.is _ c.in-Equal.ensures c.in_ok-push_sum-in-Equal.ensures

pub loop-i-preserved : goal.loop-i-preserved
loop-i-preserved c = greater _ _ _ _ _ _ _ c.loop-i.invariant (omega arith) (omega arith) c.index-left-i.is c.index-right-j.is _ c.in-Greater.ensures c.in_ok-push_copy-in-Greater.ensures

pub returns : goal.returns
returns c =
    let used : (length c.args.left.now ≤ c.loop-i.i) ⊎ (length c.args.right.now ≤ c.loop-i.j) =
    elim c.loop-i-test.branch [ then-loop-i-test+else-j-right w ↦ inr (omega arith) | else-loop-i-test w ↦ inl (omega arith) ] in
    c.trimmed.ensures ∙ finished _ _ _ _ _ c.loop-i.invariant used _ _ c.in_ok-push_copies.ensures c.in_ok-push_copies-2.ensures
