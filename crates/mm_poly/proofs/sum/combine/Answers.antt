use Rattle.std.proofs.Common.{◌≤◌, ◌⊎◌, length, inl, inr, ◌∙◌, arith}
use Rattle.std.proofs.lemmas.Int.{to_z-of_z}
use Rattle.mm_poly.proofs.CombinationSteps.{combine_less, combine_equal, combine_greater, combined, combined_as}
use Rattle.mm_poly.proofs.sum.combine.Goals as goal
use Rattle.mm_poly.proofs.sum.combine.Goals.{then-loop-i-test+else-j-right, else-loop-i-test}

pub loop-i-preserved-in-Less : goal.loop-i-preserved-in-Less
loop-i-preserved-in-Less c = combine_less _ _ _ _ _ _ _ _ _ c.loop-i.invariant (omega arith) (omega arith) c.index-left-i.is c.index-right-j.is _ c.in-Less.ensures c.in_ok-push_multiple-in-Less.ensures

pub loop-i-preserved-in-Equal : goal.loop-i-preserved-in-Equal
loop-i-preserved-in-Equal c = combine_equal _ _ _ _ _ _ _ _ _ c.loop-i.invariant (omega arith) (omega arith) c.index-left-i.is c.index-right-j.is _ c.in-Equal.ensures c.in_ok-push_combined-in-Equal.ensures

pub loop-i-preserved : goal.loop-i-preserved
loop-i-preserved c = combine_greater _ _ _ _ _ _ _ _ _ c.loop-i.invariant (omega arith) (omega arith) c.index-left-i.is c.index-right-j.is _ c.in-Greater.ensures c.in_ok-push_multiple-in-Greater.ensures

pub returns : goal.returns
returns c =
    let used : (length c.args.left.now ≤ c.loop-i.i) ⊎ (length c.args.right.now ≤ c.loop-i.j) =
    elim c.loop-i-test.branch [ then-loop-i-test+else-j-right w ↦ inr (omega arith) | else-loop-i-test w ↦ inl (omega arith) ] in
    c.trimmed.ensures
    ∙ combined _ _ _ _ _ _ _ c.loop-i.invariant used _ _ c.in_ok-push_multiples.ensures c.in_ok-push_multiples-2.ensures
    ∙ combined_as _ _ _ _ _ _ (to_z-of_z _ _ c.ranges.a) (to_z-of_z _ _ c.ranges.b)
