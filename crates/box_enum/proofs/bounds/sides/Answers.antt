use Rattle.std.proofs.Common.{◌≡◌, ◌++◌, ◌∷◌, [], to_z, of_z, ap, ◌∙◌, arith}
use Rattle.std.proofs.lemmas.Int.{ints}
use Rattle.std.specs.Int.{w128}
use Rattle.box_enum.proofs.BoundLaws.{none_joined, more_joined, all_joined, joined_as}
use Rattle.box_enum.proofs.bounds.sides.Goals as goal

pub loop-span-init : goal.loop-span-init
loop-span-init c = joined_as [] [] _ _ _ _ c.in_ok-low.ensures.items c.in_ok-high.ensures.items (none_joined c.args.spans.now)

pub loop-span-preserved : goal.loop-span-preserved
loop-span-preserved c =
    let least : to_z w128 (of_z w128 c.in-Some.least) ≡ c.in-Some.least = omega (arith, ints, c.in-Some.least-is) in
    let greatest : to_z w128 (of_z w128 c.in-Some.greatest) ≡ c.in-Some.greatest = omega (arith, ints, c.in-Some.greatest-is) in
    joined_as (c.loop-span.low.items ++ c.in-Some.least ∷ []) (c.loop-span.high.items ++ c.in-Some.greatest ∷ []) _ _ _ _
    (c.in_ok-push.ensures.items ∙ ap (λ z. c.loop-span.low.items ++ z ∷ []) least) (c.in_ok-push-2.ensures.items ∙ ap (λ z. c.loop-span.high.items ++ z ∷ []) greatest)
    (more_joined c.loop-span.low.items c.loop-span.high.items c.args.spans.now c.loop-span.span-index _ (c.in-Some.least, c.in-Some.greatest) c.loop-span-test.true c.in-Some.ensures c.loop-span.invariant)

pub returns : goal.returns
returns c = all_joined c.loop-span.low.items c.loop-span.high.items _ _ c.args.spans.now c.loop-span.span-index c.from_vec.ensures c.from_vec-2.ensures (omega arith) c.loop-span.invariant
