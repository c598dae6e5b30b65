use Rattle.std.proofs.Common.{◌≡◌, ◌∙◌, ◌++◌, ◌∷◌, [], ap, ℤ, List, take, subst, to_z, of_z, arith}
use Rattle.std.proofs.lemmas.Int.{ints}
use Rattle.std.proofs.lemmas.List.{take_all}
use Rattle.std.specs.Int.{w128}
use Rattle.mm_num.proofs.FracLaws.{wide}
use Rattle.cut_branch.specs.machine.Scaling.{AreOver}
use Rattle.cut_branch.proofs.StepLaws.{over_next}
use Rattle.cut_branch.proofs.scaled.over_one.Goals as goal

pub loop-value-preserved : goal.loop-value-preserved
loop-value-preserved c =
    let w = wide c.in-Some-numerator_over.num c.in-Some-numerator_over.ensures.small in
    over_next _ c.in-Some-numerator_over.num c.loop-value.nums.items c.push.new.self.items c.args.point.now c.loop-value.value-index
    c.value-item.result c.value-item.result c.loop-value-test.true c.value-item.is c.loop-value.invariant
    c.in-Some-numerator_over.ensures.value (c.in_ok-push.ensures.items ∙ ap (λ n. c.loop-value.nums.items ++ n ∷ []) w)

pub returns : goal.returns
returns c =
    let w = wide c.in-Some.den c.in-Some.ensures.small in
    let p = c.in-Some.ensures.positive in
    let s = c.in-Some.ensures.small in
    let t = c.loop-value-test.false in
    let whole : take c.loop-value.value-index c.args.point.now ≡ c.args.point.now = take_all _ _ (omega (arith, t)) in
    record {
      positive = omega (arith, ints, w, p);
      small = omega (arith, ints, w, s);
      over = subst (λ (xs : List (ℤ × ℤ)). AreOver (to_z w128 (of_z w128 c.in-Some.den)) c.loop-value.nums.items xs) whole c.loop-value.invariant;
      fractions = c.have_fractions.ensures;
    }
