use Rattle.std.proofs.Common.{◌≡◌, ◌*ℤ◌, pos, slice_index_or, to_z, of_z, ◌∙◌, ap, arith}
use Rattle.std.proofs.lemmas.Int.{ints}
use Rattle.std.specs.Int.{w128}
use Rattle.mm_num.specs.Power.{power}
use Rattle.mm_poly.proofs.PointSteps.{evaluate_place, evaluate_small, evaluate}
use Rattle.mm_poly.proofs.point.value_of_term.Goals as goal

pub bounds-point-variable : goal.bounds-point-variable
bounds-point-variable c = evaluate_place _ _ _ _ _ _ c.loop-n.invariant c.factor-variable.ensures

base_is : (c : goal.After-base-1)
    → to_z w128 (of_z w128 (slice_index_or c.args.point.now c.factor-variable.result.0 (pos 0))) ≡ slice_index_or c.args.point.now c.factor-variable.result.0 (pos 0)
base_is c = omega (arith, ints)

pub times_power-product-requires : goal.times_power-product-requires
times_power-product-requires c = rw (base_is c) (evaluate_small _ _ _ _ _ _ c.loop-n.invariant c.factor-variable.ensures)

pub loop-n-preserved : goal.loop-n-preserved
loop-n-preserved c =
    let base : to_z w128 (of_z w128 (slice_index_or c.args.point.now c.factor-variable.result.0 (pos 0))) ≡ slice_index_or c.args.point.now c.factor-variable.result.0 (pos 0) = omega (arith, ints) in
    let e : to_z w128 (of_z w128 c.times_power-product.result) ≡ c.times_power-product.result = omega (arith, ints) in
    evaluate _ _ _ _ _ _ c.loop-n.invariant c.factor-variable.ensures _
    (e ∙ c.times_power-product.ensures ∙ ap (λ z. to_z w128 c.loop-n.product-bits *ℤ power z c.factor-variable.result.1) base)
