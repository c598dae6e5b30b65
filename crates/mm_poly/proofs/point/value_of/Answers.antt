use Rattle.std.proofs.Common.{◌≡◌, ◌+ℤ◌, FitsSigned, to_z, of_z, ◌∙◌, ap, arith}
use Rattle.std.proofs.lemmas.Int.{ints, to_z-of_z}
use Rattle.std.specs.Int.{w128}
use Rattle.mm_poly.specs.Poly.{term_value}
use Rattle.mm_poly.specs.Point.{point_of}
use Rattle.mm_poly.proofs.PointSteps.{sum_small, sum_fits, sum_more}
use Rattle.mm_poly.proofs.point.value_of.Goals as goal

pub value_of_term-total-requires-clause-small : goal.value_of_term-total-requires-clause-small
value_of_term-total-requires-clause-small c = sum_small _ _ _ _ _ c.loop-term.invariant c.loop-term-test.true c.term-item.is

value_is : (c : goal.After-value_of_term-total) → to_z w128 (of_z w128 c.value_of_term-total.result) ≡ term_value (point_of c.args.point.now) c.term-item.result
value_is c =
    let e : to_z w128 (of_z w128 c.value_of_term-total.result) ≡ c.value_of_term-total.result = omega (arith, ints) in
    e ∙ c.value_of_term-total.ensures

sum_is : (c : goal.After-value_of_term-total) → FitsSigned w128 (to_z w128 c.loop-term.total-bits +ℤ to_z w128 (of_z w128 c.value_of_term-total.result))
sum_is c = sum_fits _ _ _ _ _ c.loop-term.invariant c.loop-term-test.true c.term-item.is _ (value_is c)

pub overflow_add-total : goal.overflow_add-total
overflow_add-total c = sum_is c

pub loop-term-preserved : goal.loop-term-preserved
loop-term-preserved c = sum_more _ _ _ _ _ c.loop-term.invariant c.loop-term-test.true c.term-item.is _
    (to_z-of_z _ _ (sum_is c) ∙ ap (λ v. to_z w128 c.loop-term.total-bits +ℤ v) (value_is c))
