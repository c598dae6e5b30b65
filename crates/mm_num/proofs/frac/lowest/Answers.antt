use Rattle.std.proofs.Common.{◌≡◌, to_z, of_z, arith}
use Rattle.std.proofs.lemmas.Int.{ints}
use Rattle.std.specs.Int.{w128}
use Rattle.mm_num.specs.Frac.{IsFraction, HasValue}
use Rattle.mm_num.proofs.FracLaws.{reduced, wide}
use Rattle.mm_num.proofs.frac.lowest.Goals as goal

pub divided-above-requires-clause-exact : goal.divided-above-requires-clause-exact
divided-above-requires-clause-exact c =
    let n : to_z w128 (of_z w128 c.args.num) ≡ c.args.num = omega (arith, ints) in
    simp (n, wide c.common-divisor.result c.common-divisor.ensures.small) ((simp n at c.common-divisor.ensures.divisor).0)

pub divided-below-requires-clause-exact : goal.divided-below-requires-clause-exact
divided-below-requires-clause-exact c =
    let d : to_z w128 (of_z w128 c.args.den) ≡ c.args.den = omega (arith, ints) in
    simp (d, wide c.common-divisor.result c.common-divisor.ensures.small) ((simp d at c.common-divisor.ensures.divisor).1)

num_is : (c : goal.After-divided-below) → to_z w128 (of_z w128 c.args.num) ≡ c.args.num
num_is c = omega (arith, ints)

den_is : (c : goal.After-divided-below) → to_z w128 (of_z w128 c.args.den) ≡ c.args.den
den_is c = omega (arith, ints)

divisor_is : (c : goal.After-divided-below) → to_z w128 (of_z w128 c.common-divisor.result) ≡ c.common-divisor.result
divisor_is c = wide c.common-divisor.result c.common-divisor.ensures.small

above_is : (c : goal.After-divided-below) → to_z w128 (of_z w128 c.divided-above.result) ≡ c.divided-above.result
above_is c = wide c.divided-above.result c.divided-above.ensures.small

below_is : (c : goal.After-divided-below) → to_z w128 (of_z w128 c.divided-below.result) ≡ c.divided-below.result
below_is c = wide c.divided-below.result c.divided-below.ensures.small

made : (c : goal.After-divided-below)
    → IsFraction (c.divided-above.result, c.divided-below.result) × HasValue (c.divided-above.result, c.divided-below.result) c.args.num c.args.den
made c =
    reduced c.args.num c.args.den c.common-divisor.result c.divided-above.result c.divided-below.result
    c.divided-above.ensures.small c.divided-below.ensures.small c.requires.positive c.common-divisor.ensures.positive
    (simp (num_is c, den_is c) at c.common-divisor.ensures.divisor)
    (simp (divisor_is c, num_is c) at c.divided-above.ensures.value) (simp (divisor_is c, den_is c) at c.divided-below.ensures.value)

pub invariant_of-result : goal.invariant_of-result
invariant_of-result c = simp (above_is c, below_is c) ((made c).0)

pub returns-clause-fraction : goal.returns-clause-fraction
returns-clause-fraction c = simp (above_is c, below_is c) ((made c).0)

pub returns-clause-value : goal.returns-clause-value
returns-clause-value c = simp (above_is c, below_is c) ((made c).1)
