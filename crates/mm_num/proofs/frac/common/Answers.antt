use Rattle.std.proofs.Common.{◌≡◌, to_z, of_z, unsigned_abs, arith}
use Rattle.std.proofs.lemmas.Int.{ints}
use Rattle.std.specs.Int.{IsGcd, w128}
use Rattle.mm_num.proofs.FracLaws.{divisor_positive, wide}
use Rattle.mm_num.proofs.frac.common.Goals as goal

num_is : (c : goal.After-gcd) → to_z w128 (of_z w128 c.args.num) ≡ c.args.num
num_is c = omega (arith, ints)

den_is : (c : goal.After-gcd) → to_z w128 (of_z w128 c.args.den) ≡ c.args.den
den_is c = omega (arith, ints)

result_is : (c : goal.After-gcd) → to_z w128 (of_z w128 c.gcd.result) ≡ c.gcd.result
result_is c = wide c.gcd.result c.gcd.ensures.small

greatest : (c : goal.After-gcd) → IsGcd (unsigned_abs c.args.num) (unsigned_abs c.args.den) (unsigned_abs c.gcd.result)
greatest c = simp (num_is c, den_is c) at c.gcd.ensures.divisor

pub returns-clause-divisor : goal.returns-clause-divisor
returns-clause-divisor c = simp (result_is c) (greatest c)

pub returns-clause-positive : goal.returns-clause-positive
returns-clause-positive c =
    rw (result_is c)
    (divisor_positive c.args.num c.args.den c.gcd.result (greatest c)
    (simp (num_is c, den_is c) at c.gcd.ensures.value) c.requires.positive)
