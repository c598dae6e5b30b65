use Rattle.std.proofs.Common.{◌≡◌, to_z, of_z, arith}
use Rattle.std.proofs.lemmas.Int.{ints}
use Rattle.std.specs.Int.{w128}
use Rattle.simplex_core.proofs.numbers.weighted.Goals as goal

pub returns-clause-value : goal.returns-clause-value
returns-clause-value c =
    let a : to_z w128 (of_z w128 c.args.a) ≡ c.args.a = omega (arith, ints) in
    let b : to_z w128 (of_z w128 c.args.b) ≡ c.args.b = omega (arith, ints) in
    let x : to_z w128 (of_z w128 c.args.c) ≡ c.args.c = omega (arith, ints) in
    let y : to_z w128 (of_z w128 c.args.d) ≡ c.args.d = omega (arith, ints) in
    let p = simp (a, x) at c.product.ensures.value in
    let q = simp (b, y) at c.product-2.ensures.value in
    omega (arith, ints, p, q)
