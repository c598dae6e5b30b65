use Rattle.std.proofs.Common.{◌≡◌, ◌+ℤ◌, ◌*ℤ◌, to_z, of_z, arith}
use Rattle.std.proofs.lemmas.Int.{ints}
use Rattle.std.specs.Int.{w128}
use Rattle.mm_num.specs.Frac.{left_cross, right_cross}
use Rattle.mm_num.proofs.frac.Frac.add.Goals as goal

pub returns-clause-value : goal.returns-clause-value
returns-clause-value c =
    let n : to_z w128 (of_z w128 c.in_ok-num.num) ≡ left_cross c.args.self.now c.args.other.now +ℤ right_cross c.args.self.now c.args.other.now =
    omega (arith, ints, c.in_ok-num.ensures, c.in_ok-left.ensures.value, c.in_ok-right.ensures.value) in
    let d : to_z w128 (of_z w128 c.in_ok-den.den) ≡ c.args.self.now.1 *ℤ c.args.other.now.1 =
    omega (arith, ints, c.in_ok-den.ensures.value) in
    simp (n, d) at c.make.ensures.value
