use Rattle.std.proofs.Common.{◌≡◌, to_z, of_z, rules}
use Rattle.std.specs.Int.{w128}
use Rattle.mm_num.specs.Quotient.{floor_quotient}
use Rattle.mm_num.proofs.FracLaws.{exact_is}
use Rattle.mm_num.proofs.divide.divided.Goals as goal

pub returns-clause-value : goal.returns-clause-value
returns-clause-value c =
    let e : to_z w128 (of_z w128 c.rounded_down.result) ≡ floor_quotient c.args.a c.args.divisor = search rules in
    exact_is _ _ _ c.requires.positive c.requires.exact e
