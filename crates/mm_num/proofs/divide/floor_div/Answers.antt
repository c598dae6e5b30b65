use Rattle.std.proofs.Common.{◌≡◌, to_z, of_z, rules}
use Rattle.std.specs.Int.{w128}
use Rattle.mm_num.specs.Quotient.{floor_quotient}
use Rattle.mm_num.proofs.QuotientLaws.{floor_is}
use Rattle.mm_num.proofs.divide.floor_div.Goals as goal

pub returns-clause-floor : goal.returns-clause-floor
returns-clause-floor c =
    let e : to_z w128 (of_z w128 c.rounded_down.result) ≡ floor_quotient c.args.a c.args.b =
    search rules in
    floor_is _ _ _ c.requires.positive e
