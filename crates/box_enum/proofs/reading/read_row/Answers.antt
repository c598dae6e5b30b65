use Rattle.std.proofs.Common.{◌≡◌, to_z, of_z, ◌∙◌, ap, arith}
use Rattle.std.proofs.lemmas.Int.{ints}
use Rattle.std.specs.Int.{w128}
use Rattle.std.specs.Ordering.{int_eq}
use Rattle.std.specs.Prelude.{pos, negsuc}
use Rattle.box_enum.specs.machine.Reading.{lower_as, upper_as}
use Rattle.box_enum.proofs.ReadingLaws.{some_is, bounds_as}
use Rattle.box_enum.proofs.reading.read_row.Goals as goal

pub returns : goal.returns
returns c =
    let same : to_z w128 (of_z w128 c.in_ok-variable.coeff) ≡ c.in_ok-variable.coeff = omega (arith, ints) in
    let whole : to_z w128 (of_z w128 c.constant_term-constant.result) ≡ c.constant_term-constant.result = omega (arith, ints, c.constant_term-constant.ensures.small) in
    let up = c.is_one-rising.ensures ∙ ap (λ d. int_eq d (pos 1)) same in
    let down = c.is_minus_one-falling.ensures ∙ ap (λ d. int_eq d (negsuc 0)) same in
    let constant = whole ∙ c.constant_term-constant.ensures.value in
    some_is c.args.row.now c.in_ok-variable.variable c.in_ok-variable.coeff c.is_one-rising.result c.lower_as.result c.upper_as.result c.in_ok-variable.ensures up
    (bounds_as lower_as _ _ _ _ c.args.row.now.op _ _ _ c.lower_as.ensures up down constant)
    (bounds_as upper_as _ _ _ _ c.args.row.now.op _ _ _ c.upper_as.ensures up down constant)
