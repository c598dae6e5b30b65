use Rattle.std.proofs.Common.{◌<◌, sym, subst, ◌<ℤ◌, arith}
use Rattle.std.proofs.lemmas.Int.{ints}
use Rattle.mm_num.specs.Small.{IsSmall}
use Rattle.mm_num.proofs.FracLaws.{wide}
use Rattle.mm_poly.specs.Poly.{content}
use Rattle.cut_branch.specs.Points.{weight_over}
use Rattle.cut_branch.proofs.CutOffLaws.{false_by}
use Rattle.cut_branch.proofs.own.false_cut.Goals as goal

pub returns-then-branch : goal.returns-then-branch
returns-then-branch c _ =
    let divisor = c.content-divisor.ensures.value in
    let constant = c.constant_term.ensures.value in
    let divisor_wide = wide c.content-divisor.result (subst IsSmall (sym divisor) c.content-divisor.ensures.small) in
    let constant_wide = wide c.constant_term.result (subst IsSmall (sym constant) c.constant_term.ensures.small) in
    let rest_wide = wide c.remainder-rest.result c.remainder-rest.ensures.small in
    let slack_wide = wide c.in_ok-slack.slack c.in_ok-slack.ensures.small in
    let limit_wide = wide c.in_ok-small_product.field-0 c.in_ok-small_product.ensures.small in
    let den_wide = wide c.args.at.now.den c.requires.small in
    let test = c.if-divisor-le1.false in
    let some : 0 < content c.args.row.now.poly = grind (arith, ints, test, divisor_wide, divisor) in
    let less : c.in_ok-slack.slack <ℤ c.in_ok-small_product.field-0 = (let f = c.if-branch.true in grind (arith, ints, f, slack_wide, limit_wide)) in
    false_by (weight_over c.args.vars.now c.args.at.now.den c.args.at.now.nums.items) c.args.row.now c.content-divisor.result c.constant_term.result
    c.remainder-rest.result c.in_ok-slack.slack c.in_ok-small_product.field-0 divisor some c.requires.positive constant
    (simp (constant_wide, divisor_wide) at c.remainder-rest.ensures.value)
    c.in_ok-slack.ensures.value (simp (rest_wide, den_wide) at c.in_ok-small_product.ensures.value) less
