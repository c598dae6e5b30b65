use Rattle.std.proofs.Common.{◌≡◌, ◌++◌, ℤ, OnOk, ◌∙◌, ap, subst, to_z-of_z}
use Rattle.std.specs.Fmt.{signed_decimal}
use Rattle.goal_print.specs.Parts.{number}
use Rattle.goal_print.proofs.PartLaws.{bare, in_parentheses}
use Rattle.goal_print.proofs.pieces.push_number.Goals as goal

pub returns-then-number_level-highest : goal.returns-then-number_level-highest
returns-then-number_level-highest c =
    let same = to_z-of_z c.ranges.z in
    bare c.push_digits.result c.args.out.now.items c.push_digits.new.out.items c.args.highest c.number_level.result (number c.args.z)
    (c.number_level.ensures ∙ ap (λ (z : ℤ). (number z).level) same) c.if-number_level-highest.true
    (subst (λ (z : ℤ). OnOk c.push_digits.result (c.push_digits.new.out.items ≡ c.args.out.now.items ++ signed_decimal z)) same c.push_digits.ensures)

pub returns-in_ok-push_digits : goal.returns-in_ok-push_digits
returns-in_ok-push_digits c =
    let same = to_z-of_z c.ranges.z in
    in_parentheses c.push-else-number_level-highest.result c.args.out.now.items c.push.new.out.items c.push_digits-else-number_level-highest.new.out.items
    c.push-else-number_level-highest.new.out.items c.args.highest c.number_level.result (number c.args.z)
    (c.number_level.ensures ∙ ap (λ (z : ℤ). (number z).level) same) c.if-number_level-highest.false c.in_ok-push.ensures
    (c.in_ok-push_digits.ensures ∙ ap (λ (z : ℤ). c.push.new.out.items ++ signed_decimal z) same) c.push-else-number_level-highest.ensures
