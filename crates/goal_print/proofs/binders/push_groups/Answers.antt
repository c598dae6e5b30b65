use Rattle.std.proofs.Common.{◌≡◌, ◌++◌, List, ℕ, OnOk, sym, ◌∙◌, ap, subst}
use Rattle.goal_print.specs.Binders.{opening, following}
use Rattle.goal_print.proofs.PartLaws.{three}
use Rattle.goal_print.proofs.BinderLaws.{groups_read}
use Rattle.goal_print.proofs.binders.push_groups.Goals as goal

pub returns : goal.returns
returns c =
    let several = c.has_other-several.result in
    let first = c.args.first.now in
    let vars = c.args.vars.now in
    let before = c.args.out.now.items in
    let after = c.push_following.new.out.items in
    subst (λ (x : List ℕ). OnOk c.push_following.result (after ≡ before ++ x)) (sym (groups_read several first vars c.has_other-several.ensures))
    (three c.push_following.result before c.open.new.out.items c.push.new.out.items after (opening several) first.name.bytes (following several first.sort vars)
    c.in_ok-open.ensures (c.in_ok-push.ensures ∙ ap (λ x. c.open.new.out.items ++ x) c.as_slice.ensures) c.push_following.ensures)
