use Rattle.std.proofs.Common.{◌≡◌, ◌∙◌, ap, pos, negsuc, neg_ℤ, ◌-ℤ◌, to_z, of_z, arith, sym, subst}
use Rattle.std.proofs.lemmas.Int.{ints}
use Rattle.std.proofs.lemmas.Result.{IfOk-weaker}
use Rattle.std.specs.Int.{w128}
use Rattle.cut_branch.specs.machine.Scaling.{IsSplitAt, shifted}
use Rattle.cut_branch.proofs.SplitLaws.{splits_rising, splits_falling}
use Rattle.cut_branch.proofs.splitting.split.Goals as goal

pub returns-then-is_past_middle : goal.returns-then-is_past_middle
returns-then-is_past_middle c =
    let q = c.floor-below.result in
    let f = c.floor-below.ensures in
    let w : to_z w128 (of_z w128 c.floor-below.result) ≡ c.floor-below.result = omega (arith, ints) in
    let s = splits_rising c.args.variable c.args.value.now q f.fraction f.floor c.requires in
    IfOk-weaker c.rising.result _ _
    (λ p e. subst (IsSplitAt c.args.variable c.args.value.now) (sym (e ∙ ap (λ z. shifted (pos 1) c.args.variable (neg_ℤ z -ℤ pos 1)) w)) s)
    c.rising.ensures

pub returns-else-is_past_middle : goal.returns-else-is_past_middle
returns-else-is_past_middle c =
    let q = c.floor-below.result in
    let f = c.floor-below.ensures in
    let w : to_z w128 (of_z w128 c.floor-below.result) ≡ c.floor-below.result = omega (arith, ints) in
    let s = splits_falling c.args.variable c.args.value.now q f.fraction f.floor c.requires in
    IfOk-weaker c.falling.result _ _
    (λ p e. subst (IsSplitAt c.args.variable c.args.value.now) (sym (e ∙ ap (λ z. shifted (negsuc 0) c.args.variable z) w)) s)
    c.falling.ensures
