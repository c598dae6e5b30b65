use Rattle.std.proofs.Common.{◌∙◌, List, ℕ, sym, subst}
use Rattle.std.proofs.lemmas.Option.{IfSome_then}
use Rattle.std.proofs.lemmas.Result.{IfOk-weaker}
use Rattle.std.specs.List.Sorted.{IsStrictlySortedBy}
use Rattle.std.specs.Ordering.{nat_cmp}
use Rattle.cut_branch.specs.machine.Scaling.{IsScaled}
use Rattle.cut_branch.proofs.PlaceLaws.{variables_rise}
use Rattle.cut_branch.proofs.ScalingLaws.{length_over}
use Rattle.cut_branch.proofs.PickLaws.{given, row_cut_off}
use Rattle.cut_branch.proofs.picking.cut_off.Goals as goal

pub false_row-requires-clause-rising : goal.false_row-requires-clause-rising
false_row-requires-clause-rising c = subst (λ (vs : List ℕ). IsStrictlySortedBy nat_cmp vs) (sym c.requires.vars) (variables_rise c.args.rows.now)

pub false_row-requires-clause-each : goal.false_row-requires-clause-each
false_row-requires-clause-each c =
    let s = given (IsScaled c.args.point.now) c.in_ok-at.field-0 c.in-Some.at c.in_ok-at.ensures c.in-Some.is in
    length_over c.in-Some.at.den c.in-Some.at.nums.items c.args.point.now s.over ∙ c.requires.count

pub returns-clause-cut : goal.returns-clause-cut
returns-clause-cut c =
    let s = given (IsScaled c.args.point.now) c.in_ok-at.field-0 c.in-Some.at c.in_ok-at.ensures c.in-Some.is in
    IfOk-weaker c.false_row.result _ _
    (λ found e. IfSome_then found e (λ x h. row_cut_off c.args.rows.now c.args.vars.now c.args.point.now c.in-Some.at x c.requires.vars s h))
    c.false_row.ensures
