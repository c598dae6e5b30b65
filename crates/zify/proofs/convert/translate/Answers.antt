use Rattle.std.proofs.Common.{ap, ◌∙◌}
use Rattle.goal_ast.specs.Range.{sorts_of}
use Rattle.zify.specs.declared.form.ZForm.{ZForm}
use Rattle.zify.specs.Translation.{ranges_from}
use Rattle.zify.specs.machine.Table.{State}
use Rattle.std.specs.Prelude.{◌≡◌, List, []}
use Rattle.zify.proofs.WholeLaws.{begun, translated_whole}
use Rattle.zify.proofs.convert.translate.Goals as goal

pub returns : goal.returns
returns c =
    let begins : c.new-table.result ≡ begun c.args.goal.now = c.new-table.ensures
    ∙ ap (λ (fs : List ZForm). let s : State = record { shapes = []; operations = []; conditions = fs } in s) (c.in_ok-ranges.ensures ∙ ap (λ bs. ranges_from 0 (sorts_of bs)) c.as_slice.ensures) in
    translated_whole c.args.goal.now c.len-bound.result c.found-found.result.operations c.found-found.result.conditions c.in_ok-body.body c.new-table.result c.formula.new.table c.len-bound.ensures begins
    c.in_ok-body.ensures.table c.in_ok-body.ensures.form c.found-found.ensures.operations c.found-found.ensures.conditions
