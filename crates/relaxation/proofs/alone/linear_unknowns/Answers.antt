use Rattle.std.proofs.Common.{◌≡◌, sym, ◌∙◌, ap, map}
use Rattle.std.proofs.lemmas.Result.{IfOk-weaker}
use Rattle.relaxation.proofs.LinearLaws.{single, rows_unknowns}
use Rattle.relaxation.proofs.alone.linear_unknowns.Goals as goal

pub returns : goal.returns
returns c = IfOk-weaker c.each_alone.result _ _
    (λ us e. e ∙ ap (map single) (c.deref.ensures.value ∙ c.in_ok-vars.ensures) ∙ sym (rows_unknowns c.args.rows.now c.are_rows.ensures c.requires)) c.each_alone.ensures
