use Rattle.std.proofs.Common.{subst, sym, ap, ◌∙◌, Some}
use Rattle.std.proofs.lemmas.Option.{slice_get-get_or}
use Rattle.report_text.specs.Progress.{reading_of, FindsNext}
use Rattle.report_text.proofs.NextLaws.{value_next, gives_values}
use Rattle.report_text.proofs.next.value_next.Goals as goal

pub returns-then-number-vars : goal.returns-then-number-vars
returns-then-number-vars c =
    subst (FindsNext (reading_of c.args.vars.now c.args.progress) c.args.vars.now c.args.bytes.now) (sym c.valued.ensures)
    (value_next c.args.vars.now c.args.progress c.args.bytes.now c.args.number c.index-vars-number.result c.requires.due
    (slice_get-get_or c.args.vars.now c.args.number c.index-vars-number.result c.if-number-vars.true ∙ ap (λ b. Some b) (sym c.index-vars-number.is)))

pub returns-else-number-vars : goal.returns-else-number-vars
returns-else-number-vars c =
    gives_values c.args.vars.now c.args.progress c.args.bytes.now c.args.number c.between.result c.requires.due c.if-number-vars.false c.between.ensures
