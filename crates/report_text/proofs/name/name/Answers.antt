use Rattle.std.proofs.Common.{sym, ◌∙◌, refl}
use Rattle.report_text.proofs.PartLaws.{name_found, other_name, no_name}
use Rattle.report_text.proofs.name.name.Goals as goal

pub returns-in_default : goal.returns-in_default
returns-in_default c = no_name c.args.text.now (sym c.in_default.is ∙ c.in_ok-name.ensures)

pub returns-then-same : goal.returns-then-same
returns-then-same c = name_found c.args.text.now c.in-Some.name (sym c.in-Some.is ∙ c.in_ok-name.ensures) (sym c.as_slice.ensures ∙ c.if-same.ensures.0 refl)

pub returns-else-same : goal.returns-else-same
returns-else-same c =
    other_name c.args.text.now c.in-Some.name (sym c.in-Some.is ∙ c.in_ok-name.ensures) (λ e. absurd (let t = c.if-same.ensures.1 (c.as_slice.ensures ∙ e) in cc))
