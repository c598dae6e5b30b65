use Rattle.std.proofs.Common.{sym, ◌∙◌, subst}
use Rattle.report_text.specs.machine.Parts.{ReadsSessions}
use Rattle.report_text.proofs.BetweenLaws.{other_sessions, sorted_result}
use Rattle.report_text.proofs.goal.goal_of_file.Goals as goal

pub returns-in_default-only_goal : goal.returns-in_default-only_goal
returns-in_default-only_goal c =
    other_sessions c.args.bytes.now c.in-Some.sessions (subst (ReadsSessions c.args.bytes.now) c.in-Some.is c.in_ok-sessions.ensures)
    (λ raw e. c.in_default-only_goal.ensures raw (c.as_slice.ensures ∙ e))

pub returns : goal.returns
returns c =
    sorted_result c.args.bytes.now c.in-Some.sessions c.in-Some-only_goal.raw.now c.sorted.result
    (subst (ReadsSessions c.args.bytes.now) c.in-Some.is c.in_ok-sessions.ensures)
    (sym c.as_slice.ensures ∙ c.in-Some-only_goal.ensures) c.sorted.ensures
