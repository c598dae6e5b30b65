use Rattle.std.proofs.Common.{subst, List, ℕ, Bor}
use Rattle.std.specs.Option.{option_map}
use Rattle.goal_ast.specs.declared.goal.Goal.{Goal}
use Rattle.report_text.specs.machine.Parts.{ReadsDotted}
use Rattle.report_text.proofs.BetweenLaws.{asked_no_goal}
use Rattle.report_text.proofs.goal.asked.Goals as goal

pub returns-in-None : goal.returns-in-None
returns-in-None c =
    asked_no_goal c.args.mode c.args.bytes.now c.in-Some-strip.rest.now c.in_default.ensures c.in-Some-strip.ensures
    (subst (λ o. ReadsDotted c.args.mode c.in-Some-strip.rest.now (option_map (λ (x : Goal × Bor (List ℕ)). (x.0, x.1.now)) o)) c.in-None.is c.in_ok-goal.ensures)
