use Rattle.std.proofs.Common.{subst, List, ℕ, Bor, Option}
use Rattle.std.specs.Option.{option_map}
use Rattle.goal_ast.specs.declared.goal.Goal.{Goal}
use Rattle.report_text.specs.machine.Parts.{ReadsAsked}
use Rattle.report_text.proofs.BetweenLaws.{asked_no_number, asked_no_mode, asked_other, asked_found}
use Rattle.report_text.proofs.between.asked_line.Goals as goal

pub returns-in_default : goal.returns-in_default
returns-in_default c = asked_no_number c.args.number c.args.bytes.now c.in_default.ensures

pub returns-in_default-mode : goal.returns-in_default-mode
returns-in_default-mode c = asked_no_mode c.args.number c.args.bytes.now c.in-Some.rest.now c.in-Some.ensures c.in_default-mode.ensures

pub returns-in-None : goal.returns-in-None
returns-in-None c =
    asked_other c.args.number c.args.bytes.now c.in-Some.rest.now c.in-Some-mode.rest.now c.in-Some-mode.mode c.in-Some.ensures c.in-Some-mode.ensures
    (subst (λ o. ReadsAsked c.in-Some-mode.mode c.in-Some-mode.rest.now
    (option_map (λ (x : Option Goal × Bor (List ℕ)). (x.0, x.1.now)) o)) c.in-None.is c.in_ok-goal.ensures)

pub returns-in-Some-2 : goal.returns-in-Some-2
returns-in-Some-2 c =
    asked_found c.args.number c.args.bytes.now c.in-Some.rest.now c.in-Some-mode.rest.now c.in-Some-2.rest.now c.in-Some-mode.mode c.in-Some-2.goal c.in-Some.ensures c.in-Some-mode.ensures
    (subst (λ o. ReadsAsked c.in-Some-mode.mode c.in-Some-mode.rest.now
    (option_map (λ (x : Option Goal × Bor (List ℕ)). (x.0, x.1.now)) o)) c.in-Some-2.is c.in_ok-goal.ensures)
