use Rattle.std.proofs.Common.{◌∙◌, subst, None, Some}
use Rattle.report_text.specs.machine.Parts.{ReadsFile}
use Rattle.report_text.proofs.PartLaws.{goal_found, other_goal, no_goal_file}
use Rattle.report_text.proofs.goal.goal.Goals as goal

pub returns-in_default : goal.returns-in_default
returns-in_default c =
    no_goal_file c.args.mode c.args.text.now
    (subst (λ b. ReadsFile b None) (c.deref.ensures.value ∙ c.in_ok-file.ensures) (subst (ReadsFile c.deref.result.now) c.in_default.is c.in_ok-goal.ensures))

pub returns-then-branch : goal.returns-then-branch
returns-then-branch c =
    goal_found c.args.mode c.args.text.now c.in-Some.goal
    (subst (λ b. ReadsFile b (Some c.in-Some.goal)) (c.deref.ensures.value ∙ c.in_ok-file.ensures)
    (subst (ReadsFile c.deref.result.now) c.in-Some.is c.in_ok-goal.ensures)) (c.in_ok-is_text.ensures.0 c.if-branch.true)

pub returns : goal.returns
returns c =
    other_goal c.args.mode c.args.text.now c.in-Some.goal
    (subst (λ b. ReadsFile b (Some c.in-Some.goal)) (c.deref.ensures.value ∙ c.in_ok-file.ensures)
    (subst (ReadsFile c.deref.result.now) c.in-Some.is c.in_ok-goal.ensures))
    (λ e. absurd (let t = c.in_ok-is_text.ensures.1 e in let f = c.if-branch.false in cc))
