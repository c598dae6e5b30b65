use Rattle.std.proofs.Common.{subst}
use Rattle.report_text.specs.machine.Parts.{ReadsGoal}
use Rattle.report_text.proofs.BetweenLaws.{goal_no_dot, goal_other}
use Rattle.report_text.proofs.goal.dotted_goal.Goals as goal

pub returns-in-None : goal.returns-in-None
returns-in-None c =
    goal_other c.args.mode c.args.bytes.now c.in-Some.text.now c.in-Some.rest.now c.in-Some.ensures
    (subst (ReadsGoal c.args.mode c.in-Some.text.now) c.in-None.is c.in_ok-goal.ensures)

pub returns-in_default : goal.returns-in_default
returns-in_default c = goal_no_dot c.args.mode c.args.bytes.now c.in_default.ensures
