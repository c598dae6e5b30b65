use Rattle.std.proofs.Common.{◌++◌, get_or, ap, ◌∙◌, arith}
use Rattle.goal_sort.specs.declared.raw.RawGoal.{RawGoal}
use Rattle.goal_serve.specs.declared.answers.Answer.{Answer}
use Rattle.goal_serve.specs.Line.{lines_text}
use Rattle.session_serve.specs.Report.{IsReply, goal_lines, goals_lines}
use Rattle.session_serve.proofs.PairingLaws.{as_many, pair_is}
use Rattle.session_serve.proofs.ReportLaws.{goal_out}
use Rattle.session_serve.proofs.report.push_goals.Goals as goal

pub bounds-answers-number : goal.bounds-answers-number
bounds-answers-number c = omega (arith, c.loop-number-test.true, as_many IsReply c.args.goals.now c.args.answers.now c.requires.replies)

pub push_goal-requires-clause-reply : goal.push_goal-requires-clause-reply
push_goal-requires-clause-reply c =
    pair_is IsReply c.args.goals.now c.args.answers.now c.loop-number.number c.index-goals-number.result c.index-answers-number.result c.requires.replies c.loop-number-test.true c.index-goals-number.is c.index-answers-number.is

pub loop-number-preserved : goal.loop-number-preserved
loop-number-preserved c =
    let raw = c.index-goals-number.result in
    let answer = c.index-answers-number.result in
    let n = c.loop-number.number in
    let out = c.loop-number.out.items in
    goal_out c.args.goals.now c.args.answers.now n raw answer out c.push_goal.new.out.items (c.args.out.now.items ++ lines_text (goals_lines 0 c.args.goals.now c.args.answers.now)) c.loop-number-test.true
    (omega (arith, c.loop-number-test.true, as_many IsReply c.args.goals.now c.args.answers.now c.requires.replies))
    (c.in_ok-push_goal.ensures ∙ ap (λ (r : RawGoal). out ++ lines_text (goal_lines n r answer)) c.index-goals-number.is
    ∙ ap (λ (a : Answer). out ++ lines_text (goal_lines n (get_or c.args.goals.now n raw) a)) c.index-answers-number.is)
    c.loop-number.invariant
