use Rattle.std.proofs.Common.{List, subst}
use Rattle.goal_sort.specs.declared.raw.RawGoal.{RawGoal}
use Rattle.goal_sort.specs.declared.raw.RawSession.{RawSession}
use Rattle.goal_serve.specs.declared.answers.Answer.{Answer}
use Rattle.session_serve.specs.Serving.{MeetGoals}
use Rattle.session_serve.proofs.PairingLaws.{next_taken}
use Rattle.session_serve.proofs.serve.serve_sessions.Goals as goal

pub loop-number-preserved : goal.loop-number-preserved
loop-number-preserved g c =
    let session = c.index-sessions-number.result in
    let answers = c.in_ok-serve_session.field-0 in
    next_taken (λ (s : RawSession) (made : List Answer). MeetGoals c.args.turns s.goals made) c.args.sessions.now c.loop-number.answers.items c.push.new.self.items c.loop-number.number session answers c.loop-number-test.true c.loop-number.invariant
    (subst (λ (goals : List RawGoal). MeetGoals c.args.turns goals answers) c.as_slice.ensures c.in_ok-serve_session.ensures) c.in_ok-push.ensures.items
