use Rattle.std.proofs.Common.{subst}
use Rattle.goal_sort.specs.declared.raw.RawGoal.{RawGoal}
use Rattle.session_serve.specs.Serving.{IsServed}
use Rattle.session_serve.proofs.PairingLaws.{next_taken}
use Rattle.session_serve.proofs.serve.serve_session.Goals as goal

pub loop-number-preserved : goal.loop-number-preserved
loop-number-preserved g c =
    let raw = c.index-goals-number.result in
    let answer = c.in_ok-serve_goal.field-0 in
    next_taken (IsServed c.args.turns) c.args.goals.now c.loop-number.answers.items c.push.new.self.items c.loop-number.number raw answer c.loop-number-test.true c.loop-number.invariant
    (subst (λ (r : RawGoal). IsServed c.args.turns r answer) c.index-goals-number.is c.in_ok-serve_goal.ensures) c.in_ok-push.ensures.items
