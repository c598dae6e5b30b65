use Rattle.std.proofs.Common.{List, ◌++◌, get_or, sym, ap, subst, ◌∙◌, arith}
use Rattle.goal_sort.specs.declared.raw.RawSession.{RawSession}
use Rattle.goal_serve.specs.declared.answers.Answer.{Answer}
use Rattle.goal_serve.specs.Line.{lines_text}
use Rattle.session_serve.specs.Pairing.{OneEach}
use Rattle.session_serve.specs.Report.{IsReply, session_lines, sessions_lines}
use Rattle.session_serve.proofs.PairingLaws.{as_many, pair_is}
use Rattle.session_serve.proofs.ReportLaws.{session_out}
use Rattle.session_serve.proofs.report.push_sessions.Goals as goal

abbrev Replies : RawSession → List Answer → Type 0
Replies s answers = OneEach IsReply s.goals answers

pub bounds-answers-number : goal.bounds-answers-number
bounds-answers-number c = omega (arith, c.loop-number-test.true, as_many Replies c.args.sessions.now c.args.answers.now c.requires.replies)

pub push_session_whole-requires-clause-replies : goal.push_session_whole-requires-clause-replies
push_session_whole-requires-clause-replies c =
    subst (λ answers. OneEach IsReply c.index-sessions-number.result.goals answers) (sym c.as_slice.ensures)
    (pair_is Replies c.args.sessions.now c.args.answers.now c.loop-number.number c.index-sessions-number.result c.index-answers-number.result c.requires.replies c.loop-number-test.true c.index-sessions-number.is c.index-answers-number.is)

pub loop-number-preserved : goal.loop-number-preserved
loop-number-preserved c =
    let session = c.index-sessions-number.result in
    let answers = c.index-answers-number.result in
    let n = c.loop-number.number in
    let out = c.loop-number.out.items in
    session_out c.args.sessions.now c.args.answers.now n session answers out c.push_session_whole.new.out.items (c.args.out.now.items ++ lines_text (sessions_lines 0 c.args.sessions.now c.args.answers.now)) c.loop-number-test.true
    (omega (arith, c.loop-number-test.true, as_many Replies c.args.sessions.now c.args.answers.now c.requires.replies))
    (c.in_ok-push_session_whole.ensures ∙ ap (λ (a : List Answer). out ++ lines_text (session_lines n session a)) c.as_slice.ensures
    ∙ ap (λ (s : RawSession). out ++ lines_text (session_lines n s answers)) c.index-sessions-number.is
    ∙ ap (λ (a : List Answer). out ++ lines_text (session_lines n (get_or c.args.sessions.now n session) a)) c.index-answers-number.is)
    c.loop-number.invariant
