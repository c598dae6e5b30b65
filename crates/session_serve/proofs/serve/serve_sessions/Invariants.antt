use Rattle.std.proofs.Common.{take}
use Rattle.session_serve.specs.Serving.{MeetSessions}
use Rattle.session_serve.proofs.serve.serve_sessions.Given as goal

-- the sessions so far have good answers
abbrev pub invariant-loop-number : goal.invariant-loop-number
invariant-loop-number g l = MeetSessions l.turns (take l.number l.sessions) l.answers.items
