use Rattle.std.proofs.Common.{take}
use Rattle.session_serve.specs.Serving.{MeetGoals}
use Rattle.session_serve.proofs.serve.serve_session.Given as goal

-- the goals so far have good answers
abbrev pub invariant-loop-number : goal.invariant-loop-number
invariant-loop-number g l = MeetGoals l.turns (take l.number l.goals) l.answers.items
