-- Good answers to all goals of a file.
use Rattle.std.specs.Prelude.{ℕ, List, [], All}
use Rattle.goal_sort.specs.declared.raw.RawGoal.{RawGoal}
use Rattle.goal_sort.specs.declared.raw.RawSession.{RawSession}
use Rattle.goal_serve.specs.declared.answers.Answer.{Answer}
use Rattle.goal_serve.specs.declared.answers.Answer.TheVariants as answers
use Rattle.goal_serve.specs.Answering.{IsGoodAnswer}
use Rattle.session_serve.specs.Pairing.{OneEach}

-- a good answer to a goal, for which no cache was asked
abbrev pub IsServed : ℕ → RawGoal → Answer → Type 0
IsServed turns raw answer = IsGoodAnswer raw turns [] answer []

-- one for each goal
abbrev pub MeetGoals : ℕ → List RawGoal → List Answer → Type 0
MeetGoals turns = OneEach (IsServed turns)

-- and that for each session
abbrev pub MeetSessions : ℕ → List RawSession → List (List Answer) → Type 0
MeetSessions turns = OneEach (λ (s : RawSession) answers. MeetGoals turns s.goals answers)

-- ---- the verdict on a file

abbrev pub IsProved : Answer → Type 0
IsProved (answers.Proved shown) = Unit {0}
IsProved answer = ⊥

-- each goal of each session is proved
abbrev pub AreProved : List (List Answer) → Type 0
AreProved answers = All (All IsProved) answers
