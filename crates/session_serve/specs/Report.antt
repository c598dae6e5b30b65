-- The report on the sessions of a goal file.
use Rattle.std.specs.Prelude.{◌≡◌, ℕ, ◌+◌, List, [], ◌∷◌, ◌++◌, Some, None, Ok, Err}
use Rattle.goal_ast.specs.declared.goal.Mode.{Mode}
use Rattle.goal_ast.specs.declared.goal.Mode.TheVariants.{Lia, Nia}
use Rattle.goal_sort.specs.declared.raw.RawGoal.{RawGoal}
use Rattle.goal_sort.specs.declared.raw.RawSession.{RawSession}
use Rattle.goal_sort.specs.Sorting.{sorting}
use Rattle.goal_serve.specs.declared.answers.Answer.{Answer}
use Rattle.goal_serve.specs.declared.answers.Answer.TheVariants as answers
use Rattle.goal_serve.specs.Line.{Line, Begin, Session, Asked, IllSorted, Cache, End, lines_text}
use Rattle.goal_serve.specs.Reply.{reply_lines, IsPrintable}
use Rattle.session_serve.specs.Pairing.{OneEach}

-- what a report says of a cache: how many entries it was opened with, how many were stored and how many are saved, and
-- the lines of its history
pub record CacheShown : Type 0 where
  pub opened : ℕ
  pub stored : ℕ
  pub saved : ℕ
  pub history : List Line

-- a cache that isn't there
abbrev pub no_cache : CacheShown
no_cache = record { opened = 0; stored = 0; saved = 0; history = [] }

abbrev pub cache_lines : Mode → CacheShown → List Line
cache_lines mode c = Cache mode c.opened c.stored c.saved ∷ c.history

-- a goal with its number: its text and what is said of it, or the place where its sorts don't fit
abbrev pub goal_lines : ℕ → RawGoal → Answer → List Line
goal_lines n raw answer = elim (sorting raw) [ Ok goal ↦ Asked n goal.mode (Some goal) ∷ reply_lines goal answer | Err at ↦ Asked n raw.mode None ∷ IllSorted at ∷ [] ]

-- goals, numbered from here on
abbrev pub goals_lines : ℕ → List RawGoal → List Answer → List Line
goals_lines n [] answers = []
goals_lines n (raw ∷ raws) [] = []
goals_lines n (raw ∷ raws) (a ∷ answers) = goal_lines n raw a ++ goals_lines (n + 1) raws answers

abbrev pub session_lines : ℕ → RawSession → List Answer → List Line
session_lines n session answers = Session n session.name ∷ goals_lines 0 session.goals answers

-- sessions, numbered from here on
abbrev pub sessions_lines : ℕ → List RawSession → List (List Answer) → List Line
sessions_lines n [] answers = []
sessions_lines n (s ∷ sessions) [] = []
sessions_lines n (s ∷ sessions) (a ∷ answers) = session_lines n s a ++ sessions_lines (n + 1) sessions answers

abbrev pub report_lines : List RawSession → List (List Answer) → CacheShown → CacheShown → List Line
report_lines sessions answers lia nia = Begin ∷ (sessions_lines 0 sessions answers ++ (cache_lines Lia lia ++ (cache_lines Nia nia ++ End ∷ [])))

-- the report
abbrev pub report_text : List RawSession → List (List Answer) → CacheShown → CacheShown → List ℕ
report_text sessions answers lia nia = lines_text (report_lines sessions answers lia nia)

-- ---- what can be reported

-- `IllSorted` stands exactly where the goal has no sorts, with the place; a refuted assignment is in range
abbrev pub IsReply : RawGoal → Answer → Type 0
IsReply raw answer = elim (sorting raw) as (λ _. Type 0) [ Ok goal ↦ IsPrintable goal answer | Err at ↦ answer ≡ answers.IllSorted at ]

-- one such answer for each goal of each session
abbrev pub AreReplies : List RawSession → List (List Answer) → Type 0
AreReplies = OneEach (λ (s : RawSession) answers. OneEach IsReply s.goals answers)
