-- The report that answers to the goals of a file make.
use Rattle.std.specs.Prelude.{List, [], ◌∷◌, map, Ok, Err}
use Rattle.goal_ast.specs.declared.goal.Goal.{Goal}
use Rattle.goal_ast.specs.declared.goal.Mode.{Mode}
use Rattle.goal_sort.specs.declared.raw.RawGoal.{RawGoal}
use Rattle.goal_sort.specs.declared.raw.RawSession.{RawSession}
use Rattle.goal_sort.specs.Sorting.{sorting}
use Rattle.goal_sort.specs.SortGiving.{Placed}
use Rattle.goal_serve.specs.declared.answers.Answer.{Answer}
use Rattle.goal_serve.specs.declared.answers.Answer.TheVariants as answers
use Rattle.goal_serve.specs.declared.answers.Shown.{Shown}
use Rattle.goal_serve.specs.KeyName.{key_name}
use Rattle.report_text.specs.Report.{Block, Reply, Proved, Refuted, Unsettled, Oversize, Entered, Sorted, Unsorted, SessionShown, Kept, Report}

abbrev pub block_of : Shown → Block
block_of s = record { name = key_name s.clause; origin = s.origin; rows = s.clause.rows; cert = s.cert }

abbrev pub entered_by : Goal → Answer → Entered
entered_by goal (answers.Proved shown) = Sorted goal (Proved (map block_of shown))
entered_by goal (answers.Refuted a) = Sorted goal (Refuted a.values)
entered_by goal (answers.Unsettled k why) = Sorted goal (Unsettled k why)
entered_by goal (answers.Oversize kind) = Sorted goal (Oversize kind)
entered_by goal (answers.IllSorted at) = Unsorted goal.mode at

abbrev pub entered_sorted : Placed Goal → Mode → Answer → Entered
entered_sorted (Ok goal) mode answer = entered_by goal answer
entered_sorted (Err at) mode answer = Unsorted mode at

-- a goal with its answer, or the place where it has no sorts
abbrev pub entered_of : RawGoal → Answer → Entered
entered_of raw answer = entered_sorted (sorting raw) raw.mode answer

abbrev pub goals_of : List RawGoal → List Answer → List Entered
goals_of [] answers = []
goals_of (raw ∷ raws) [] = []
goals_of (raw ∷ raws) (a ∷ answers) = entered_of raw a ∷ goals_of raws answers

abbrev pub sessions_of : List RawSession → List (List Answer) → List SessionShown
sessions_of [] answers = []
sessions_of (s ∷ sessions) [] = []
sessions_of (s ∷ sessions) (a ∷ answers) = record { name = s.name; goals = goals_of s.goals a } ∷ sessions_of sessions answers

abbrev pub nothing_kept : Kept
nothing_kept = record { opened = 0; saved = 0; history = [] }

-- the report on the sessions and their answers, where there is no cache
abbrev pub report_of : List RawSession → List (List Answer) → Report
report_of sessions answers = record { sessions = sessions_of sessions answers; lia = nothing_kept; nia = nothing_kept }
