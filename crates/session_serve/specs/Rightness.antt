-- What the answers say of the goals.
use Rattle.std.specs.Prelude.{List}
use Rattle.std.specs.List.{AllByRecursion}
use Rattle.goal_ast.specs.declared.goal.Goal.{Goal}
use Rattle.goal_ast.specs.declared.goal.Assignment.{Assignment}
use Rattle.goal_ast.specs.Range.{IsValid}
use Rattle.goal_sort.specs.declared.raw.RawGoal.{RawGoal}
use Rattle.goal_sort.specs.declared.raw.RawSession.{RawSession}
use Rattle.goal_sort.specs.IsSorted.{IsSorted}
use Rattle.goal_serve.specs.declared.answers.Answer.{Answer}
use Rattle.goal_serve.specs.declared.answers.Answer.TheVariants as answers
use Rattle.goal_serve.specs.Answering.{Refutes}
use Rattle.session_serve.specs.Pairing.{OneEach}

-- a goal as it was read has sorts, and holds for all values
abbrev pub IsValidRaw : RawGoal → Type 0
IsValidRaw raw = (goal : Goal) × IsSorted raw goal × IsValid goal

-- a goal as it was read has sorts, and is false at the assignment, which is in range
abbrev pub IsFalseAt : RawGoal → Assignment → Type 0
IsFalseAt raw a = (goal : Goal) × IsSorted raw goal × Refutes goal a

-- a proved goal holds for all values, a refuted one is false at its assignment
abbrev pub IsRight : RawGoal → Answer → Type 0
IsRight raw (answers.Proved shown) = IsValidRaw raw
IsRight raw (answers.Refuted a) = IsFalseAt raw a
IsRight raw answer = Unit {0}

abbrev pub AreRight : List RawSession → List (List Answer) → Type 0
AreRight = OneEach (λ (s : RawSession) answers. OneEach IsRight s.goals answers)

-- each goal of each session holds for all values
abbrev pub AreValid : List RawSession → Type 0
AreValid = AllByRecursion (λ (s : RawSession). AllByRecursion IsValidRaw s.goals)
