-- A printed goal is read again.
use Rattle.std.specs.Prelude.{ℕ, List, [], ◌∷◌, ◌++◌, codes}
use Rattle.goal_ast.specs.declared.goal.Mode.{Mode}
use Rattle.goal_ast.specs.declared.goal.Mode.TheVariants.{Lia, Nia}
use Rattle.goal_ast.specs.declared.goal.Goal.{Goal}
use Rattle.goal_token.specs.Tokens.{tokens_of}
use Rattle.goal_sort.specs.declared.raw.RawGoal.{RawGoal}
use Rattle.goal_sort.specs.declared.raw.RawSession.{RawSession}
use Rattle.goal_sort.specs.IsSorted.{IsSorted}
use Rattle.goal_text.specs.Files.{Reads}
use Rattle.goal_text.specs.Refusals.{IsWithin}
use Rattle.goal_print.specs.Text.{goal_text}

abbrev pub mode_text : Mode → List ℕ
mode_text Lia = codes "lia"
mode_text Nia = codes "nia"

-- a file with this goal alone
abbrev pub file_text : Goal → List ℕ
file_text goal = codes "Session a. Goal " ++ (goal_text goal ++ (codes ". " ++ (mode_text goal.mode ++ codes ".")))

-- the session of such a file
abbrev pub alone : RawGoal → List RawSession
alone raw = record { name = record { bytes = codes "a" }; goals = raw ∷ [] } ∷ []

-- the file of a goal is within the limits, and it has one goal, which is sorted as that goal
pub record ReadsBack (goal : Goal) : Type 0 where
  pub raw : RawGoal
  pub reads : Reads (file_text goal) (alone raw)
  pub within : IsWithin (tokens_of (file_text goal))
  pub sorted : IsSorted raw goal
