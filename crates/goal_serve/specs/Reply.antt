-- What a report says of a goal.
use Rattle.std.specs.Prelude.{ℕ, ℤ, ◌+◌, List, [], ◌∷◌, ◌++◌, length, map}
use Rattle.goal_ast.specs.declared.goal.Bound.{Bound}
use Rattle.goal_ast.specs.declared.goal.Goal.{Goal}
use Rattle.goal_ast.specs.Range.{IsInRange}
use Rattle.goal_serve.specs.declared.answers.Answer.{Answer}
use Rattle.goal_serve.specs.declared.answers.Answer.TheVariants as answers
use Rattle.goal_serve.specs.declared.answers.Shown.{Shown}
use Rattle.goal_serve.specs.KeyName.{key_name}
use Rattle.goal_serve.specs.Line.{Line, Proved, Clause, Row, Certificate, Refuted, Value, Unsettled, Oversize, IllSorted}

-- a clause with its number: its rows and its certificate
abbrev pub clause_lines : ℕ → Shown → List Line
clause_lines n s = Clause n (key_name s.clause) s.origin ∷ (map Row s.clause.rows ++ Certificate s.cert ∷ [])

-- clauses, numbered from here on
abbrev pub shown_lines : ℕ → List Shown → List Line
shown_lines n [] = []
shown_lines n (s ∷ shown) = clause_lines n s ++ shown_lines (n + 1) shown

-- a line for each variable that has a value
abbrev pub value_lines : List Bound → List ℤ → List Line
value_lines [] values = []
value_lines (b ∷ vars) [] = []
value_lines (b ∷ vars) (z ∷ values) = Value b z ∷ value_lines vars values

-- the lines after the goal's own
abbrev pub reply_lines : Goal → Answer → List Line
reply_lines goal (answers.Proved shown) = Proved (length shown) ∷ shown_lines 0 shown
reply_lines goal (answers.Refuted a) = Refuted ∷ value_lines goal.vars a.values
reply_lines goal (answers.Unsettled n why) = Unsettled n why ∷ []
reply_lines goal (answers.Oversize kind) = Oversize kind ∷ []
reply_lines goal (answers.IllSorted at) = IllSorted at ∷ []

-- the goal has sorts, and an assignment gives each of its variables a value of its sort
abbrev pub IsPrintable : Goal → Answer → Type 0
IsPrintable goal (answers.Proved shown) = Unit {0}
IsPrintable goal (answers.Refuted a) = IsInRange goal a
IsPrintable goal (answers.Unsettled n why) = Unit {0}
IsPrintable goal (answers.Oversize kind) = Unit {0}
IsPrintable goal (answers.IllSorted at) = ⊥
