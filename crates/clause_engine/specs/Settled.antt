-- Which clauses are settled, which have a point, and why a clause isn't settled.
use Rattle.std.specs.Prelude.{◌≡◌, ◌⊎◌, ℕ, ℤ, List, [], length, Some, if◌then◌else◌}
use Rattle.std.specs.Option.{unwrap_or}
use Rattle.goal_ast.specs.declared.goal.Mode.{Mode}
use Rattle.cert_kit.specs.declared.row.PRow.{PRow}
use Rattle.cert_kit.specs.Variables.{variables_of, numbers_from, point_over}
use Rattle.fm_elim.specs.Tidy.{Contra, Point, Grey, Over}
use Rattle.fm_elim.specs.Elimination.{elimination}
use Rattle.fm_elim.specs.Points.{IsTame, AreLinear, point_at}
use Rattle.box_enum.specs.Box.{is_boxed, IsBoxed, first_point}
use Rattle.relaxation.specs.Relaxing.{IsRefutable}
use Rattle.clause_engine.specs.declared.outcome.Why.{Why}
use Rattle.clause_engine.specs.declared.outcome.Why.TheVariants as whys

-- the variables are those from 0 on
abbrev pub IsNumbered : List PRow → Type 0
IsNumbered rows = variables_of rows ≡ numbers_from 0 (length (variables_of rows))

-- the rows are boxed within the turns, and this is the first point of the box that solves them
pub record HasBoxPoint (turns : ℕ) (rows : List PRow) : Type 0 where
  pub boxed : IsBoxed turns rows
  pub values : List ℤ
  pub first : first_point rows ≡ Some values

-- the rows are linear, and their elimination gives them a tame point
pub record HasTamePoint (rows : List PRow) : Type 0 where
  pub linear : AreLinear rows
  pub ends : elimination rows ≡ Point
  pub tame : IsTame rows

-- the elimination is a contradiction, the rows are boxed within the turns, or the elimination gives a tame point
abbrev pub IsSettled : Mode → ℕ → List PRow → Type 0
IsSettled mode turns rows = (elimination rows ≡ Contra) ⊎ (IsBoxed turns rows ⊎ HasTamePoint rows)

-- where the rows are boxed a point of the box solves them, and else the elimination gives a tame point
abbrev pub HasPoint : Mode → ℕ → List PRow → Type 0
HasPoint mode turns rows = HasBoxPoint turns rows ⊎ ((IsBoxed turns rows → ⊥) × HasTamePoint rows)

-- what the box's first point gives each variable, where there is one
abbrev pub box_point : List PRow → ℕ → ℤ
box_point rows = point_over (variables_of rows) (unwrap_or (first_point rows) [])

-- what the point gives each variable, where there is one
abbrev pub clause_point : Mode → ℕ → List PRow → ℕ → ℤ
clause_point mode turns rows v = if is_boxed turns rows then box_point rows v else point_at rows v

-- what the elimination says of a clause that isn't settled: over for its end Over and for a point that isn't tame, grey
-- for its end Grey and for a tame point
abbrev pub WhyOf : Mode → ℕ → List PRow → Why → Type 0
WhyOf mode turns rows whys.Over = (elimination rows ≡ Over) ⊎ ((elimination rows ≡ Point) × (IsTame rows → ⊥))
WhyOf mode turns rows whys.Grey = (elimination rows ≡ Grey) ⊎ ((elimination rows ≡ Point) × IsTame rows)

-- why the goal of a point that solves the clause may be unsettled: over for the point that is due, and where none is what
-- the elimination says
abbrev pub IsReason : Mode → ℕ → List PRow → Why → Type 0
IsReason mode turns rows why =
    (HasPoint mode turns rows × (why ≡ whys.Over)) ⊎ ((IsSettled mode turns rows → ⊥) × WhyOf mode turns rows why)

-- linear rows without rational solution, where a simplex tells so within the turns
pub record IsPromised (turns : ℕ) (rows : List PRow) : Type 0 where
  pub linear : AreLinear rows
  pub refutable : IsRefutable turns rows
