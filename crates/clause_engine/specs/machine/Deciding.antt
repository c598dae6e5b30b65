-- What comes of a clause, all in one.
use Rattle.std.specs.Prelude.{◌≡◌, ℕ, ◌<◌, ◌≤◌, ℤ, List, length}
use Rattle.std.specs.List.{AllByRecursion}
use Rattle.mm_num.specs.Small.{IsSmall}
use Rattle.mm_poly.specs.Point.{point_of}
use Rattle.goal_ast.specs.declared.goal.Mode.{Mode}
use Rattle.cert_kit.specs.declared.row.PRow.{PRow}
use Rattle.cert_kit.specs.declared.cert.Cert.{Cert}
use Rattle.cert_kit.specs.Row.{Solves}
use Rattle.cert_kit.specs.Acceptance.{IsGood}
use Rattle.cert_kit.specs.Depth.{cert_depth, MakesCert}
use Rattle.cert_kit.specs.Variables.{variables_of}
use Rattle.clause_engine.specs.declared.outcome.Outcome.{Outcome}
use Rattle.clause_engine.specs.declared.outcome.Outcome.TheVariants as outcomes
use Rattle.clause_engine.specs.declared.outcome.Why.{Why}
use Rattle.clause_engine.specs.Settled.{IsSettled, HasPoint, clause_point, WhyOf, IsReason, IsPromised}

-- a good certificate for rows that have no point
pub record IsRefuted (mode : Mode) (turns : ℕ) (rows : List PRow) (c : Cert) : Type 0 where
  pub good : IsGood rows c
  pub makes : MakesCert c.steps c.close
  pub shallow : cert_depth c ≤ 4000
  pub pointless : HasPoint mode turns rows → ⊥

-- values that solve the rows, those of the point that is due where one is
pub record IsSolved (mode : Mode) (turns : ℕ) (rows : List PRow) (zs : List ℤ) (why : Why) : Type 0 where
  pub one_each : length zs ≡ length (variables_of rows)
  pub values : HasPoint mode turns rows → (v : ℕ) → v < length zs → point_of zs v ≡ clause_point mode turns rows v
  pub small : AllByRecursion IsSmall zs
  pub solves : Solves (point_of zs) rows
  pub reason : IsReason mode turns rows why

-- why the rows aren't settled
pub record IsLeft (mode : Mode) (turns : ℕ) (rows : List PRow) (why : Why) : Type 0 where
  pub unsettled : IsSettled mode turns rows → ⊥
  pub reason : WhyOf mode turns rows why

-- what the tests alone say
abbrev pub Tests : Mode → ℕ → List PRow → Outcome → Type 0
Tests mode turns rows (outcomes.Cert c) = IsRefuted mode turns rows c
Tests mode turns rows (outcomes.Point zs why) = IsSolved mode turns rows zs why
Tests mode turns rows (outcomes.Unsettled why) = IsLeft mode turns rows why

-- and what is said in the end, with the promise kept
abbrev pub Decides : Mode → ℕ → List PRow → Outcome → Type 0
Decides mode turns rows (outcomes.Cert c) = IsRefuted mode turns rows c
Decides mode turns rows (outcomes.Point zs why) = IsSolved mode turns rows zs why
Decides mode turns rows (outcomes.Unsettled why) = IsLeft mode turns rows why × (IsPromised turns rows → ⊥)
