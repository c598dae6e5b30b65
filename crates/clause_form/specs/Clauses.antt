-- The clauses of a goal, and its points as theirs.
use Rattle.std.specs.Prelude.{◌≡◌, ℕ, ◌-◌, ◌^◌, ◌<◌, min, List, map, length, false, slice_index_or}
use Rattle.std.specs.List.{AllByRecursion}
use Rattle.cert_kit.specs.declared.row.PRow.{PRow}
use Rattle.cert_kit.specs.Row.{Solves, HasNoSolution}
use Rattle.zify.specs.declared.goal.ZGoal.{ZGoal}
use Rattle.zify.specs.Truth.{HoldsTranslated, z_truth_of}
use Rattle.goal_ast.specs.Truth.{Point}
use Rattle.clause_form.specs.declared.named.Named.{Named}
use Rattle.clause_form.specs.Alternatives.{alternatives_of}
use Rattle.cert_kit.specs.Variables.{variables_of, numbers_from}
use Rattle.clause_form.specs.Naming.{named_rows}

-- the clause of an alternative
abbrev pub named : List PRow → Named
named rows = record { clause = record { rows = named_rows (variables_of rows) rows }; vars = variables_of rows }

-- one for each alternative, in order; equal ones stay
abbrev pub clauses_of : ZGoal → List Named
clauses_of z = map named (alternatives_of z)

-- how many there are, 2^64 - 1 where there are more
abbrev pub number_of : ZGoal → ℕ
number_of z = min (length (clauses_of z)) (2 ^ 64 - 1)

-- a point of the goal seen by a clause's variables: each has the value of what it is in the goal
abbrev pub seen_by : List ℕ → Point → Point
seen_by vars x i = x (slice_index_or vars i 0)

-- the point, renumbered, solves the clause
abbrev pub SolvedBy : Point → Named → Type 0
SolvedBy x n = Solves (seen_by n.vars x) n.clause.rows

-- x gives each of these variables what y gives its number
abbrev pub GivesBack : List ℕ → Point → Point → Type 0
GivesBack vars y x = (i : ℕ) → i < length vars → x (slice_index_or vars i 0) ≡ y i

-- the variables of the clause are numbered from 0 on
abbrev pub IsNumbered : Named → Type 0
IsNumbered n = variables_of n.clause.rows ≡ numbers_from 0 (length n.vars)

-- the point satisfies the hypotheses and not the body
pub record Refutes (x : Point) (z : ZGoal) : Type 0 where
  pub hypotheses : AllByRecursion (HoldsTranslated x) z.hyps
  pub body : z_truth_of x z.body ≡ false

-- no clause has an integer solution
abbrev pub AllUnsolvable : List Named → Type 0
AllUnsolvable clauses = AllByRecursion (λ (n : Named). HasNoSolution n.clause.rows) clauses
