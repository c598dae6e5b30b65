-- What each goal of a file within the limits is.
use Rattle.std.specs.Prelude.{ℕ, ◌≤◌, List, length, sum_by}
use Rattle.std.specs.List.{AllByRecursion}
use Rattle.goal_token.specs.declared.token.Placed.{Placed}
use Rattle.goal_token.specs.Spacing.{IsName}
use Rattle.goal_sort.specs.declared.raw.RawBound.{RawBound}
use Rattle.goal_sort.specs.declared.raw.RawGoal.{RawGoal}
use Rattle.goal_sort.specs.declared.raw.RawSession.{RawSession}
use Rattle.goal_sort.specs.Sorting.{IsReadable}
use Rattle.goal_text.specs.Grammar.{Expr}

-- it can be sorted, its bound names are names, and its body has at most 2,048 tokens
pub record IsGoalOfFile (raw : RawGoal) : Type 0 where
  pub readable : IsReadable raw
  pub named : AllByRecursion (λ (b : RawBound). IsName b.name.bytes) raw.bound
  pub tokens : List Placed
  pub spelled : Expr 100 raw.body tokens
  pub short : length tokens ≤ 2048

abbrev pub AreGoalsOfFile : List RawSession → Type 0
AreGoalsOfFile ss = AllByRecursion (λ (s : RawSession). AllByRecursion IsGoalOfFile s.goals) ss

-- each goal of each session can be sorted
abbrev pub AreReadable : List RawSession → Type 0
AreReadable ss = AllByRecursion (λ (s : RawSession). AllByRecursion IsReadable s.goals) ss

-- how many goals the sessions have
abbrev pub goals_in : List RawSession → ℕ
goals_in ss = sum_by (λ (s : RawSession). length s.goals) ss

-- there are at most 64 sessions and 1,024 goals, and each session's name is a name
pub record AreWithin (ss : List RawSession) : Type 0 where
  pub sessions : length ss ≤ 64
  pub goals : goals_in ss ≤ 1024
  pub named : AllByRecursion (λ (s : RawSession). IsName s.name.bytes) ss
