-- Which numbers a sort has, which assignments suit a goal, and when a goal is valid.
use Rattle.std.specs.Prelude.{◌≡◌, ℕ, ℤ, pos, ◌≤ℤ◌, List, length, map, Some, slice_get, slice_index_or}
use Rattle.std.specs.List.{AllByRecursion}
use Rattle.mm_num.specs.Small.{IsSmall}
use Rattle.goal_ast.specs.declared.term.Sort.{Sort}
use Rattle.goal_ast.specs.declared.term.Sort.TheVariants as sorts
use Rattle.goal_ast.specs.declared.goal.Bound.{Bound}
use Rattle.goal_ast.specs.declared.goal.Goal.{Goal}
use Rattle.goal_ast.specs.declared.goal.Assignment.{Assignment}
use Rattle.goal_ast.specs.Truth.{Point, Holds}

-- the numbers of a sort; false is 0 and true is 1
abbrev pub IsInSort : Sort → ℤ → Type 0
IsInSort sorts.Int z = Unit {0}
IsInSort sorts.Bin z = pos 0 ≤ℤ z
IsInSort sorts.Nat z = pos 0 ≤ℤ z
IsInSort sorts.Pos z = pos 1 ≤ℤ z
IsInSort sorts.Bool z = (pos 0 ≤ℤ z) × (z ≤ℤ pos 1)

-- the sorts of the variables, in their order
abbrev pub sorts_of : List Bound → List Sort
sorts_of vars = map (λ (b : Bound). b.sort) vars

-- each variable has a number of its sort
abbrev pub SuitsSorts : Point → List Sort → Type 0
SuitsSorts x sorts = (v : ℕ) (s : Sort) → slice_get sorts v ≡ Some s → IsInSort s (x v)

-- the value at each place, and 0 past the end
abbrev pub point_of : List ℤ → Point
point_of values v = slice_index_or values v (pos 0)

-- one value for each variable, small and of its sort
pub record IsInRange (goal : Goal) (a : Assignment) : Type 0 where
  pub one_each : length a.values ≡ length goal.vars
  pub small : AllByRecursion IsSmall a.values
  pub suits : SuitsSorts (point_of a.values) (sorts_of goal.vars)

-- the body holds at every point that gives each variable an integer of its sort
abbrev pub IsValid : Goal → Type 0
IsValid goal = (x : Point) → SuitsSorts x (sorts_of goal.vars) → Holds x goal.body
