-- The search for the cube's first assignment, from values chosen for the first variables on.
use Rattle.std.specs.Prelude.{◌≡◌, ℕ, ℤ, drop, map, List, ◌∷◌, ◌++◌, Bool, true, false, Some, None}
use Rattle.std.specs.List.{find, filter, flat_map}
use Rattle.goal_ast.specs.declared.goal.Bound.{Bound}
use Rattle.goal_ast.specs.declared.goal.Goal.{Goal}
use Rattle.goal_ast.specs.Range.{sorts_of}
use Rattle.goal_ast.specs.Fitting.{is_in_sort}
use Rattle.box_enum.specs.Cube.{cube_points, fails_at}

-- whether the goal is false at the chosen values and these after them
abbrev pub fails_after : Goal → List ℤ → List ℤ → Bool
fails_after goal chosen zs = fails_at goal (chosen ++ zs)

-- found: the first of these lists of values that makes the goal false stands behind the chosen ones; not found: there is
-- none, and nothing changed
abbrev pub IsFoundIn : Goal → List (List ℤ) → List ℤ → Bool → List ℤ → Type 0
IsFoundIn goal points chosen true after = (zs : List ℤ) × (find (fails_after goal chosen) points ≡ Some zs) × (after ≡ chosen ++ zs)
IsFoundIn goal points chosen false after = (find (fails_after goal chosen) points ≡ None) × (after ≡ chosen)

-- the values that the variables from this place on may have
abbrev pub points_from : ℕ → Goal → List (List ℤ)
points_from k goal = cube_points (sorts_of (drop k goal.vars))

-- the same where the first of them has one value, or one of these in its sort
abbrev pub points_with : ℤ → List (List ℤ) → List (List ℤ)
points_with z points = map (λ zs. z ∷ zs) points

abbrev pub points_with_one_of : Bound → List ℤ → List (List ℤ) → List (List ℤ)
points_with_one_of b values points = flat_map (λ z. points_with z points) (filter (is_in_sort b.sort) values)
