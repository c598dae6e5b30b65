-- The cube: the assignments of few variables with values from -2 to 2.
use Rattle.std.specs.Prelude.{ℤ, pos, negsuc, List, [], ◌∷◌, map, length, Bool, true, false, nat_le, Option, None, if◌then◌else◌}
use Rattle.std.specs.Option.{option_map}
use Rattle.std.specs.List.{flat_map, find, filter}
use Rattle.goal_ast.specs.declared.term.Sort.{Sort}
use Rattle.goal_ast.specs.declared.goal.Goal.{Goal}
use Rattle.goal_ast.specs.declared.goal.Assignment.{Assignment}
use Rattle.goal_ast.specs.declared.types.Eval.{Eval}
use Rattle.goal_ast.specs.declared.types.Eval.TheVariants as evals
use Rattle.goal_ast.specs.Range.{sorts_of, point_of}
use Rattle.goal_ast.specs.Fitting.{is_in_sort}
use Rattle.goal_ast.specs.Evaluation.{eval_of}

-- the values that are tried for a sort, in their order
abbrev pub cube_values : Sort → List ℤ
cube_values s = filter (is_in_sort s) (pos 0 ∷ pos 1 ∷ negsuc 0 ∷ pos 2 ∷ negsuc 1 ∷ [])

-- the last variable's value changes fastest
abbrev pub cube_points : List Sort → List (List ℤ)
cube_points [] = [] ∷ []
cube_points (s ∷ sorts) = flat_map (λ z. map (λ zs. z ∷ zs) (cube_points sorts)) (cube_values s)

abbrev pub is_eval_false : Eval → Bool
is_eval_false evals.True = false
is_eval_false evals.False = true
is_eval_false evals.Big = false

-- whether the goal's body evaluates to false where its variables have these values
abbrev pub fails_at : Goal → List ℤ → Bool
fails_at goal zs = is_eval_false (eval_of (point_of zs) goal.body)

-- the first assignment of the cube at which a goal of at most 6 variables is false
abbrev pub cube_of : Goal → Option Assignment
cube_of goal = if nat_le (length goal.vars) 6 then option_map (λ zs. record { values = zs }) (find (fails_at goal) (cube_points (sorts_of goal.vars))) else None
