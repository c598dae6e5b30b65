-- The test whether an assignment suits a goal.
use Rattle.std.specs.Prelude.{ℤ, pos, int_le, List, [], ◌∷◌, Bool, true, ◌&&◌}
use Rattle.goal_ast.specs.declared.term.Sort.{Sort}
use Rattle.goal_ast.specs.declared.term.Sort.TheVariants as sorts
use Rattle.goal_ast.specs.declared.goal.Bound.{Bound}
use Rattle.goal_ast.specs.Sorted.{is_small}

-- whether a sort has a number
abbrev pub is_in_sort : Sort → ℤ → Bool
is_in_sort sorts.Int z = true
is_in_sort sorts.Bin z = int_le (pos 0) z
is_in_sort sorts.Nat z = int_le (pos 0) z
is_in_sort sorts.Pos z = int_le (pos 1) z
is_in_sort sorts.Bool z = int_le (pos 0) z && int_le z (pos 1)

-- whether a number is small and of the variable's sort
abbrev pub fits_bound : Bound → ℤ → Bool
fits_bound b z = is_small z && is_in_sort b.sort z

-- whether each value is small and of its variable's sort, as far as there are both
abbrev pub all_fit : List Bound → List ℤ → Bool
all_fit [] values = true
all_fit (b ∷ vars) [] = true
all_fit (b ∷ vars) (z ∷ values) = fits_bound b z && all_fit vars values
