-- Goals whose divisors are small and not 0.
use Rattle.std.specs.Prelude.{ℤ, pos, Bool, true, not, ◌&&◌}
use Rattle.std.specs.Ordering.{int_eq}
use Rattle.goal_ast.specs.declared.term.Term.{Term}
use Rattle.goal_ast.specs.declared.term.Term.TheOpen.{Term-F}
use Rattle.goal_ast.specs.declared.term.Term.TheFolds.{fold-Term}
use Rattle.goal_ast.specs.declared.formula.BTerm.{BTerm}
use Rattle.goal_ast.specs.declared.formula.BTerm.TheOpen.{BTerm-F}
use Rattle.goal_ast.specs.declared.formula.BTerm.TheFolds.{fold-BTerm}
use Rattle.goal_ast.specs.declared.formula.Formula.{Formula}
use Rattle.goal_ast.specs.declared.formula.Formula.TheOpen.{Formula-F}
use Rattle.goal_ast.specs.declared.formula.Formula.TheFolds.{fold-Formula}
use Rattle.goal_ast.specs.Sorted.{is_small}

unfoldable pub divisor_fits : ℤ → Bool
divisor_fits k = is_small k && not (int_eq k (pos 0))

abbrev pub divisor_level : Term-F Bool → Bool
divisor_level (Term-F.Lit n) = true
divisor_level (Term-F.Var v) = true
divisor_level (Term-F.Neg a) = a
divisor_level (Term-F.Add a b) = a && b
divisor_level (Term-F.Sub s a b) = a && b
divisor_level (Term-F.Mul a b) = a && b
divisor_level (Term-F.Pow a k) = a
divisor_level (Term-F.Div a k) = a && divisor_fits k
divisor_level (Term-F.Rem a k) = a && divisor_fits k
divisor_level (Term-F.Call1 f a) = a
divisor_level (Term-F.Call2 f a b) = a && b

-- whether each divisor in a term is small and not 0
abbrev pub divisors_fit : Term → Bool
divisors_fit = fold-Term Bool divisor_level

abbrev pub bool_divisor_level : BTerm-F Bool → Bool
bool_divisor_level BTerm-F.True = true
bool_divisor_level BTerm-F.False = true
bool_divisor_level (BTerm-F.Var v) = true
bool_divisor_level (BTerm-F.Test c t u) = divisors_fit t && divisors_fit u
bool_divisor_level (BTerm-F.Not a) = a
bool_divisor_level (BTerm-F.And a b) = a && b
bool_divisor_level (BTerm-F.Or a b) = a && b
bool_divisor_level (BTerm-F.Call f a b) = a && b

abbrev pub bool_divisors_fit : BTerm → Bool
bool_divisors_fit = fold-BTerm Bool bool_divisor_level

abbrev pub formula_divisor_level : Formula-F Bool → Bool
formula_divisor_level Formula-F.True = true
formula_divisor_level Formula-F.False = true
formula_divisor_level (Formula-F.Atom c t u) = divisors_fit t && divisors_fit u
formula_divisor_level (Formula-F.Chain t c u d v) = divisors_fit t && (divisors_fit u && divisors_fit v)
formula_divisor_level (Formula-F.Same b c) = bool_divisors_fit b && bool_divisors_fit c
formula_divisor_level (Formula-F.Differ b c) = bool_divisors_fit b && bool_divisors_fit c
formula_divisor_level (Formula-F.Not f) = f
formula_divisor_level (Formula-F.And f g) = f && g
formula_divisor_level (Formula-F.Or f g) = f && g
formula_divisor_level (Formula-F.Imp f g) = f && g
formula_divisor_level (Formula-F.Iff f g) = f && g

abbrev pub formula_divisors_fit : Formula → Bool
formula_divisors_fit = fold-Formula Bool formula_divisor_level
