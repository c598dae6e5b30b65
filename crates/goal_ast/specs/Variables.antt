-- Which variables a goal's body names.
use Rattle.std.specs.Prelude.{◌≡◌, ℕ, ◌<◌, nat_lt, Bool, true, ◌&&◌}
use Rattle.goal_ast.specs.declared.term.Term.{Term}
use Rattle.goal_ast.specs.declared.term.Term.TheOpen.{Term-F}
use Rattle.goal_ast.specs.declared.term.Term.TheFolds.{fold-Term}
use Rattle.goal_ast.specs.declared.formula.BTerm.{BTerm}
use Rattle.goal_ast.specs.declared.formula.BTerm.TheOpen.{BTerm-F}
use Rattle.goal_ast.specs.declared.formula.BTerm.TheFolds.{fold-BTerm}
use Rattle.goal_ast.specs.declared.formula.Formula.{Formula}
use Rattle.goal_ast.specs.declared.formula.Formula.TheOpen.{Formula-F}
use Rattle.goal_ast.specs.declared.formula.Formula.TheFolds.{fold-Formula}
use Rattle.goal_ast.specs.Truth.{Point}

-- two points that give equal values to the variables numbered below n
abbrev pub SameBelow : ℕ → Point → Point → Type 0
SameBelow n x y = (v : ℕ) → v < n → x v ≡ y v

abbrev pub variable_level : ℕ → Term-F Bool → Bool
variable_level n (Term-F.Lit k) = true
variable_level n (Term-F.Var v) = nat_lt v n
variable_level n (Term-F.Neg a) = a
variable_level n (Term-F.Add a b) = a && b
variable_level n (Term-F.Sub s a b) = a && b
variable_level n (Term-F.Mul a b) = a && b
variable_level n (Term-F.Pow a k) = a
variable_level n (Term-F.Div a k) = a
variable_level n (Term-F.Rem a k) = a
variable_level n (Term-F.Call1 f a) = a
variable_level n (Term-F.Call2 f a b) = a && b

-- whether the variables of a term are numbered below n
abbrev pub names_below : ℕ → Term → Bool
names_below n = fold-Term Bool (variable_level n)

abbrev pub bool_variable_level : ℕ → BTerm-F Bool → Bool
bool_variable_level n BTerm-F.True = true
bool_variable_level n BTerm-F.False = true
bool_variable_level n (BTerm-F.Var v) = nat_lt v n
bool_variable_level n (BTerm-F.Test c t u) = names_below n t && names_below n u
bool_variable_level n (BTerm-F.Not a) = a
bool_variable_level n (BTerm-F.And a b) = a && b
bool_variable_level n (BTerm-F.Or a b) = a && b
bool_variable_level n (BTerm-F.Call f a b) = a && b

abbrev pub bool_names_below : ℕ → BTerm → Bool
bool_names_below n = fold-BTerm Bool (bool_variable_level n)

abbrev pub formula_variable_level : ℕ → Formula-F Bool → Bool
formula_variable_level n Formula-F.True = true
formula_variable_level n Formula-F.False = true
formula_variable_level n (Formula-F.Atom c t u) = names_below n t && names_below n u
formula_variable_level n (Formula-F.Chain t c u d v) = names_below n t && (names_below n u && names_below n v)
formula_variable_level n (Formula-F.Same b c) = bool_names_below n b && bool_names_below n c
formula_variable_level n (Formula-F.Differ b c) = bool_names_below n b && bool_names_below n c
formula_variable_level n (Formula-F.Not f) = f
formula_variable_level n (Formula-F.And f g) = f && g
formula_variable_level n (Formula-F.Or f g) = f && g
formula_variable_level n (Formula-F.Imp f g) = f && g
formula_variable_level n (Formula-F.Iff f g) = f && g

-- whether the variables of a formula are numbered below n
abbrev pub formula_names_below : ℕ → Formula → Bool
formula_names_below n = fold-Formula Bool (formula_variable_level n)
