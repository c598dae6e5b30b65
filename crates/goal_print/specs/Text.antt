-- The text of a goal and of an assignment.
use Rattle.std.specs.Prelude.{ℕ, ℤ, pos, int_le, List, [], ◌∷◌, ◌++◌, map, slice_get, if◌then◌else◌, codes}
use Rattle.std.specs.List.{join_with_byte}
use Rattle.std.specs.Fmt.{signed_decimal}
use Rattle.std.specs.Option.{option_map_or}
use Rattle.goal_ast.specs.declared.term.Sort.{Sort}
use Rattle.goal_ast.specs.declared.term.Sort.TheVariants as sorts
use Rattle.goal_ast.specs.declared.term.Term.{Term}
use Rattle.goal_ast.specs.declared.term.Term.TheOpen.{Term-F}
use Rattle.goal_ast.specs.declared.term.Term.TheFolds.{fold-Term}
use Rattle.goal_ast.specs.declared.formula.BTerm.{BTerm}
use Rattle.goal_ast.specs.declared.formula.BTerm.TheOpen.{BTerm-F}
use Rattle.goal_ast.specs.declared.formula.BTerm.TheFolds.{fold-BTerm}
use Rattle.goal_ast.specs.declared.formula.Formula.{Formula}
use Rattle.goal_ast.specs.declared.formula.Formula.TheOpen.{Formula-F}
use Rattle.goal_ast.specs.declared.formula.Formula.TheFolds.{fold-Formula}
use Rattle.goal_ast.specs.declared.goal.Bound.{Bound}
use Rattle.goal_ast.specs.declared.goal.Goal.{Goal}
use Rattle.goal_ast.specs.declared.goal.Assignment.{Assignment}
use Rattle.goal_ast.specs.Sorted.{is_sort}
use Rattle.goal_token.specs.declared.token.Function.TheVariants as functions
use Rattle.goal_token.specs.declared.token.Sign.TheVariants as signs
use Rattle.goal_token.specs.Spelling.{sort_text, cmp_sign, test_sign}
use Rattle.goal_print.specs.Parts.{Part, grouped, leaf, number, prefixed, joined, chained, applied, applied_to_two}

-- the name of the variable of this number, and no text where there is none
abbrev pub name_of : List Bound → ℕ → List ℕ
name_of vars v = option_map_or (λ (b : Bound). b.name.bytes) (slice_get vars v) []

-- what a node makes of its parts
abbrev pub term_level : List Bound → Term-F Part → Part
term_level vars (Term-F.Lit n) = number n
term_level vars (Term-F.Var v) = leaf (name_of vars v)
term_level vars (Term-F.Neg a) = prefixed signs.Minus a
term_level vars (Term-F.Add a b) = joined signs.Plus a b
term_level vars (Term-F.Sub s a b) = joined signs.Minus a b
term_level vars (Term-F.Mul a b) = joined signs.Times a b
term_level vars (Term-F.Pow a k) = joined signs.Power a (number k)
term_level vars (Term-F.Div a k) = joined signs.Divide a (number k)
term_level vars (Term-F.Rem a k) = joined signs.Mod a (number k)
term_level vars (Term-F.Call1 f a) = applied (functions.One f) a
term_level vars (Term-F.Call2 f a b) = applied_to_two (functions.Two f) a b

-- a term's text over these variables
abbrev pub term_part : List Bound → Term → Part
term_part vars = fold-Term Part (term_level vars)

abbrev pub bool_level : List Bound → BTerm-F Part → Part
bool_level vars BTerm-F.True = leaf (codes "true")
bool_level vars BTerm-F.False = leaf (codes "false")
bool_level vars (BTerm-F.Var v) = leaf (name_of vars v)
bool_level vars (BTerm-F.Test c t u) = joined (test_sign c) (term_part vars t) (term_part vars u)
bool_level vars (BTerm-F.Not a) = applied functions.Negb a
bool_level vars (BTerm-F.And a b) = joined signs.BoolAnd a b
bool_level vars (BTerm-F.Or a b) = joined signs.BoolOr a b
bool_level vars (BTerm-F.Call f a b) = applied_to_two (functions.Bool f) a b

-- a bool term's text
abbrev pub bool_part : List Bound → BTerm → Part
bool_part vars = fold-BTerm Part (bool_level vars)

abbrev pub formula_level : List Bound → Formula-F Part → Part
formula_level vars Formula-F.True = leaf (codes "True")
formula_level vars Formula-F.False = leaf (codes "False")
formula_level vars (Formula-F.Atom c t u) = joined (cmp_sign c) (term_part vars t) (term_part vars u)
formula_level vars (Formula-F.Chain t c u d v) = chained (cmp_sign c) (cmp_sign d) (term_part vars t) (term_part vars u) (term_part vars v)
formula_level vars (Formula-F.Same b c) = joined signs.Eq (bool_part vars b) (bool_part vars c)
formula_level vars (Formula-F.Differ b c) = joined signs.Ne (bool_part vars b) (bool_part vars c)
formula_level vars (Formula-F.Not f) = prefixed signs.Not f
formula_level vars (Formula-F.And f g) = joined signs.And f g
formula_level vars (Formula-F.Or f g) = joined signs.Or f g
formula_level vars (Formula-F.Imp f g) = joined signs.Arrow f g
formula_level vars (Formula-F.Iff f g) = joined signs.Iff f g

-- a formula's text
abbrev pub formula_part : List Bound → Formula → Part
formula_part vars = fold-Formula Part (formula_level vars)

-- consecutive variables of one sort
pub record Group : Type 0 where
  pub sort : Sort
  pub names : List (List ℕ)

-- the groups with a variable before them
abbrev pub with_first : Bound → List Group → List Group
with_first b [] = record { sort = b.sort; names = b.name.bytes ∷ [] } ∷ []
with_first b (g ∷ gs) = if is_sort b.sort g.sort then record { sort = g.sort; names = b.name.bytes ∷ g.names } ∷ gs else record { sort = b.sort; names = b.name.bytes ∷ [] } ∷ g ∷ gs

-- the groups of the variables, each as long as it can be
abbrev pub groups : List Bound → List Group
groups [] = []
groups (b ∷ vars) = with_first b (groups vars)

-- `x y : Z`
abbrev pub group_text : Group → List ℕ
group_text g = join_with_byte 32 g.names ++ (codes " : " ++ sort_text g.sort)

-- one group stands bare, and each of several between parentheses
abbrev pub groups_text : List Group → List ℕ
groups_text [] = []
groups_text (g ∷ []) = group_text g
groups_text (g ∷ h ∷ gs) = join_with_byte 32 (map (λ k. grouped (group_text k)) (g ∷ h ∷ gs))

-- the variables that a goal binds
abbrev pub binders_text : List Bound → List ℕ
binders_text [] = []
binders_text (b ∷ vars) = codes "forall " ++ (groups_text (groups (b ∷ vars)) ++ codes ", ")

-- the text of a goal
abbrev pub goal_text : Goal → List ℕ
goal_text goal = binders_text goal.vars ++ (formula_part goal.vars goal.body).text

-- a value of this sort; a bool is true from 1 on
abbrev pub value_text : Sort → ℤ → List ℕ
value_text sorts.Bool z = if int_le (pos 1) z then codes "true" else codes "false"
value_text sorts.Int z = signed_decimal z
value_text sorts.Bin z = signed_decimal z
value_text sorts.Nat z = signed_decimal z
value_text sorts.Pos z = signed_decimal z

-- `NAME := VALUE` and a line feed
abbrev pub line_text : Bound → ℤ → List ℕ
line_text b z = b.name.bytes ++ (codes " := " ++ (value_text b.sort z ++ codes "\n"))

-- a line for each variable that has a value
abbrev pub lines_text : List Bound → List ℤ → List ℕ
lines_text [] values = []
lines_text (b ∷ vars) [] = []
lines_text (b ∷ vars) (z ∷ values) = line_text b z ++ lines_text vars values

-- the text of an assignment
abbrev pub assignment_text : Goal → Assignment → List ℕ
assignment_text goal a = lines_text goal.vars a.values
