-- The operations of a goal, each of which has a variable of its own in the translation.
use Rattle.std.specs.Prelude.{List, [], ◌∷◌, ◌++◌, fold, Bool, true, false, not, if◌then◌else◌}
use Rattle.std.specs.List.{list_any}
use Rattle.goal_ast.specs.declared.term.Sort.{Sort}
use Rattle.goal_ast.specs.declared.term.Sort.TheVariants as sorts
use Rattle.goal_ast.specs.declared.term.Fn1.{Fn1}
use Rattle.goal_ast.specs.declared.term.Fn1.TheVariants.{ZSucc, ZPred, ZOpp, ZAbs, ZSgn, S, NatPred, NSucc, NPred, PosSucc, PosPred, OfNat, OfN, OfPos, ToNat, ToN}
use Rattle.goal_ast.specs.declared.term.Term.{Term}
use Rattle.goal_ast.specs.declared.term.Term.TheVariants as terms
use Rattle.goal_ast.specs.declared.term.Term.TheOpen.{Term-F}
use Rattle.goal_ast.specs.declared.term.Term.TheFolds.{para-Term}
use Rattle.goal_ast.specs.declared.formula.BTerm.{BTerm}
use Rattle.goal_ast.specs.declared.formula.BTerm.TheOpen.{BTerm-F}
use Rattle.goal_ast.specs.declared.formula.BTerm.TheFolds.{fold-BTerm}
use Rattle.goal_ast.specs.declared.formula.Formula.{Formula}
use Rattle.goal_ast.specs.declared.formula.Formula.TheOpen.{Formula-F}
use Rattle.goal_ast.specs.declared.formula.Formula.TheFolds.{fold-Formula}
use Rattle.goal_ast.specs.Equality.{same_term}

-- the sorts on which a difference is that of the integers
abbrev pub is_plain : Sort → Bool
is_plain sorts.Int = true
is_plain sorts.Bool = true
is_plain sorts.Bin = false
is_plain sorts.Nat = false
is_plain sorts.Pos = false

-- the functions whose value isn't polynomial in the argument
abbrev pub has_variable : Fn1 → Bool
has_variable ZSucc = false
has_variable ZPred = false
has_variable ZOpp = false
has_variable ZAbs = true
has_variable ZSgn = true
has_variable S = false
has_variable NatPred = true
has_variable NSucc = false
has_variable NPred = true
has_variable PosSucc = false
has_variable PosPred = true
has_variable OfNat = false
has_variable OfN = false
has_variable OfPos = false
has_variable ToNat = true
has_variable ToN = true

-- one thing where a test holds, and else nothing
abbrev pub where_true : {A : Type 0} → Bool → A → List A
where_true true x = x ∷ []
where_true false x = []

abbrev pub operations_level : Term-F (Term × List Term) → List Term
operations_level (Term-F.Lit n) = []
operations_level (Term-F.Var v) = []
operations_level (Term-F.Neg a) = a.1
operations_level (Term-F.Add a b) = a.1 ++ b.1
operations_level (Term-F.Sub s a b) = (a.1 ++ b.1) ++ where_true (not (is_plain s)) (terms.Sub s a.0 b.0)
operations_level (Term-F.Mul a b) = a.1 ++ b.1
operations_level (Term-F.Pow a k) = a.1
operations_level (Term-F.Div a k) = a.1 ++ (terms.Div a.0 k ∷ [])
operations_level (Term-F.Rem a k) = a.1 ++ (terms.Div a.0 k ∷ [])
operations_level (Term-F.Call1 f a) = a.1 ++ where_true (has_variable f) (terms.Call1 f a.0)
operations_level (Term-F.Call2 f a b) = (a.1 ++ b.1) ++ (terms.Call2 f a.0 b.0 ∷ [])

-- the operations of a term in post-order, each as often as it stands there; that of a remainder is the quotient's
abbrev pub operations : Term → List Term
operations = para-Term (List Term) operations_level

abbrev pub bool_operations_level : BTerm-F (List Term) → List Term
bool_operations_level BTerm-F.True = []
bool_operations_level BTerm-F.False = []
bool_operations_level (BTerm-F.Var v) = []
bool_operations_level (BTerm-F.Test c t u) = operations t ++ operations u
bool_operations_level (BTerm-F.Not a) = a
bool_operations_level (BTerm-F.And a b) = a ++ b
bool_operations_level (BTerm-F.Or a b) = a ++ b
bool_operations_level (BTerm-F.Call f a b) = a ++ b

abbrev pub bool_operations : BTerm → List Term
bool_operations = fold-BTerm (List Term) bool_operations_level

abbrev pub formula_operations_level : Formula-F (List Term) → List Term
formula_operations_level Formula-F.True = []
formula_operations_level Formula-F.False = []
formula_operations_level (Formula-F.Atom c t u) = operations t ++ operations u
formula_operations_level (Formula-F.Chain t c u d v) = operations t ++ (operations u ++ operations v)
formula_operations_level (Formula-F.Same b c) = bool_operations b ++ bool_operations c
formula_operations_level (Formula-F.Differ b c) = bool_operations b ++ bool_operations c
formula_operations_level (Formula-F.Not f) = f
formula_operations_level (Formula-F.And f g) = f ++ g
formula_operations_level (Formula-F.Or f g) = f ++ g
formula_operations_level (Formula-F.Imp f g) = f ++ g
formula_operations_level (Formula-F.Iff f g) = f ++ g

abbrev pub formula_operations : Formula → List Term
formula_operations = fold-Formula (List Term) formula_operations_level

-- a list with a term at its end, unless it has an equal one
abbrev pub with_new : List Term → Term → List Term
with_new ts t = if list_any (same_term t) ts then ts else ts ++ t ∷ []

-- a list, and then the terms that are new at their first places
abbrev pub firsts : List Term → List Term → List Term
firsts = fold with_new

-- the distinct operations of a formula, in the order of their first places
abbrev pub distinct_operations : Formula → List Term
distinct_operations f = firsts [] (formula_operations f)
