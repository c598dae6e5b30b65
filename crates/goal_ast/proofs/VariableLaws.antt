-- The variables of a well-formed goal's body are numbered below the number of its variables.
use Rattle.std.specs.Prelude.{◌≡◌, ℕ, zero, suc, nat_lt, List, [], ◌∷◌, length, Bool, true, ◌&&◌, refl}
use Rattle.std.proofs.Common.{ap, sym, ◌∙◌, subst, arith}
use Rattle.std.proofs.lemmas.List.{length-map}
use Rattle.std.proofs.lemmas.Bool.{and_parts, and_from}
use Rattle.goal_ast.specs.declared.term.Sort.{Sort}
use Rattle.goal_ast.specs.declared.term.Sort.TheVariants as sorts
use Rattle.goal_ast.specs.declared.term.Term.{Term}
use Rattle.goal_ast.specs.declared.term.Term.TheOpen.{Term-F}
use Rattle.goal_ast.specs.declared.term.Term.TheViews.{roll-Term}
use Rattle.goal_ast.specs.declared.term.Term.TheFolds.{map-Term, fold-roll-Term, ind-Term}
use Rattle.goal_ast.specs.declared.formula.BTerm.{BTerm}
use Rattle.goal_ast.specs.declared.formula.BTerm.TheOpen.{BTerm-F}
use Rattle.goal_ast.specs.declared.formula.BTerm.TheViews.{roll-BTerm}
use Rattle.goal_ast.specs.declared.formula.BTerm.TheFolds.{map-BTerm, fold-roll-BTerm, ind-BTerm}
use Rattle.goal_ast.specs.declared.formula.Formula.{Formula}
use Rattle.goal_ast.specs.declared.formula.Formula.TheOpen.{Formula-F}
use Rattle.goal_ast.specs.declared.formula.Formula.TheViews.{roll-Formula}
use Rattle.goal_ast.specs.declared.formula.Formula.TheFolds.{map-Formula, fold-roll-Formula, ind-Formula}
use Rattle.goal_ast.specs.declared.goal.Bound.{Bound}
use Rattle.goal_ast.specs.declared.goal.Goal.{Goal}
use Rattle.goal_ast.specs.Range.{sorts_of}
use Rattle.goal_ast.specs.Sorted.{variable_has, Sorting, Fitting, sort_level, has_sort, argument_1, both_have, compare_well, three_have, chain_well, bool_sort_level, is_bool, formula_sort_level, is_sorted, IsWellFormed}
use Rattle.goal_ast.specs.Variables.{variable_level, names_below, bool_variable_level, bool_names_below, formula_variable_level, formula_names_below}
use Rattle.goal_ast.proofs.SortedLaws.{any_of}

next_below : (v n : ℕ) → nat_lt v n ≡ true → nat_lt (suc v) (suc n) ≡ true
next_below v n h = grind arith

first_below : (n : ℕ) → nat_lt 0 (suc n) ≡ true
first_below n = grind arith

-- a variable that has a sort has a place
pub has_place : (vars : List Sort) (v : ℕ) (s : Sort) → variable_has vars v s ≡ true → nat_lt v (length vars) ≡ true
has_place [] v s h = absurd (cc)
has_place (t ∷ vars) zero s h = first_below (length vars)
has_place (t ∷ vars) (suc v) s h = next_below v (length vars) (has_place vars v s h)

abbrev TermNames : Term → Type 0
TermNames t = (vars : List Sort) (s : Sort) → has_sort t vars s ≡ true → names_below (length vars) t ≡ true

abbrev Known : Type 0
Known = (t : Term) × TermNames t

abbrev terms_of : Term-F Known → Term-F Term
terms_of y = map-Term Known Term (λ p. p.0) y

pair_named : (a b : Known) (vars : List Sort) (s : Sort) → (has_sort a.0 vars s && has_sort b.0 vars s) ≡ true
    → (names_below (length vars) a.0 && names_below (length vars) b.0) ≡ true
pair_named a b vars s h = let p = and_parts _ _ h in and_from _ _ (a.1 vars s p.0) (b.1 vars s p.1)

level : (y : Term-F Known) (vars : List Sort) (s : Sort) → sort_level (map-Term Term Sorting has_sort (terms_of y)) vars s ≡ true
    → variable_level (length vars) (map-Term Term Bool (names_below (length vars)) (terms_of y)) ≡ true
level (Term-F.Lit n) vars s h = refl
level (Term-F.Var v) vars s h = has_place vars v s (and_parts _ _ h).1
level (Term-F.Neg a) vars s h = a.1 vars sorts.Int (and_parts _ _ h).1
level (Term-F.Add a b) vars s h = pair_named a b vars s h
level (Term-F.Sub t a b) vars s h = pair_named a b vars s (and_parts _ _ h).1
level (Term-F.Mul a b) vars s h = pair_named a b vars s h
level (Term-F.Pow a k) vars s h = a.1 vars s (and_parts _ _ h).0
level (Term-F.Div a k) vars s h = a.1 vars s (and_parts _ _ h).0
level (Term-F.Rem a k) vars s h = a.1 vars s (and_parts _ _ h).0
level (Term-F.Call1 f a) vars s h = a.1 vars (argument_1 f) (and_parts _ _ h).1
level (Term-F.Call2 f a b) vars s h = pair_named a b vars s (and_parts _ _ h).1

pub term_named : (t : Term) → TermNames t
term_named = ind-Term TermNames (λ d y q. subst (λ (z : Term-F Term). TermNames (roll-Term z)) q (step y))
  where
    step : (y : Term-F Known) → TermNames (roll-Term (terms_of y))
    step y vars s h =
        let a = ap (λ f. f vars s) (fold-roll-Term Sorting sort_level (terms_of y)) in
        let b = fold-roll-Term Bool (variable_level (length vars)) (terms_of y) in
        b ∙ level y vars s (sym a ∙ h)

two_named : (t u : Term) (vars : List Sort) (s : Sort) → both_have t u vars s ≡ true → (names_below (length vars) t && names_below (length vars) u) ≡ true
two_named t u vars s h = let p = and_parts _ _ h in and_from _ _ (term_named t vars s p.0) (term_named u vars s p.1)

compared_named : (t u : Term) (vars : List Sort) → compare_well t u vars ≡ true → (names_below (length vars) t && names_below (length vars) u) ≡ true
compared_named t u vars h = any_of _ _ _ _ h (two_named t u vars sorts.Int) (two_named t u vars sorts.Bin) (two_named t u vars sorts.Nat) (two_named t u vars sorts.Pos)

three_named : (t u v : Term) (vars : List Sort) (s : Sort) → three_have t u v vars s ≡ true
    → (names_below (length vars) t && (names_below (length vars) u && names_below (length vars) v)) ≡ true
three_named t u v vars s h = let p = and_parts _ _ h in and_from _ _ (term_named t vars s p.0) (two_named u v vars s p.1)

chain_named : (t u v : Term) (vars : List Sort) → chain_well t u v vars ≡ true
    → (names_below (length vars) t && (names_below (length vars) u && names_below (length vars) v)) ≡ true
chain_named t u v vars h = any_of _ _ _ _ h (three_named t u v vars sorts.Int) (three_named t u v vars sorts.Bin) (three_named t u v vars sorts.Nat) (three_named t u v vars sorts.Pos)

-- two parts
joined : (s t f g : Bool) → (s ≡ true → f ≡ true) → (t ≡ true → g ≡ true) → (s && t) ≡ true → (f && g) ≡ true
joined s t f g a b h = let p = and_parts _ _ h in and_from _ _ (a p.0) (b p.1)

abbrev BoolNames : BTerm → Type 0
BoolNames b = (vars : List Sort) → is_bool b vars ≡ true → bool_names_below (length vars) b ≡ true

abbrev KnownBool : Type 0
KnownBool = (b : BTerm) × BoolNames b

abbrev bools_of : BTerm-F KnownBool → BTerm-F BTerm
bools_of y = map-BTerm KnownBool BTerm (λ p. p.0) y

bool_step : (y : BTerm-F KnownBool) (vars : List Sort) → bool_sort_level (map-BTerm BTerm Fitting is_bool (bools_of y)) vars ≡ true
    → bool_variable_level (length vars) (map-BTerm BTerm Bool (bool_names_below (length vars)) (bools_of y)) ≡ true
bool_step BTerm-F.True vars h = refl
bool_step BTerm-F.False vars h = refl
bool_step (BTerm-F.Var v) vars h = has_place vars v sorts.Bool h
bool_step (BTerm-F.Test c t u) vars h = compared_named t u vars h
bool_step (BTerm-F.Not a) vars h = a.1 vars h
bool_step (BTerm-F.And a b) vars h = joined _ _ _ _ (a.1 vars) (b.1 vars) h
bool_step (BTerm-F.Or a b) vars h = joined _ _ _ _ (a.1 vars) (b.1 vars) h
bool_step (BTerm-F.Call f a b) vars h = joined _ _ _ _ (a.1 vars) (b.1 vars) h

pub bool_named : (b : BTerm) → BoolNames b
bool_named = ind-BTerm BoolNames (λ d y q. subst (λ (z : BTerm-F BTerm). BoolNames (roll-BTerm z)) q (step y))
  where
    step : (y : BTerm-F KnownBool) → BoolNames (roll-BTerm (bools_of y))
    step y vars h =
        let a = ap (λ f. f vars) (fold-roll-BTerm Fitting bool_sort_level (bools_of y)) in
        let b = fold-roll-BTerm Bool (bool_variable_level (length vars)) (bools_of y) in
        b ∙ bool_step y vars (sym a ∙ h)

abbrev FormulaNames : Formula → Type 0
FormulaNames f = (vars : List Sort) → is_sorted f vars ≡ true → formula_names_below (length vars) f ≡ true

abbrev KnownFormula : Type 0
KnownFormula = (f : Formula) × FormulaNames f

abbrev formulas_of : Formula-F KnownFormula → Formula-F Formula
formulas_of y = map-Formula KnownFormula Formula (λ p. p.0) y

formula_step : (y : Formula-F KnownFormula) (vars : List Sort) → formula_sort_level (map-Formula Formula Fitting is_sorted (formulas_of y)) vars ≡ true
    → formula_variable_level (length vars) (map-Formula Formula Bool (formula_names_below (length vars)) (formulas_of y)) ≡ true
formula_step Formula-F.True vars h = refl
formula_step Formula-F.False vars h = refl
formula_step (Formula-F.Atom c t u) vars h = compared_named t u vars h
formula_step (Formula-F.Chain t c u d v) vars h = chain_named t u v vars (and_parts _ _ h).1
formula_step (Formula-F.Same b c) vars h = joined _ _ _ _ (bool_named b vars) (bool_named c vars) h
formula_step (Formula-F.Differ b c) vars h = joined _ _ _ _ (bool_named b vars) (bool_named c vars) h
formula_step (Formula-F.Not f) vars h = f.1 vars h
formula_step (Formula-F.And f g) vars h = joined _ _ _ _ (f.1 vars) (g.1 vars) h
formula_step (Formula-F.Or f g) vars h = joined _ _ _ _ (f.1 vars) (g.1 vars) h
formula_step (Formula-F.Imp f g) vars h = joined _ _ _ _ (f.1 vars) (g.1 vars) h
formula_step (Formula-F.Iff f g) vars h = joined _ _ _ _ (f.1 vars) (g.1 vars) h

pub formula_named : (f : Formula) → FormulaNames f
formula_named = ind-Formula FormulaNames (λ d y q. subst (λ (z : Formula-F Formula). FormulaNames (roll-Formula z)) q (step y))
  where
    step : (y : Formula-F KnownFormula) → FormulaNames (roll-Formula (formulas_of y))
    step y vars h =
        let a = ap (λ f. f vars) (fold-roll-Formula Fitting formula_sort_level (formulas_of y)) in
        let b = fold-roll-Formula Bool (formula_variable_level (length vars)) (formulas_of y) in
        b ∙ formula_step y vars (sym a ∙ h)

pub goal_named : (goal : Goal) → IsWellFormed goal → formula_names_below (length goal.vars) goal.body ≡ true
goal_named goal w =
    let e : length (sorts_of goal.vars) ≡ length goal.vars = length-map goal.vars (λ (b : Bound). b.sort) in
    ap (λ n. formula_names_below n goal.body) (sym e) ∙ formula_named goal.body (sorts_of goal.vars) w.sorted
