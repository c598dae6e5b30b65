-- In a well-formed goal each divisor is small and not 0.
use Rattle.std.specs.Prelude.{◌≡◌, ℤ, pos, Bool, true, false, not, ◌&&◌, ◌||◌, List, refl}
use Rattle.std.specs.Ordering.{int_eq}
use Rattle.std.proofs.Common.{ap, sym, ◌∙◌, subst, arith}
use Rattle.std.proofs.lemmas.Int.{ints}
use Rattle.std.proofs.lemmas.Bool.{and_parts, and_from}
use Rattle.goal_ast.specs.declared.term.Sort.{Sort}
use Rattle.goal_ast.specs.declared.term.Sort.TheVariants as sorts
use Rattle.goal_ast.specs.declared.term.Term.{Term}
use Rattle.goal_ast.specs.declared.term.Term.TheOpen.{Term-F}
use Rattle.goal_ast.specs.declared.term.Term.TheViews.{roll-Term}
use Rattle.goal_ast.specs.declared.term.Term.TheFolds.{map-Term, fold-roll-Term, ind-Term}
use Rattle.goal_ast.specs.declared.formula.BTerm.{BTerm}
use Rattle.goal_ast.specs.declared.formula.BTerm.TheOpen.{BTerm-F}
use Rattle.goal_ast.specs.declared.formula.BTerm.TheViews.{roll-BTerm}
use Rattle.goal_ast.specs.declared.formula.BTerm.TheFolds.{map-BTerm, fold-roll-BTerm, ind-BTerm}
use Rattle.goal_ast.specs.declared.formula.Formula.{Formula}
use Rattle.goal_ast.specs.declared.formula.Formula.TheOpen.{Formula-F}
use Rattle.goal_ast.specs.declared.formula.Formula.TheViews.{roll-Formula}
use Rattle.goal_ast.specs.declared.formula.Formula.TheFolds.{map-Formula, fold-roll-Formula, ind-Formula}
use Rattle.goal_ast.specs.declared.goal.Goal.{Goal}
use Rattle.goal_ast.specs.Range.{sorts_of}
use Rattle.goal_ast.specs.Sorted.{is_small, Sorting, Fitting, divides_on, sort_level, has_sort, argument_1, both_have, compare_well, three_have, chain_well, bool_sort_level, is_bool, formula_sort_level, is_sorted, literal_level, literals_small, bool_literal_level, bool_literals_small, formula_literal_level, formula_literals_small, IsWellFormed}
use Rattle.goal_ast.specs.Divisors.{divisor_fits, divisor_level, divisors_fit, bool_divisor_level, bool_divisors_fit, formula_divisor_level, formula_divisors_fit}

-- what holds in four cases
pub any_of : {P : Type 0} → (a b c d : Bool) → ((a || b) || (c || d)) ≡ true → (a ≡ true → P) → (b ≡ true → P) → (c ≡ true → P) → (d ≡ true → P) → P
any_of true b c d h p q r s = p refl
any_of false true c d h p q r s = q refl
any_of false false true d h p q r s = r refl
any_of false false false true h p q r s = s refl
any_of false false false false h p q r s = absurd (cc)

pub not_0 : (s : Sort) (k : ℤ) → divides_on s k ≡ true → not (int_eq k (pos 0)) ≡ true
not_0 sorts.Int k h = h
not_0 sorts.Bin k h = grind (arith, ints)
not_0 sorts.Nat k h = grind (arith, ints)
not_0 sorts.Pos k h = absurd (cc)
not_0 sorts.Bool k h = absurd (cc)

pub fits : (s : Sort) (k : ℤ) → divides_on s k ≡ true → is_small k ≡ true → divisor_fits k ≡ true
unfolding divisor_fits
fits s k h l = and_from _ _ l (not_0 s k h)

abbrev pub TermFits : Term → Type 0
TermFits t = (vars : List Sort) (s : Sort) → has_sort t vars s ≡ true → literals_small t ≡ true → divisors_fit t ≡ true

abbrev Known : Type 0
Known = (t : Term) × TermFits t

abbrev terms_of : Term-F Known → Term-F Term
terms_of y = map-Term Known Term (λ p. p.0) y

pair_fits : (a b : Known) (vars : List Sort) (s : Sort) → (has_sort a.0 vars s && has_sort b.0 vars s) ≡ true → (literals_small a.0 && literals_small b.0) ≡ true
    → (divisors_fit a.0 && divisors_fit b.0) ≡ true
pair_fits a b vars s h l = let p = and_parts _ _ h in let q = and_parts _ _ l in and_from _ _ (a.1 vars s p.0 q.0) (b.1 vars s p.1 q.1)

divided_fits : (a : Known) (k : ℤ) (vars : List Sort) (s : Sort) → (has_sort a.0 vars s && divides_on s k) ≡ true → (literals_small a.0 && is_small k) ≡ true
    → (divisors_fit a.0 && divisor_fits k) ≡ true
divided_fits a k vars s h l = let p = and_parts _ _ h in let q = and_parts _ _ l in and_from _ _ (a.1 vars s p.0 q.0) (fits s k p.1 q.1)

level : (y : Term-F Known) (vars : List Sort) (s : Sort) → sort_level (map-Term Term Sorting has_sort (terms_of y)) vars s ≡ true
    → literal_level (map-Term Term Bool literals_small (terms_of y)) ≡ true → divisor_level (map-Term Term Bool divisors_fit (terms_of y)) ≡ true
level (Term-F.Lit n) vars s h l = refl
level (Term-F.Var v) vars s h l = refl
level (Term-F.Neg a) vars s h l = a.1 vars sorts.Int (and_parts _ _ h).1 l
level (Term-F.Add a b) vars s h l = pair_fits a b vars s h l
level (Term-F.Sub t a b) vars s h l = pair_fits a b vars s (and_parts _ _ h).1 l
level (Term-F.Mul a b) vars s h l = pair_fits a b vars s h l
level (Term-F.Pow a k) vars s h l = a.1 vars s (and_parts _ _ h).0 (and_parts _ _ l).0
level (Term-F.Div a k) vars s h l = divided_fits a k vars s h l
level (Term-F.Rem a k) vars s h l = divided_fits a k vars s h l
level (Term-F.Call1 f a) vars s h l = a.1 vars (argument_1 f) (and_parts _ _ h).1 l
level (Term-F.Call2 f a b) vars s h l = pair_fits a b vars s (and_parts _ _ h).1 l

pub term_fits : (t : Term) → TermFits t
term_fits = ind-Term TermFits (λ d y q. subst (λ (z : Term-F Term). TermFits (roll-Term z)) q (step y))
  where
    step : (y : Term-F Known) → TermFits (roll-Term (terms_of y))
    step y vars s h l =
        let a = ap (λ f. f vars s) (fold-roll-Term Sorting sort_level (terms_of y)) in
        let b = fold-roll-Term Bool literal_level (terms_of y) in
        let c = fold-roll-Term Bool divisor_level (terms_of y) in
        c ∙ level y vars s (sym a ∙ h) (sym b ∙ l)

two_fit : (t u : Term) (vars : List Sort) (s : Sort) → both_have t u vars s ≡ true → (literals_small t && literals_small u) ≡ true → (divisors_fit t && divisors_fit u) ≡ true
two_fit t u vars s h l = let p = and_parts _ _ h in let q = and_parts _ _ l in and_from _ _ (term_fits t vars s p.0 q.0) (term_fits u vars s p.1 q.1)

compared_fit : (t u : Term) (vars : List Sort) → compare_well t u vars ≡ true → (literals_small t && literals_small u) ≡ true → (divisors_fit t && divisors_fit u) ≡ true
compared_fit t u vars h l = any_of _ _ _ _ h (λ e. two_fit t u vars sorts.Int e l) (λ e. two_fit t u vars sorts.Bin e l)
    (λ e. two_fit t u vars sorts.Nat e l) (λ e. two_fit t u vars sorts.Pos e l)

three_fit : (t u v : Term) (vars : List Sort) (s : Sort) → three_have t u v vars s ≡ true → (literals_small t && (literals_small u && literals_small v)) ≡ true
    → (divisors_fit t && (divisors_fit u && divisors_fit v)) ≡ true
three_fit t u v vars s h l = let p = and_parts _ _ h in let q = and_parts _ _ l in and_from _ _ (term_fits t vars s p.0 q.0) (two_fit u v vars s p.1 q.1)

chain_fits : (t u v : Term) (vars : List Sort) → chain_well t u v vars ≡ true → (literals_small t && (literals_small u && literals_small v)) ≡ true
    → (divisors_fit t && (divisors_fit u && divisors_fit v)) ≡ true
chain_fits t u v vars h l = any_of _ _ _ _ h (λ e. three_fit t u v vars sorts.Int e l) (λ e. three_fit t u v vars sorts.Bin e l)
    (λ e. three_fit t u v vars sorts.Nat e l) (λ e. three_fit t u v vars sorts.Pos e l)

-- two parts that fit
joined : (s t m n f g : Bool) → (s ≡ true → m ≡ true → f ≡ true) → (t ≡ true → n ≡ true → g ≡ true) → (s && t) ≡ true → (m && n) ≡ true → (f && g) ≡ true
joined s t m n f g a b h l = let p = and_parts _ _ h in let q = and_parts _ _ l in and_from _ _ (a p.0 q.0) (b p.1 q.1)

abbrev pub BoolFits : BTerm → Type 0
BoolFits b = (vars : List Sort) → is_bool b vars ≡ true → bool_literals_small b ≡ true → bool_divisors_fit b ≡ true

abbrev KnownBool : Type 0
KnownBool = (b : BTerm) × BoolFits b

abbrev bools_of : BTerm-F KnownBool → BTerm-F BTerm
bools_of y = map-BTerm KnownBool BTerm (λ p. p.0) y

bool_step : (y : BTerm-F KnownBool) (vars : List Sort) → bool_sort_level (map-BTerm BTerm Fitting is_bool (bools_of y)) vars ≡ true
    → bool_literal_level (map-BTerm BTerm Bool bool_literals_small (bools_of y)) ≡ true → bool_divisor_level (map-BTerm BTerm Bool bool_divisors_fit (bools_of y)) ≡ true
bool_step BTerm-F.True vars h l = refl
bool_step BTerm-F.False vars h l = refl
bool_step (BTerm-F.Var v) vars h l = refl
bool_step (BTerm-F.Test c t u) vars h l = compared_fit t u vars h l
bool_step (BTerm-F.Not a) vars h l = a.1 vars h l
bool_step (BTerm-F.And a b) vars h l = joined _ _ _ _ _ _ (a.1 vars) (b.1 vars) h l
bool_step (BTerm-F.Or a b) vars h l = joined _ _ _ _ _ _ (a.1 vars) (b.1 vars) h l
bool_step (BTerm-F.Call f a b) vars h l = joined _ _ _ _ _ _ (a.1 vars) (b.1 vars) h l

pub bool_fits : (b : BTerm) → BoolFits b
bool_fits = ind-BTerm BoolFits (λ d y q. subst (λ (z : BTerm-F BTerm). BoolFits (roll-BTerm z)) q (step y))
  where
    step : (y : BTerm-F KnownBool) → BoolFits (roll-BTerm (bools_of y))
    step y vars h l =
        let a = ap (λ f. f vars) (fold-roll-BTerm Fitting bool_sort_level (bools_of y)) in
        let b = fold-roll-BTerm Bool bool_literal_level (bools_of y) in
        let c = fold-roll-BTerm Bool bool_divisor_level (bools_of y) in
        c ∙ bool_step y vars (sym a ∙ h) (sym b ∙ l)

abbrev pub FormulaFits : Formula → Type 0
FormulaFits f = (vars : List Sort) → is_sorted f vars ≡ true → formula_literals_small f ≡ true → formula_divisors_fit f ≡ true

abbrev KnownFormula : Type 0
KnownFormula = (f : Formula) × FormulaFits f

abbrev formulas_of : Formula-F KnownFormula → Formula-F Formula
formulas_of y = map-Formula KnownFormula Formula (λ p. p.0) y

formula_step : (y : Formula-F KnownFormula) (vars : List Sort) → formula_sort_level (map-Formula Formula Fitting is_sorted (formulas_of y)) vars ≡ true
    → formula_literal_level (map-Formula Formula Bool formula_literals_small (formulas_of y)) ≡ true
    → formula_divisor_level (map-Formula Formula Bool formula_divisors_fit (formulas_of y)) ≡ true
formula_step Formula-F.True vars h l = refl
formula_step Formula-F.False vars h l = refl
formula_step (Formula-F.Atom c t u) vars h l = compared_fit t u vars h l
formula_step (Formula-F.Chain t c u d v) vars h l = chain_fits t u v vars (and_parts _ _ h).1 l
formula_step (Formula-F.Same b c) vars h l = joined _ _ _ _ _ _ (bool_fits b vars) (bool_fits c vars) h l
formula_step (Formula-F.Differ b c) vars h l = joined _ _ _ _ _ _ (bool_fits b vars) (bool_fits c vars) h l
formula_step (Formula-F.Not f) vars h l = f.1 vars h l
formula_step (Formula-F.And f g) vars h l = joined _ _ _ _ _ _ (f.1 vars) (g.1 vars) h l
formula_step (Formula-F.Or f g) vars h l = joined _ _ _ _ _ _ (f.1 vars) (g.1 vars) h l
formula_step (Formula-F.Imp f g) vars h l = joined _ _ _ _ _ _ (f.1 vars) (g.1 vars) h l
formula_step (Formula-F.Iff f g) vars h l = joined _ _ _ _ _ _ (f.1 vars) (g.1 vars) h l

pub formula_fits : (f : Formula) → FormulaFits f
formula_fits = ind-Formula FormulaFits (λ d y q. subst (λ (z : Formula-F Formula). FormulaFits (roll-Formula z)) q (step y))
  where
    step : (y : Formula-F KnownFormula) → FormulaFits (roll-Formula (formulas_of y))
    step y vars h l =
        let a = ap (λ f. f vars) (fold-roll-Formula Fitting formula_sort_level (formulas_of y)) in
        let b = fold-roll-Formula Bool formula_literal_level (formulas_of y) in
        let c = fold-roll-Formula Bool formula_divisor_level (formulas_of y) in
        c ∙ formula_step y vars (sym a ∙ h) (sym b ∙ l)

-- the divisors of a well-formed goal
pub goal_fits : (goal : Goal) → IsWellFormed goal → formula_divisors_fit goal.body ≡ true
goal_fits goal w = formula_fits goal.body (sorts_of goal.vars) w.sorted w.numbers
