-- The part of each shape of term and formula, which the sort of subtractions doesn't change.
use Rattle.std.proofs.Common.{◌≡◌, ℕ, List, refl, sym, ap, subst, ◌∙◌}
use Rattle.std.specs.Prelude.{ℤ, codes}
use Rattle.goal_ast.specs.declared.term.Sort.{Sort}
use Rattle.goal_ast.specs.declared.term.Fn1.{Fn1}
use Rattle.goal_ast.specs.declared.term.Fn2.{Fn2}
use Rattle.goal_ast.specs.declared.term.Term.{Term}
use Rattle.goal_ast.specs.declared.term.Term.TheOpen.{Term-F}
use Rattle.goal_ast.specs.declared.term.Term.TheViews.{roll-Term}
use Rattle.goal_ast.specs.declared.term.Term.TheVariants as terms
use Rattle.goal_ast.specs.declared.term.Term.TheVariants.{rolls-Lit, rolls-Var, rolls-Neg, rolls-Add, rolls-Sub, rolls-Mul, rolls-Pow, rolls-Div, rolls-Rem, rolls-Call1, rolls-Call2}
use Rattle.goal_ast.specs.declared.term.Term.TheFolds.{map-Term, fold-roll-Term, ind-Term}
use Rattle.goal_ast.specs.declared.formula.Cmp.{Cmp}
use Rattle.goal_ast.specs.declared.formula.BCmp.{BCmp}
use Rattle.goal_ast.specs.declared.formula.BFn.{BFn}
use Rattle.goal_ast.specs.declared.formula.BTerm.{BTerm}
use Rattle.goal_ast.specs.declared.formula.BTerm.TheOpen.{BTerm-F}
use Rattle.goal_ast.specs.declared.formula.BTerm.TheVariants as bools
use Rattle.goal_ast.specs.declared.formula.BTerm.TheVariants.{rolls-True as bools_rolls-True, rolls-False as bools_rolls-False, rolls-Var as bools_rolls-Var, rolls-Test as bools_rolls-Test, rolls-Not as bools_rolls-Not, rolls-And as bools_rolls-And, rolls-Or as bools_rolls-Or, rolls-Call as bools_rolls-Call}
use Rattle.goal_ast.specs.declared.formula.BTerm.TheFolds.{fold-roll-BTerm}
use Rattle.goal_ast.specs.declared.formula.Formula.{Formula}
use Rattle.goal_ast.specs.declared.formula.Formula.TheOpen.{Formula-F}
use Rattle.goal_ast.specs.declared.formula.Formula.TheVariants as formulas
use Rattle.goal_ast.specs.declared.formula.Formula.TheVariants.{rolls-True as formulas_rolls-True, rolls-False as formulas_rolls-False, rolls-Atom as formulas_rolls-Atom, rolls-Chain as formulas_rolls-Chain, rolls-Same as formulas_rolls-Same, rolls-Differ as formulas_rolls-Differ, rolls-Not as formulas_rolls-Not, rolls-And as formulas_rolls-And, rolls-Or as formulas_rolls-Or, rolls-Imp as formulas_rolls-Imp, rolls-Iff as formulas_rolls-Iff}
use Rattle.goal_ast.specs.declared.formula.Formula.TheFolds.{fold-roll-Formula}
use Rattle.goal_ast.specs.declared.goal.Bound.{Bound}
use Rattle.goal_token.specs.declared.token.Function.TheVariants as functions
use Rattle.goal_token.specs.declared.token.Sign.TheVariants as signs
use Rattle.goal_token.specs.Spelling.{cmp_sign, test_sign}
use Rattle.goal_sort.specs.SortedNumbers.{with_sort_level, with_sort}
use Rattle.goal_sort.specs.Kinds.{Kind, free, fixed, within}
use Rattle.goal_print.specs.Parts.{Part, leaf, number, prefixed, joined, chained, applied, applied_to_two}
use Rattle.goal_print.specs.Text.{name_of, term_level, term_part, bool_level, bool_part, formula_level, formula_part}

-- ---- terms

pub term_lit : (vars : List Bound) (n : ℤ) → term_part vars (terms.Lit n) ≡ number n
term_lit vars n = ap (term_part vars) (sym (rolls-Lit n)) ∙ fold-roll-Term Part (term_level vars) (Term-F.Lit n)

pub term_var : (vars : List Bound) (v : ℕ) → term_part vars (terms.Var v) ≡ leaf (name_of vars v)
term_var vars v = ap (term_part vars) (sym (rolls-Var v)) ∙ fold-roll-Term Part (term_level vars) (Term-F.Var v)

pub term_neg : (vars : List Bound) (a : Term) → term_part vars (terms.Neg a) ≡ prefixed signs.Minus (term_part vars a)
term_neg vars a = ap (term_part vars) (sym (rolls-Neg a)) ∙ fold-roll-Term Part (term_level vars) (Term-F.Neg a)

pub term_add : (vars : List Bound) (a : Term) (b : Term) → term_part vars (terms.Add a b) ≡ joined signs.Plus (term_part vars a) (term_part vars b)
term_add vars a b = ap (term_part vars) (sym (rolls-Add a b)) ∙ fold-roll-Term Part (term_level vars) (Term-F.Add a b)

pub term_sub : (vars : List Bound) (s : Sort) (a : Term) (b : Term) → term_part vars (terms.Sub s a b) ≡ joined signs.Minus (term_part vars a) (term_part vars b)
term_sub vars s a b = ap (term_part vars) (sym (rolls-Sub s a b)) ∙ fold-roll-Term Part (term_level vars) (Term-F.Sub s a b)

pub term_mul : (vars : List Bound) (a : Term) (b : Term) → term_part vars (terms.Mul a b) ≡ joined signs.Times (term_part vars a) (term_part vars b)
term_mul vars a b = ap (term_part vars) (sym (rolls-Mul a b)) ∙ fold-roll-Term Part (term_level vars) (Term-F.Mul a b)

pub term_pow : (vars : List Bound) (a : Term) (k : ℤ) → term_part vars (terms.Pow a k) ≡ joined signs.Power (term_part vars a) (number k)
term_pow vars a k = ap (term_part vars) (sym (rolls-Pow a k)) ∙ fold-roll-Term Part (term_level vars) (Term-F.Pow a k)

pub term_div : (vars : List Bound) (a : Term) (k : ℤ) → term_part vars (terms.Div a k) ≡ joined signs.Divide (term_part vars a) (number k)
term_div vars a k = ap (term_part vars) (sym (rolls-Div a k)) ∙ fold-roll-Term Part (term_level vars) (Term-F.Div a k)

pub term_rem : (vars : List Bound) (a : Term) (k : ℤ) → term_part vars (terms.Rem a k) ≡ joined signs.Mod (term_part vars a) (number k)
term_rem vars a k = ap (term_part vars) (sym (rolls-Rem a k)) ∙ fold-roll-Term Part (term_level vars) (Term-F.Rem a k)

pub term_call1 : (vars : List Bound) (f : Fn1) (a : Term) → term_part vars (terms.Call1 f a) ≡ applied (functions.One f) (term_part vars a)
term_call1 vars f a = ap (term_part vars) (sym (rolls-Call1 f a)) ∙ fold-roll-Term Part (term_level vars) (Term-F.Call1 f a)

pub term_call2 : (vars : List Bound) (f : Fn2) (a : Term) (b : Term) → term_part vars (terms.Call2 f a b) ≡ applied_to_two (functions.Two f) (term_part vars a) (term_part vars b)
term_call2 vars f a b = ap (term_part vars) (sym (rolls-Call2 f a b)) ∙ fold-roll-Term Part (term_level vars) (Term-F.Call2 f a b)

-- ---- bools

pub bool_true : (vars : List Bound) → bool_part vars bools.True ≡ leaf (codes "true")
bool_true vars = ap (bool_part vars) (sym bools_rolls-True) ∙ fold-roll-BTerm Part (bool_level vars) BTerm-F.True

pub bool_false : (vars : List Bound) → bool_part vars bools.False ≡ leaf (codes "false")
bool_false vars = ap (bool_part vars) (sym bools_rolls-False) ∙ fold-roll-BTerm Part (bool_level vars) BTerm-F.False

pub bool_var : (vars : List Bound) (v : ℕ) → bool_part vars (bools.Var v) ≡ leaf (name_of vars v)
bool_var vars v = ap (bool_part vars) (sym (bools_rolls-Var v)) ∙ fold-roll-BTerm Part (bool_level vars) (BTerm-F.Var v)

pub bool_test : (vars : List Bound) (c : BCmp) (t : Term) (u : Term) → bool_part vars (bools.Test c t u) ≡ joined (test_sign c) (term_part vars t) (term_part vars u)
bool_test vars c t u = ap (bool_part vars) (sym (bools_rolls-Test c t u)) ∙ fold-roll-BTerm Part (bool_level vars) (BTerm-F.Test c t u)

pub bool_not : (vars : List Bound) (a : BTerm) → bool_part vars (bools.Not a) ≡ applied functions.Negb (bool_part vars a)
bool_not vars a = ap (bool_part vars) (sym (bools_rolls-Not a)) ∙ fold-roll-BTerm Part (bool_level vars) (BTerm-F.Not a)

pub bool_and : (vars : List Bound) (a : BTerm) (b : BTerm) → bool_part vars (bools.And a b) ≡ joined signs.BoolAnd (bool_part vars a) (bool_part vars b)
bool_and vars a b = ap (bool_part vars) (sym (bools_rolls-And a b)) ∙ fold-roll-BTerm Part (bool_level vars) (BTerm-F.And a b)

pub bool_or : (vars : List Bound) (a : BTerm) (b : BTerm) → bool_part vars (bools.Or a b) ≡ joined signs.BoolOr (bool_part vars a) (bool_part vars b)
bool_or vars a b = ap (bool_part vars) (sym (bools_rolls-Or a b)) ∙ fold-roll-BTerm Part (bool_level vars) (BTerm-F.Or a b)

pub bool_call : (vars : List Bound) (f : BFn) (a : BTerm) (b : BTerm) → bool_part vars (bools.Call f a b) ≡ applied_to_two (functions.Bool f) (bool_part vars a) (bool_part vars b)
bool_call vars f a b = ap (bool_part vars) (sym (bools_rolls-Call f a b)) ∙ fold-roll-BTerm Part (bool_level vars) (BTerm-F.Call f a b)

-- ---- formulas

pub formula_true : (vars : List Bound) → formula_part vars formulas.True ≡ leaf (codes "True")
formula_true vars = ap (formula_part vars) (sym formulas_rolls-True) ∙ fold-roll-Formula Part (formula_level vars) Formula-F.True

pub formula_false : (vars : List Bound) → formula_part vars formulas.False ≡ leaf (codes "False")
formula_false vars = ap (formula_part vars) (sym formulas_rolls-False) ∙ fold-roll-Formula Part (formula_level vars) Formula-F.False

pub formula_atom : (vars : List Bound) (c : Cmp) (t : Term) (u : Term) → formula_part vars (formulas.Atom c t u) ≡ joined (cmp_sign c) (term_part vars t) (term_part vars u)
formula_atom vars c t u = ap (formula_part vars) (sym (formulas_rolls-Atom c t u)) ∙ fold-roll-Formula Part (formula_level vars) (Formula-F.Atom c t u)

pub formula_chain : (vars : List Bound) (t : Term) (c : Cmp) (u : Term) (d : Cmp) (v : Term) → formula_part vars (formulas.Chain t c u d v) ≡ chained (cmp_sign c) (cmp_sign d) (term_part vars t) (term_part vars u) (term_part vars v)
formula_chain vars t c u d v = ap (formula_part vars) (sym (formulas_rolls-Chain t c u d v)) ∙ fold-roll-Formula Part (formula_level vars) (Formula-F.Chain t c u d v)

pub formula_same : (vars : List Bound) (b : BTerm) (c : BTerm) → formula_part vars (formulas.Same b c) ≡ joined signs.Eq (bool_part vars b) (bool_part vars c)
formula_same vars b c = ap (formula_part vars) (sym (formulas_rolls-Same b c)) ∙ fold-roll-Formula Part (formula_level vars) (Formula-F.Same b c)

pub formula_differ : (vars : List Bound) (b : BTerm) (c : BTerm) → formula_part vars (formulas.Differ b c) ≡ joined signs.Ne (bool_part vars b) (bool_part vars c)
formula_differ vars b c = ap (formula_part vars) (sym (formulas_rolls-Differ b c)) ∙ fold-roll-Formula Part (formula_level vars) (Formula-F.Differ b c)

pub formula_not : (vars : List Bound) (f : Formula) → formula_part vars (formulas.Not f) ≡ prefixed signs.Not (formula_part vars f)
formula_not vars f = ap (formula_part vars) (sym (formulas_rolls-Not f)) ∙ fold-roll-Formula Part (formula_level vars) (Formula-F.Not f)

pub formula_and : (vars : List Bound) (f : Formula) (g : Formula) → formula_part vars (formulas.And f g) ≡ joined signs.And (formula_part vars f) (formula_part vars g)
formula_and vars f g = ap (formula_part vars) (sym (formulas_rolls-And f g)) ∙ fold-roll-Formula Part (formula_level vars) (Formula-F.And f g)

pub formula_or : (vars : List Bound) (f : Formula) (g : Formula) → formula_part vars (formulas.Or f g) ≡ joined signs.Or (formula_part vars f) (formula_part vars g)
formula_or vars f g = ap (formula_part vars) (sym (formulas_rolls-Or f g)) ∙ fold-roll-Formula Part (formula_level vars) (Formula-F.Or f g)

pub formula_imp : (vars : List Bound) (f : Formula) (g : Formula) → formula_part vars (formulas.Imp f g) ≡ joined signs.Arrow (formula_part vars f) (formula_part vars g)
formula_imp vars f g = ap (formula_part vars) (sym (formulas_rolls-Imp f g)) ∙ fold-roll-Formula Part (formula_level vars) (Formula-F.Imp f g)

pub formula_iff : (vars : List Bound) (f : Formula) (g : Formula) → formula_part vars (formulas.Iff f g) ≡ joined signs.Iff (formula_part vars f) (formula_part vars g)
formula_iff vars f g = ap (formula_part vars) (sym (formulas_rolls-Iff f g)) ∙ fold-roll-Formula Part (formula_level vars) (Formula-F.Iff f g)

-- ---- the sort of subtractions

abbrev SamePart : List Bound → Term → Type 0
SamePart vars t = (s : Sort) → term_part vars (with_sort s t) ≡ term_part vars t

abbrev Known : List Bound → Type 0
Known vars = (t : Term) × SamePart vars t

abbrev terms_of : (vars : List Bound) → Term-F (Known vars) → Term-F Term
terms_of vars y = map-Term (Known vars) Term (λ p. p.0) y

two_same : (f : Part → Part → Part) (a b c d : Part) → a ≡ c → b ≡ d → f a b ≡ f c d
two_same f a b c d p q = cc

same_step : (vars : List Bound) (s : Sort) (y : Term-F (Known vars)) → term_part vars (with_sort_level s (map-Term Term Term (with_sort s) (terms_of vars y))) ≡ term_level vars (map-Term Term Part (term_part vars) (terms_of vars y))
same_step vars s (Term-F.Lit n) = term_lit vars n
same_step vars s (Term-F.Var v) = term_var vars v
same_step vars s (Term-F.Neg a) = term_neg vars (with_sort s a.0) ∙ ap (prefixed signs.Minus) (a.1 s)
same_step vars s (Term-F.Add a b) = term_add vars (with_sort s a.0) (with_sort s b.0) ∙ two_same (joined signs.Plus) _ _ _ _ (a.1 s) (b.1 s)
same_step vars s (Term-F.Sub r a b) = term_sub vars s (with_sort s a.0) (with_sort s b.0) ∙ two_same (joined signs.Minus) _ _ _ _ (a.1 s) (b.1 s)
same_step vars s (Term-F.Mul a b) = term_mul vars (with_sort s a.0) (with_sort s b.0) ∙ two_same (joined signs.Times) _ _ _ _ (a.1 s) (b.1 s)
same_step vars s (Term-F.Pow a k) = term_pow vars (with_sort s a.0) k ∙ ap (λ (p : Part). joined signs.Power p (number k)) (a.1 s)
same_step vars s (Term-F.Div a k) = term_div vars (with_sort s a.0) k ∙ ap (λ (p : Part). joined signs.Divide p (number k)) (a.1 s)
same_step vars s (Term-F.Rem a k) = term_rem vars (with_sort s a.0) k ∙ ap (λ (p : Part). joined signs.Mod p (number k)) (a.1 s)
same_step vars s (Term-F.Call1 f a) = term_call1 vars f (with_sort s a.0) ∙ ap (applied (functions.One f)) (a.1 s)
same_step vars s (Term-F.Call2 f a b) = term_call2 vars f (with_sort s a.0) (with_sort s b.0) ∙ two_same (applied_to_two (functions.Two f)) _ _ _ _ (a.1 s) (b.1 s)

pub part_with_sort : (vars : List Bound) (t : Term) (s : Sort) → term_part vars (with_sort s t) ≡ term_part vars t
part_with_sort vars = ind-Term (SamePart vars) (λ d y q. subst (λ (z : Term-F Term). SamePart vars (roll-Term z)) q (step y))
  where
    step : (y : Term-F (Known vars)) → SamePart vars (roll-Term (terms_of vars y))
    step y s = ap (term_part vars) (fold-roll-Term Term (with_sort_level s) (terms_of vars y)) ∙ same_step vars s y ∙ sym (fold-roll-Term Part (term_level vars) (terms_of vars y))

-- a number's text doesn't show the kind that it has in another
pub part_within : (vars : List Bound) (m k : Kind) (t : Term) → term_part vars (within m k t) ≡ term_part vars t
part_within vars (free d z) k t = refl
part_within vars (fixed s) (free d z) t = part_with_sort vars t s
part_within vars (fixed s) (fixed r) t = refl
