-- The operands of a goal's operations are in scope of its table.
use Rattle.std.specs.Prelude.{◌≡◌, List, [], ◌∷◌, ◌++◌, Bool, true, false, not, refl}
use Rattle.std.specs.List.{AllByRecursion}
use Rattle.std.proofs.Common.{sym, ◌∙◌, subst}
use Rattle.std.proofs.lemmas.Bool.{and_parts}
use Rattle.goal_ast.specs.declared.term.Sort.{Sort}
use Rattle.goal_ast.specs.declared.term.Sort.TheVariants as sorts
use Rattle.goal_ast.specs.declared.term.Fn1.{Fn1}
use Rattle.goal_ast.specs.declared.term.Term.{Term}
use Rattle.goal_ast.specs.declared.term.Term.TheVariants as terms
use Rattle.goal_ast.specs.declared.term.Term.TheOpen.{Term-F}
use Rattle.goal_ast.specs.declared.term.Term.TheViews.{roll-Term}
use Rattle.goal_ast.specs.declared.term.Term.TheFolds.{map-Term, fold-roll-Term, para-roll-Term, ind-Term}
use Rattle.goal_ast.specs.declared.formula.BTerm.{BTerm}
use Rattle.goal_ast.specs.declared.formula.BTerm.TheOpen.{BTerm-F}
use Rattle.goal_ast.specs.declared.formula.BTerm.TheViews.{roll-BTerm}
use Rattle.goal_ast.specs.declared.formula.BTerm.TheFolds.{map-BTerm, fold-roll-BTerm, ind-BTerm}
use Rattle.goal_ast.specs.declared.formula.Formula.{Formula}
use Rattle.goal_ast.specs.declared.formula.Formula.TheOpen.{Formula-F}
use Rattle.goal_ast.specs.declared.formula.Formula.TheViews.{roll-Formula}
use Rattle.goal_ast.specs.declared.formula.Formula.TheFolds.{map-Formula, fold-roll-Formula, ind-Formula}
use Rattle.goal_ast.specs.Variables.{variable_level, names_below, bool_variable_level, bool_names_below, formula_variable_level, formula_names_below}
use Rattle.goal_ast.specs.Divisors.{divisor_level, divisors_fit, bool_divisor_level, bool_divisors_fit, formula_divisor_level, formula_divisors_fit}
use Rattle.goal_ast.specs.Equality.{parts_of}
use Rattle.zify.specs.Operations.{is_plain, has_variable, where_true, operations_level, operations, bool_operations_level, bool_operations, formula_operations_level, formula_operations}
use Rattle.zify.specs.Translation.{Table}
use Rattle.zify.proofs.ConditionLaws.{defined}
use Rattle.zify.proofs.TableLaws.{InTable}
use Rattle.zify.proofs.AgreementLaws.{InScope, BoolInScope, FormulaInScope, in_scope, pair_scope, three_scope, bool_in_scope, bools_scope, formula_in_scope, formulas_scope}
use Rattle.mm_num.proofs.ListLaws.{all_join, all_split}

-- a term is an operation, whose operands are in scope
pub record Ready (e : Table) (t : Term) : Type 0 where
  pub node : Term-F Term
  pub rolled : roll-Term node ≡ t
  pub defines : defined node ≡ true
  pub parts : AllByRecursion (InScope e) (parts_of node)

abbrev AllReady : Table → List Term → Type 0
AllReady e ts = AllByRecursion (Ready e) ts

both_ready : (e : Table) (ts us : List Term) → AllReady e ts → AllReady e us → AllReady e (ts ++ us)
both_ready e ts us h k = all_join (Ready e) ts us h k

difference_ready : (e : Table) (s : Sort) (a b : Term) → InScope e a → InScope e b → AllReady e (where_true (not (is_plain s)) (terms.Sub s a b))
difference_ready e sorts.Int a b i j = tt
difference_ready e sorts.Bool a b i j = tt
difference_ready e sorts.Bin a b i j = (record { node = Term-F.Sub sorts.Bin a b; rolled = terms.rolls-Sub sorts.Bin a b; defines = refl; parts = (i, (j, tt)) }, tt)
difference_ready e sorts.Nat a b i j = (record { node = Term-F.Sub sorts.Nat a b; rolled = terms.rolls-Sub sorts.Nat a b; defines = refl; parts = (i, (j, tt)) }, tt)
difference_ready e sorts.Pos a b i j = (record { node = Term-F.Sub sorts.Pos a b; rolled = terms.rolls-Sub sorts.Pos a b; defines = refl; parts = (i, (j, tt)) }, tt)

call_ready : (e : Table) (f : Fn1) (a : Term) (b : Bool) → has_variable f ≡ b → InScope e a → AllReady e (where_true b (terms.Call1 f a))
call_ready e f a true h i = (record { node = Term-F.Call1 f a; rolled = terms.rolls-Call1 f a; defines = h; parts = (i, tt) }, tt)
call_ready e f a false h i = tt

abbrev TermReady : Table → Term → Type 0
TermReady e t = InScope e t → AllReady e (operations t)

abbrev Known : Table → Type 0
Known e = (t : Term) × TermReady e t

abbrev terms_in : (e : Table) → Term-F (Known e) → Term-F Term
terms_in e k = map-Term (Known e) Term (λ p. p.0) k

pair_ready : (e : Table) (a b : Known e) → InScope e a.0 × InScope e b.0 → AllReady e (operations a.0 ++ operations b.0)
pair_ready e a b s = both_ready e (operations a.0) (operations b.0) (a.1 s.0) (b.1 s.1)

level : (e : Table) (k : Term-F (Known e))
    → AllByRecursion (InTable e) (operations_level (map-Term Term (Term × List Term) (λ t. (t, operations t)) (terms_in e k)))
    → variable_level e.bound (map-Term Term Bool (names_below e.bound) (terms_in e k)) ≡ true → divisor_level (map-Term Term Bool divisors_fit (terms_in e k)) ≡ true
    → AllReady e (operations_level (map-Term Term (Term × List Term) (λ t. (t, operations t)) (terms_in e k)))
level e (Term-F.Lit n) h v d = tt
level e (Term-F.Var i) h v d = tt
level e (Term-F.Neg a) h v d = a.1 (in_scope e a.0 h v d)
level e (Term-F.Add a b) h v d = pair_ready e a b (pair_scope e a.0 b.0 h v d)
level e (Term-F.Sub s a b) h v d =
    let p = all_split (InTable e) (operations a.0 ++ operations b.0) (where_true (not (is_plain s)) (terms.Sub s a.0 b.0)) h in
    let q = pair_scope e a.0 b.0 p.0 v d in
    both_ready e (operations a.0 ++ operations b.0) (where_true (not (is_plain s)) (terms.Sub s a.0 b.0)) (pair_ready e a b q) (difference_ready e s a.0 b.0 q.0 q.1)
level e (Term-F.Mul a b) h v d = pair_ready e a b (pair_scope e a.0 b.0 h v d)
level e (Term-F.Pow a k) h v d = a.1 (in_scope e a.0 h v d)
level e (Term-F.Div a k) h v d =
    let p = all_split (InTable e) (operations a.0) (terms.Div a.0 k ∷ []) h in
    let r = and_parts _ _ d in
    let i = in_scope e a.0 p.0 v r.0 in
    both_ready e (operations a.0) (terms.Div a.0 k ∷ []) (a.1 i) (record { node = Term-F.Div a.0 k; rolled = terms.rolls-Div a.0 k; defines = r.1; parts = (i, tt) }, tt)
level e (Term-F.Rem a k) h v d =
    let p = all_split (InTable e) (operations a.0) (terms.Div a.0 k ∷ []) h in
    let r = and_parts _ _ d in
    let i = in_scope e a.0 p.0 v r.0 in
    both_ready e (operations a.0) (terms.Div a.0 k ∷ []) (a.1 i) (record { node = Term-F.Div a.0 k; rolled = terms.rolls-Div a.0 k; defines = r.1; parts = (i, tt) }, tt)
level e (Term-F.Call1 f a) h v d =
    let p = all_split (InTable e) (operations a.0) (where_true (has_variable f) (terms.Call1 f a.0)) h in
    let i = in_scope e a.0 p.0 v d in
    both_ready e (operations a.0) (where_true (has_variable f) (terms.Call1 f a.0)) (a.1 i) (call_ready e f a.0 (has_variable f) refl i)
level e (Term-F.Call2 f a b) h v d =
    let p = all_split (InTable e) (operations a.0 ++ operations b.0) (terms.Call2 f a.0 b.0 ∷ []) h in
    let q = pair_scope e a.0 b.0 p.0 v d in
    both_ready e (operations a.0 ++ operations b.0) (terms.Call2 f a.0 b.0 ∷ []) (pair_ready e a b q)
    (record { node = Term-F.Call2 f a.0 b.0; rolled = terms.rolls-Call2 f a.0 b.0; defines = refl; parts = (q.0, (q.1, tt)) }, tt)

pub term_ready : (e : Table) (t : Term) → TermReady e t
term_ready e = ind-Term (TermReady e) (λ d k q. subst (λ (z : Term-F Term). TermReady e (roll-Term z)) q (step k))
  where
    step : (k : Term-F (Known e)) → TermReady e (roll-Term (terms_in e k))
    step k s =
        let d = terms_in e k in
        let o = para-roll-Term (List Term) operations_level d in
        let n = fold-roll-Term Bool (variable_level e.bound) d in
        let f = fold-roll-Term Bool divisor_level d in
        subst (AllReady e) (sym o) (level e k (subst (AllByRecursion (InTable e)) o s.operations) (sym n ∙ s.named) (sym f ∙ s.divisors))

terms_ready : (e : Table) (t u : Term) → InScope e t × InScope e u → AllReady e (operations t ++ operations u)
terms_ready e t u s = both_ready e (operations t) (operations u) (term_ready e t s.0) (term_ready e u s.1)

abbrev BoolReady : Table → BTerm → Type 0
BoolReady e b = BoolInScope e b → AllReady e (bool_operations b)

abbrev KnownBool : Table → Type 0
KnownBool e = (b : BTerm) × BoolReady e b

abbrev bools_in : (e : Table) → BTerm-F (KnownBool e) → BTerm-F BTerm
bools_in e k = map-BTerm (KnownBool e) BTerm (λ p. p.0) k

bool_pair : (e : Table) (a b : KnownBool e) → BoolInScope e a.0 × BoolInScope e b.0 → AllReady e (bool_operations a.0 ++ bool_operations b.0)
bool_pair e a b s = both_ready e (bool_operations a.0) (bool_operations b.0) (a.1 s.0) (b.1 s.1)

bool_step : (e : Table) (k : BTerm-F (KnownBool e))
    → AllByRecursion (InTable e) (bool_operations_level (map-BTerm BTerm (List Term) bool_operations (bools_in e k)))
    → bool_variable_level e.bound (map-BTerm BTerm Bool (bool_names_below e.bound) (bools_in e k)) ≡ true → bool_divisor_level (map-BTerm BTerm Bool bool_divisors_fit (bools_in e k)) ≡ true
    → AllReady e (bool_operations_level (map-BTerm BTerm (List Term) bool_operations (bools_in e k)))
bool_step e BTerm-F.True h n d = tt
bool_step e BTerm-F.False h n d = tt
bool_step e (BTerm-F.Var v) h n d = tt
bool_step e (BTerm-F.Test c t u) h n d = terms_ready e t u (pair_scope e t u h n d)
bool_step e (BTerm-F.Not a) h n d = a.1 (bool_in_scope e a.0 h n d)
bool_step e (BTerm-F.And a b) h n d = bool_pair e a b (bools_scope e a.0 b.0 h n d)
bool_step e (BTerm-F.Or a b) h n d = bool_pair e a b (bools_scope e a.0 b.0 h n d)
bool_step e (BTerm-F.Call f a b) h n d = bool_pair e a b (bools_scope e a.0 b.0 h n d)

pub bool_ready : (e : Table) (b : BTerm) → BoolReady e b
bool_ready e = ind-BTerm (BoolReady e) (λ d k q. subst (λ (z : BTerm-F BTerm). BoolReady e (roll-BTerm z)) q (step k))
  where
    step : (k : BTerm-F (KnownBool e)) → BoolReady e (roll-BTerm (bools_in e k))
    step k s =
        let d = bools_in e k in
        let o = fold-roll-BTerm (List Term) bool_operations_level d in
        let n = fold-roll-BTerm Bool (bool_variable_level e.bound) d in
        let f = fold-roll-BTerm Bool bool_divisor_level d in
        subst (AllReady e) (sym o) (bool_step e k (subst (AllByRecursion (InTable e)) o s.operations) (sym n ∙ s.named) (sym f ∙ s.divisors))

bools_ready : (e : Table) (a b : BTerm) → BoolInScope e a × BoolInScope e b → AllReady e (bool_operations a ++ bool_operations b)
bools_ready e a b s = both_ready e (bool_operations a) (bool_operations b) (bool_ready e a s.0) (bool_ready e b s.1)

abbrev FormulaReady : Table → Formula → Type 0
FormulaReady e f = FormulaInScope e f → AllReady e (formula_operations f)

abbrev KnownFormula : Table → Type 0
KnownFormula e = (f : Formula) × FormulaReady e f

abbrev formulas_in : (e : Table) → Formula-F (KnownFormula e) → Formula-F Formula
formulas_in e k = map-Formula (KnownFormula e) Formula (λ p. p.0) k

formula_pair : (e : Table) (f g : KnownFormula e) → FormulaInScope e f.0 × FormulaInScope e g.0 → AllReady e (formula_operations f.0 ++ formula_operations g.0)
formula_pair e f g s = both_ready e (formula_operations f.0) (formula_operations g.0) (f.1 s.0) (g.1 s.1)

formula_step : (e : Table) (k : Formula-F (KnownFormula e))
    → AllByRecursion (InTable e) (formula_operations_level (map-Formula Formula (List Term) formula_operations (formulas_in e k)))
    → formula_variable_level e.bound (map-Formula Formula Bool (formula_names_below e.bound) (formulas_in e k)) ≡ true → formula_divisor_level (map-Formula Formula Bool formula_divisors_fit (formulas_in e k)) ≡ true
    → AllReady e (formula_operations_level (map-Formula Formula (List Term) formula_operations (formulas_in e k)))
formula_step e Formula-F.True h n d = tt
formula_step e Formula-F.False h n d = tt
formula_step e (Formula-F.Atom c t u) h n d = terms_ready e t u (pair_scope e t u h n d)
formula_step e (Formula-F.Chain t b u c v) h n d =
    let s = three_scope e t u v h n d in
    both_ready e (operations t) (operations u ++ operations v) (term_ready e t s.0) (terms_ready e u v s.1)
formula_step e (Formula-F.Same b c) h n d = bools_ready e b c (bools_scope e b c h n d)
formula_step e (Formula-F.Differ b c) h n d = bools_ready e b c (bools_scope e b c h n d)
formula_step e (Formula-F.Not f) h n d = f.1 (formula_in_scope e f.0 h n d)
formula_step e (Formula-F.And f g) h n d = formula_pair e f g (formulas_scope e f.0 g.0 h n d)
formula_step e (Formula-F.Or f g) h n d = formula_pair e f g (formulas_scope e f.0 g.0 h n d)
formula_step e (Formula-F.Imp f g) h n d = formula_pair e f g (formulas_scope e f.0 g.0 h n d)
formula_step e (Formula-F.Iff f g) h n d = formula_pair e f g (formulas_scope e f.0 g.0 h n d)

pub formula_ready : (e : Table) (f : Formula) → FormulaReady e f
formula_ready e = ind-Formula (FormulaReady e) (λ d k q. subst (λ (z : Formula-F Formula). FormulaReady e (roll-Formula z)) q (step k))
  where
    step : (k : Formula-F (KnownFormula e)) → FormulaReady e (roll-Formula (formulas_in e k))
    step k s =
        let d = formulas_in e k in
        let o = fold-roll-Formula (List Term) formula_operations_level d in
        let n = fold-roll-Formula Bool (formula_variable_level e.bound) d in
        let f = fold-roll-Formula Bool formula_divisor_level d in
        subst (AllReady e) (sym o) (formula_step e k (subst (AllByRecursion (InTable e)) o s.operations) (sym n ∙ s.named) (sym f ∙ s.divisors))
