-- The walk over a formula finds its translation, and its operations at their first places.
use Rattle.std.specs.Prelude.{◌≡◌, List, [], ◌++◌, refl}
use Rattle.std.proofs.Common.{ap, sym, subst}
use Rattle.goal_ast.specs.declared.term.Term.{Term}
use Rattle.goal_ast.specs.declared.formula.Cmp.{Cmp}
use Rattle.goal_ast.specs.declared.formula.BTerm.{BTerm}
use Rattle.goal_ast.specs.declared.formula.BTerm.TheOpen.{BTerm-F}
use Rattle.goal_ast.specs.declared.formula.BTerm.TheViews.{roll-BTerm}
use Rattle.goal_ast.specs.declared.formula.BTerm.TheFolds.{map-BTerm, fold-roll-BTerm, ind-BTerm}
use Rattle.goal_ast.specs.declared.formula.Formula.{Formula}
use Rattle.goal_ast.specs.declared.formula.Formula.TheOpen.{Formula-F}
use Rattle.goal_ast.specs.declared.formula.Formula.TheViews.{roll-Formula}
use Rattle.goal_ast.specs.declared.formula.Formula.TheFolds.{map-Formula, fold-roll-Formula, ind-Formula}
use Rattle.goal_ast.proofs.CountingLaws.{both_same}
use Rattle.zify.specs.declared.form.ZForm.{ZForm}
use Rattle.zify.specs.declared.form.ZForm.TheVariants as forms
use Rattle.zify.specs.Operations.{operations, bool_operations_level, bool_operations, formula_operations_level, formula_operations, firsts}
use Rattle.zify.specs.Translation.{Table, term_of, cmp_of, call_form, bool_form_level, bool_form_of, form_level, form_of}
use Rattle.zify.specs.machine.Table.{State}
use Rattle.zify.specs.machine.Walking.{walk, Formed, FormWalk, compared, paired, negated, chain, bool_walk_level, bool_walk, formula_walk_level, formula_walk}
use Rattle.zify.proofs.NumberLaws.{Keeps, firsts_join}
use Rattle.zify.proofs.WalkLaws.{Represents, keeps_front, keeps_back, two_walked, term_walked}

pub record Forms (e : Table) (start : List ZForm) (ops : List Term) (f : ZForm) (w : Formed) : Type 0 where
  pub after : List Term
  pub form : w.form ≡ f
  pub state : Represents e start after ops w.state

-- a walk finds this translation and these operations
abbrev pub IsFormed : Table → List ZForm → FormWalk → List Term → ZForm → Type 0
IsFormed e start x xs f = (seen ops : List Term) (s : State) → Represents e start seen ops s → Keeps (firsts ops xs) e.operations → Forms e start (firsts ops xs) f (x s)

constant_formed : (e : Table) (start : List ZForm) (f : ZForm) → IsFormed e start (λ s. record { form = f; state = s }) [] f
constant_formed e start f seen ops s w k = record { after = seen; form = refl; state = w }

compared_formed : (e : Table) (start : List ZForm) (c : Cmp) (t u : Term) → IsFormed e start (compared e.bound c t u) (operations t ++ operations u) (forms.Atom c (term_of e t) (term_of e u))
compared_formed e start c t u seen ops s w k =
    let f = two_walked e start t u (term_walked e start t) (term_walked e start u) seen ops s w k in
    record { after = f.after; form = both_same (λ x y. forms.Atom c x y) _ _ _ _ f.term_left f.term_right; state = f.state }

paired_formed : (e : Table) (start : List ZForm) (j : ZForm → ZForm → ZForm) (x y : FormWalk) (xs ys : List Term) (f g : ZForm) → IsFormed e start x xs f → IsFormed e start y ys g → IsFormed e start (paired j x y) (xs ++ ys) (j f g)
paired_formed e start j x y xs ys f g p q seen ops s w k =
    let a = p seen ops s w (keeps_front ops xs ys e.operations k) in
    let b = q a.after (firsts ops xs) (x s).state a.state (keeps_back ops xs ys e.operations k) in
    record {
      after = b.after;
      form = both_same j _ _ _ _ a.form b.form;
      state = subst (λ o. Represents e start b.after o (y (x s).state).state) (sym (firsts_join ops xs ys)) b.state;
    }

negated_formed : (e : Table) (start : List ZForm) (x : FormWalk) (xs : List Term) (f : ZForm) → IsFormed e start x xs f → IsFormed e start (negated x) xs (forms.Not f)
negated_formed e start x xs f p seen ops s w k =
    let a = p seen ops s w k in
    record { after = a.after; form = ap (λ g. forms.Not g) a.form; state = a.state }

chain_formed : (e : Table) (start : List ZForm) (t : Term) (c : Cmp) (u : Term) (d : Cmp) (v : Term)
    → IsFormed e start (chain e.bound t c u d v) (operations t ++ (operations u ++ operations v)) (forms.And (forms.Atom c (term_of e t) (term_of e u)) (forms.Atom d (term_of e u) (term_of e v)))
chain_formed e start t c u d v seen ops s w k =
    let p = walk e.bound t s in
    let q = walk e.bound u p.state in
    let r = walk e.bound v q.state in
    let us = operations u ++ operations v in
    let a = term_walked e start t seen ops s w (keeps_front ops (operations t) us e.operations k) in
    let b = two_walked e start u v (term_walked e start u) (term_walked e start v) a.after (firsts ops (operations t)) p.state a.state (keeps_back ops (operations t) us e.operations k) in
    record {
      after = b.after;
      form = both_same (λ x y. forms.And x y) _ _ _ _ (both_same (λ x y. forms.Atom c x y) _ _ _ _ a.term b.term_left) (both_same (λ x y. forms.Atom d x y) _ _ _ _ b.term_left b.term_right);
      state = subst (λ o. Represents e start b.after o r.state) (sym (firsts_join ops (operations t) us)) b.state;
    }

formed_moved : (e : Table) (start : List ZForm) (x y : FormWalk) (xs ys : List Term) (f g : ZForm) → x ≡ y → xs ≡ ys → f ≡ g → IsFormed e start y ys g → IsFormed e start x xs f
formed_moved e start x y xs ys f g i j k h =
    subst (λ (z : FormWalk). IsFormed e start z xs f) (sym i) (subst (λ (zs : List Term). IsFormed e start y zs f) (sym j) (subst (λ (z : ZForm). IsFormed e start y ys z) (sym k) h))

abbrev IsBoolFormed : Table → List ZForm → BTerm → Type 0
IsBoolFormed e start b = IsFormed e start (bool_walk e.bound b) (bool_operations b) (bool_form_of e b)

abbrev KnownBool : Table → List ZForm → Type 0
KnownBool e start = (b : BTerm) × IsBoolFormed e start b

abbrev bools_in : (e : Table) (start : List ZForm) → BTerm-F (KnownBool e start) → BTerm-F BTerm
bools_in e start k = map-BTerm (KnownBool e start) BTerm (λ p. p.0) k

bool_step : (e : Table) (start : List ZForm) (k : BTerm-F (KnownBool e start)) → IsFormed e start (bool_walk_level e.bound (map-BTerm BTerm FormWalk (bool_walk e.bound) (bools_in e start k)))
    (bool_operations_level (map-BTerm BTerm (List Term) bool_operations (bools_in e start k))) (bool_form_level e (map-BTerm BTerm ZForm (bool_form_of e) (bools_in e start k)))
bool_step e start BTerm-F.True = constant_formed e start _
bool_step e start BTerm-F.False = constant_formed e start _
bool_step e start (BTerm-F.Var v) = constant_formed e start _
bool_step e start (BTerm-F.Test c t u) = compared_formed e start (cmp_of c) t u
bool_step e start (BTerm-F.Not a) = negated_formed e start (bool_walk e.bound a.0) (bool_operations a.0) (bool_form_of e a.0) a.1
bool_step e start (BTerm-F.And a b) = paired_formed e start (λ f g. forms.And f g) (bool_walk e.bound a.0) (bool_walk e.bound b.0) (bool_operations a.0) (bool_operations b.0) (bool_form_of e a.0) (bool_form_of e b.0) a.1 b.1
bool_step e start (BTerm-F.Or a b) = paired_formed e start (λ f g. forms.Or f g) (bool_walk e.bound a.0) (bool_walk e.bound b.0) (bool_operations a.0) (bool_operations b.0) (bool_form_of e a.0) (bool_form_of e b.0) a.1 b.1
bool_step e start (BTerm-F.Call c a b) = paired_formed e start (call_form c) (bool_walk e.bound a.0) (bool_walk e.bound b.0) (bool_operations a.0) (bool_operations b.0) (bool_form_of e a.0) (bool_form_of e b.0) a.1 b.1

pub bool_formed : (e : Table) (start : List ZForm) (b : BTerm) → IsBoolFormed e start b
bool_formed e start = ind-BTerm (IsBoolFormed e start) (λ d k q. subst (λ (z : BTerm-F BTerm). IsBoolFormed e start (roll-BTerm z)) q (step k))
  where
    step : (k : BTerm-F (KnownBool e start)) → IsBoolFormed e start (roll-BTerm (bools_in e start k))
    step k =
        let d = bools_in e start k in
        formed_moved e start _ _ _ _ _ _ (fold-roll-BTerm FormWalk (bool_walk_level e.bound) d) (fold-roll-BTerm (List Term) bool_operations_level d) (fold-roll-BTerm ZForm (bool_form_level e) d) (bool_step e start k)

abbrev pub IsFormulaFormed : Table → List ZForm → Formula → Type 0
IsFormulaFormed e start f = IsFormed e start (formula_walk e.bound f) (formula_operations f) (form_of e f)

abbrev KnownFormula : Table → List ZForm → Type 0
KnownFormula e start = (f : Formula) × IsFormulaFormed e start f

abbrev formulas_in : (e : Table) (start : List ZForm) → Formula-F (KnownFormula e start) → Formula-F Formula
formulas_in e start k = map-Formula (KnownFormula e start) Formula (λ p. p.0) k

bools_formed : (e : Table) (start : List ZForm) (b c : BTerm) → IsFormed e start (paired (λ f g. forms.Iff f g) (bool_walk e.bound b) (bool_walk e.bound c)) (bool_operations b ++ bool_operations c) (forms.Iff (bool_form_of e b) (bool_form_of e c))
bools_formed e start b c = paired_formed e start (λ f g. forms.Iff f g) (bool_walk e.bound b) (bool_walk e.bound c) (bool_operations b) (bool_operations c) (bool_form_of e b) (bool_form_of e c) (bool_formed e start b) (bool_formed e start c)

formulas_formed : (e : Table) (start : List ZForm) (j : ZForm → ZForm → ZForm) (f g : KnownFormula e start)
    → IsFormed e start (paired j (formula_walk e.bound f.0) (formula_walk e.bound g.0)) (formula_operations f.0 ++ formula_operations g.0) (j (form_of e f.0) (form_of e g.0))
formulas_formed e start j f g = paired_formed e start j (formula_walk e.bound f.0) (formula_walk e.bound g.0) (formula_operations f.0) (formula_operations g.0) (form_of e f.0) (form_of e g.0) f.1 g.1

formula_step : (e : Table) (start : List ZForm) (k : Formula-F (KnownFormula e start)) → IsFormed e start (formula_walk_level e.bound (map-Formula Formula FormWalk (formula_walk e.bound) (formulas_in e start k)))
    (formula_operations_level (map-Formula Formula (List Term) formula_operations (formulas_in e start k))) (form_level e (map-Formula Formula ZForm (form_of e) (formulas_in e start k)))
formula_step e start Formula-F.True = constant_formed e start _
formula_step e start Formula-F.False = constant_formed e start _
formula_step e start (Formula-F.Atom c t u) = compared_formed e start c t u
formula_step e start (Formula-F.Chain t c u d v) = chain_formed e start t c u d v
formula_step e start (Formula-F.Same b c) = bools_formed e start b c
formula_step e start (Formula-F.Differ b c) = negated_formed e start _ (bool_operations b ++ bool_operations c) (forms.Iff (bool_form_of e b) (bool_form_of e c)) (bools_formed e start b c)
formula_step e start (Formula-F.Not f) = negated_formed e start (formula_walk e.bound f.0) (formula_operations f.0) (form_of e f.0) f.1
formula_step e start (Formula-F.And f g) = formulas_formed e start (λ x y. forms.And x y) f g
formula_step e start (Formula-F.Or f g) = formulas_formed e start (λ x y. forms.Or x y) f g
formula_step e start (Formula-F.Imp f g) = formulas_formed e start (λ x y. forms.Imp x y) f g
formula_step e start (Formula-F.Iff f g) = formulas_formed e start (λ x y. forms.Iff x y) f g

pub formula_formed : (e : Table) (start : List ZForm) (f : Formula) → IsFormulaFormed e start f
formula_formed e start = ind-Formula (IsFormulaFormed e start) (λ d k q. subst (λ (z : Formula-F Formula). IsFormulaFormed e start (roll-Formula z)) q (step k))
  where
    step : (k : Formula-F (KnownFormula e start)) → IsFormulaFormed e start (roll-Formula (formulas_in e start k))
    step k =
        let d = formulas_in e start k in
        formed_moved e start _ _ _ _ _ _ (fold-roll-Formula FormWalk (formula_walk_level e.bound) d) (fold-roll-Formula (List Term) formula_operations_level d) (fold-roll-Formula ZForm (form_level e) d) (formula_step e start k)
