-- A goal is valid exactly where its translation is.
use Rattle.std.specs.Prelude.{◌≡◌, ◌↔◌, ℕ, zero, suc, ◌+◌, ◌<◌, ℤ, List, [], ◌∷◌, length, map, true, refl, Some, slice_get}
use Rattle.std.specs.List.{AllByRecursion}
use Rattle.std.proofs.Common.{ap, sym, ◌∙◌, subst, arith}
use Rattle.std.proofs.lemmas.List.{length-map}
use Rattle.goal_ast.specs.declared.term.Sort.{Sort}
use Rattle.goal_ast.specs.declared.term.Term.{Term}
use Rattle.goal_ast.specs.declared.term.Term.TheOpen.{Term-F}
use Rattle.goal_ast.specs.declared.term.Term.TheViews.{roll-Term, out-Term, out-roll-Term}
use Rattle.goal_ast.specs.declared.term.Term.TheFolds.{map-Term, fold-roll-Term}
use Rattle.goal_ast.specs.declared.goal.Bound.{Bound}
use Rattle.goal_ast.specs.declared.goal.Goal.{Goal}
use Rattle.goal_ast.specs.Truth.{Point, value_level, value_of, truth_of}
use Rattle.goal_ast.specs.Range.{IsInSort, sorts_of, SuitsSorts, IsValid}
use Rattle.goal_ast.specs.Sorted.{IsWellFormed}
use Rattle.goal_ast.specs.Equality.{parts_of}
use Rattle.goal_ast.proofs.CountingLaws.{both_same}
use Rattle.goal_ast.proofs.SortedLaws.{goal_fits}
use Rattle.goal_ast.proofs.VariableLaws.{goal_named}
use Rattle.zify.specs.declared.term.ZTerm.{ZTerm}
use Rattle.zify.specs.Truth.{z_value_of, z_truth_of, HoldsTranslated, IsValidTranslated}
use Rattle.zify.specs.Operations.{formula_operations, distinct_operations}
use Rattle.zify.specs.Translation.{Table, number_of, variable_of, term_of, condition_level, condition_of, ranges_from, table_of, translated}
use Rattle.zify.proofs.ListLaws.{all_of_map, all_by}
use Rattle.zify.proofs.ValueLaws.{value_variable}
use Rattle.zify.proofs.ConditionLaws.{meets, condition_tests, defined, meets_exactly}
use Rattle.zify.proofs.TableLaws.{InTable, all_has, firsts_has, all_firsts, extended, extended_below, extended_at}
use Rattle.zify.proofs.AgreementLaws.{Agrees, Explains, InScope, FormulaInScope, formula_in_scope, term_agrees, formula_agrees}
use Rattle.zify.proofs.RangeLaws.{SuitsFrom, ranges_hold, ranges_say}
use Rattle.zify.proofs.ReadyLaws.{Ready, formula_ready}
use Rattle.mm_num.proofs.ListLaws.{all_join, all_split}

-- ---- what a condition says

-- the values of translated operands are those of the operands
values_are : (e : Table) (y x : Point) (d : Term-F Term) → AllByRecursion (Agrees e y x) (parts_of d)
    → map-Term ZTerm ℤ (z_value_of y) (map-Term Term ZTerm (term_of e) d) ≡ map-Term Term ℤ (value_of x) d
values_are e y x (Term-F.Lit n) h = refl
values_are e y x (Term-F.Var v) h = refl
values_are e y x (Term-F.Neg a) h = ap Term-F.Neg h.0
values_are e y x (Term-F.Add a b) h = both_same (λ m n. Term-F.Add m n) _ _ _ _ h.0 h.1.0
values_are e y x (Term-F.Sub s a b) h = both_same (λ m n. Term-F.Sub s m n) _ _ _ _ h.0 h.1.0
values_are e y x (Term-F.Mul a b) h = both_same (λ m n. Term-F.Mul m n) _ _ _ _ h.0 h.1.0
values_are e y x (Term-F.Pow a k) h = ap (λ m. Term-F.Pow m k) h.0
values_are e y x (Term-F.Div a k) h = ap (λ m. Term-F.Div m k) h.0
values_are e y x (Term-F.Rem a k) h = ap (λ m. Term-F.Rem m k) h.0
values_are e y x (Term-F.Call1 f a) h = ap (λ m. Term-F.Call1 f m) h.0
values_are e y x (Term-F.Call2 f a b) h = both_same (λ m n. Term-F.Call2 f m n) _ _ _ _ h.0 h.1.0

defined_stays : {A B : Type 0} → (g : A → B) (d : Term-F A) → defined (map-Term A B g d) ≡ defined d
defined_stays g (Term-F.Lit n) = refl
defined_stays g (Term-F.Var v) = refl
defined_stays g (Term-F.Neg a) = refl
defined_stays g (Term-F.Add a b) = refl
defined_stays g (Term-F.Sub s a b) = refl
defined_stays g (Term-F.Mul a b) = refl
defined_stays g (Term-F.Pow a k) = refl
defined_stays g (Term-F.Div a k) = refl
defined_stays g (Term-F.Rem a k) = refl
defined_stays g (Term-F.Call1 f a) = refl
defined_stays g (Term-F.Call2 f a b) = refl

-- a condition is a test of the operands' values and its variable's
condition_is : (e : Table) (y x : Point) (d : Term-F Term) (t : Term) → roll-Term d ≡ t → AllByRecursion (Agrees e y x) (parts_of d)
    → z_truth_of y (condition_of e t) ≡ meets (map-Term Term ℤ (value_of x) d) (y (number_of e t))
condition_is e y x d t r a =
    let o : out-Term t ≡ d = ap out-Term (sym r) ∙ out-roll-Term d in
    ap (λ (k : Term-F Term). z_truth_of y (condition_level (map-Term Term ZTerm (term_of e) k) (variable_of e t))) o
    ∙ condition_tests y (map-Term Term ZTerm (term_of e) d) (variable_of e t)
    ∙ both_same meets _ _ _ _ (values_are e y x d a) (value_variable y (number_of e t))

condition_says : (e : Table) (y x : Point) (d : Term-F Term) (t : Term) → roll-Term d ≡ t → defined d ≡ true → AllByRecursion (Agrees e y x) (parts_of d)
    → HoldsTranslated y (condition_of e t) → y (number_of e t) ≡ value_level x (map-Term Term ℤ (value_of x) d)
condition_says e y x d t r f a h = (meets_exactly x (map-Term Term ℤ (value_of x) d) (y (number_of e t)) (defined_stays (value_of x) d ∙ f)).0 (sym (condition_is e y x d t r a) ∙ h)

condition_holds : (e : Table) (y x : Point) → Explains e y x → (t : Term) → Ready e t → y (number_of e t) ≡ value_of x t → HoldsTranslated y (condition_of e t)
condition_holds e y x w t k v =
    let d = k.node in
    let a = all_by (InScope e) (Agrees e y x) (term_agrees e y x w) (parts_of d) k.parts in
    let z = v ∙ ap (value_of x) (sym k.rolled) ∙ fold-roll-Term ℤ (value_level x) d in
    condition_is e y x d t k.rolled a ∙ (meets_exactly x (map-Term Term ℤ (value_of x) d) (y (number_of e t)) (defined_stays (value_of x) d ∙ k.defines)).1 z

-- ---- both ways

scope_of : (goal : Goal) → IsWellFormed goal → FormulaInScope (table_of goal) goal.body
scope_of goal w = formula_in_scope (table_of goal) goal.body (firsts_has [] (formula_operations goal.body)) (goal_named goal w) (goal_fits goal w)

all_ready : (goal : Goal) → IsWellFormed goal → AllByRecursion (Ready (table_of goal)) (distinct_operations goal.body)
all_ready goal w = all_firsts (Ready (table_of goal)) [] (formula_operations goal.body) tt (formula_ready (table_of goal) goal.body (scope_of goal w))

within : {A : Type 0} → (xs : List A) (v : ℕ) (a : A) → slice_get xs v ≡ Some a → v < length xs
within [] v a h = absurd (cc)
within (x ∷ xs) zero a h = omega arith
within (x ∷ xs) (suc v) a h = let k = within xs v a h in omega arith

from_none : (y : Point) (ss : List Sort) → SuitsSorts y ss → SuitsFrom y 0 ss
from_none y ss h i s e = subst (λ n. IsInSort s (y n)) (sym (none_first i)) (h i s e)
  where
    none_first : (i : ℕ) → 0 + i ≡ i
    none_first i = omega arith

to_none : (y : Point) (ss : List Sort) → SuitsFrom y 0 ss → SuitsSorts y ss
to_none y ss h i s e = subst (λ n. IsInSort s (y n)) (none_first i) (h i s e)
  where
    none_first : (i : ℕ) → 0 + i ≡ i
    none_first i = omega arith

-- a point is extended to one at which all hypotheses hold
extended_explains : (e : Table) (x : Point) → Explains e (extended e x) x
extended_explains e x = record {
  bound = extended_below e x;
  known = λ d t r f i a. extended_at e x t i ∙ ap (value_of x) (sym r) ∙ fold-roll-Term ℤ (value_level x) d;
}

conditions_hold : (e : Table) (x : Point) (ts : List Term) → AllByRecursion (InTable e) ts → AllByRecursion (Ready e) ts → AllByRecursion (HoldsTranslated (extended e x)) (map (condition_of e) ts)
conditions_hold e x [] h k = tt
conditions_hold e x (t ∷ ts) h k = (condition_holds e (extended e x) x (extended_explains e x) t k.0 (extended_at e x t h.0), conditions_hold e x ts h.1 k.1)

extended_suits : (goal : Goal) (x : Point) → SuitsSorts x (sorts_of goal.vars) → SuitsSorts (extended (table_of goal) x) (sorts_of goal.vars)
extended_suits goal x h v s e =
    let l : length (sorts_of goal.vars) ≡ length goal.vars = length-map goal.vars (λ (b : Bound). b.sort) in
    let k = within (sorts_of goal.vars) v s e in
    subst (λ z. IsInSort s z) (sym (extended_below (table_of goal) x v (omega (arith, k, l)))) (h v s e)

valid_translated : (goal : Goal) → IsWellFormed goal → IsValidTranslated (translated goal) → IsValid goal
valid_translated goal w v x h =
    let e = table_of goal in
    let y = extended e x in
    let ops = distinct_operations goal.body in
    let in_table = all_firsts (InTable e) [] (formula_operations goal.body) tt (firsts_has [] (formula_operations goal.body)) in
    let hyps = all_join (HoldsTranslated y) (ranges_from 0 (sorts_of goal.vars)) (map (condition_of e) ops)
    (ranges_hold y 0 (sorts_of goal.vars) (from_none y (sorts_of goal.vars) (extended_suits goal x h)))
    (conditions_hold e x ops in_table (all_ready goal w)) in
    sym (formula_agrees e y x (extended_explains e x) goal.body (scope_of goal w)) ∙ v y hyps

-- where all hypotheses hold, the bound variables suit their sorts, and the bodies agree
pub at_points : (goal : Goal) → IsWellFormed goal → (y : Point) → AllByRecursion (HoldsTranslated y) (translated goal).hyps → SuitsSorts y (sorts_of goal.vars) × (z_truth_of y (translated goal).body ≡ truth_of y goal.body)
at_points goal w y h =
    let e = table_of goal in
    let ops = distinct_operations goal.body in
    let p = all_split (HoldsTranslated y) (ranges_from 0 (sorts_of goal.vars)) (map (condition_of e) ops) h in
    let conditions = all_of_map (HoldsTranslated y) (condition_of e) ops p.1 in
    let explains : Explains e y y = record {
      bound = λ i l. refl;
      known = λ d t r f i a. condition_says e y y d t r f a (all_has (λ u. HoldsTranslated y (condition_of e u)) t ops conditions i);
    } in
    (to_none y (sorts_of goal.vars) (ranges_say y 0 (sorts_of goal.vars) p.0), formula_agrees e y y explains goal.body (scope_of goal w))

translated_valid : (goal : Goal) → IsWellFormed goal → IsValid goal → IsValidTranslated (translated goal)
translated_valid goal w v y h = let p = at_points goal w y h in p.1 ∙ v y p.0

pub law : (goal : Goal) → IsWellFormed goal → (IsValid goal ↔ IsValidTranslated (translated goal))
law goal w = (translated_valid goal w, valid_translated goal w)
