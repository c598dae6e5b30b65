-- The limits are passed by what is found on a goal exactly where they are passed by its translation.
use Rattle.std.specs.Prelude.{◌≡◌, ◌↔◌, ℕ, ◌+◌, ◌^◌, ◌<◌, min, max, pos, List, [], ◌∷◌, map, fold, refl}
use Rattle.std.specs.List.{AllByRecursion}
use Rattle.std.proofs.Common.{ap, sym, subst, arith}
use Rattle.goal_ast.specs.declared.term.Sort.{Sort}
use Rattle.goal_ast.specs.declared.term.Sort.TheVariants as sorts
use Rattle.goal_ast.specs.declared.term.Term.{Term}
use Rattle.goal_ast.specs.declared.formula.Cmp.TheVariants as cmps
use Rattle.goal_ast.specs.declared.goal.Goal.{Goal}
use Rattle.goal_ast.specs.Range.{sorts_of}
use Rattle.zify.specs.declared.form.ZForm.{ZForm}
use Rattle.goal_measure.specs.declared.measure.Measure.{Measure}
use Rattle.goal_measure.specs.Measure.{of_literal, of_variable, of_atom, nothing, greater}
use Rattle.zify.specs.Measure.{greatest_in, greatest_of}
use Rattle.zify.specs.Operations.{formula_operations, distinct_operations}
use Rattle.zify.specs.Translation.{Table, condition_of, range_of, ranges_from, form_of, table_of, translated}
use Rattle.goal_measure.specs.Bounding.{formula_bound}
use Rattle.zify.proofs.ListLaws.{all_map, all_of_map, all_by}
use Rattle.zify.proofs.TableLaws.{Has, all_has, firsts_has, all_firsts}
use Rattle.zify.proofs.MeasureLaws.{conditions_in, formula_weighed, measure_range}
use Rattle.mm_num.proofs.ListLaws.{all_join, all_split}

-- a measure that is the greater one of two, and its limit, which a range's atoms stay below
pub record Limited (f : Measure → ℕ) (limit : ℕ) : Type 0 where
  pub greatest : (a b : Measure) → f (greater a b) ≡ max (f a) (f b)
  pub none : f nothing < limit
  pub from_0 : f (of_atom of_variable (of_literal 0)) < limit
  pub from_1 : f (of_atom of_variable (of_literal 1)) < limit

abbrev pub Under : (Measure → ℕ) → ℕ → Measure → Type 0
Under f limit m = f m < limit

both_under : (f : Measure → ℕ) (l : ℕ) → Limited f l → (a b : Measure) → Under f l a → Under f l b → Under f l (greater a b)
both_under f l w a b h k = let e : f (greater a b) ≡ max (f a) (f b) = w.greatest a b in omega arith

parts_under : (f : Measure → ℕ) (l : ℕ) → Limited f l → (a b : Measure) → Under f l (greater a b) → Under f l a × Under f l b
parts_under f l w a b h = let e : f (greater a b) ≡ max (f a) (f b) = w.greatest a b in (omega arith, omega arith)

fold_under : (f : Measure → ℕ) (l : ℕ) → Limited f l → (m : Measure) (ms : List Measure) → Under f l m → AllByRecursion (Under f l) ms → Under f l (fold greater m ms)
fold_under f l w m [] h k = h
fold_under f l w m (n ∷ ms) h k = fold_under f l w (greater m n) ms (both_under f l w m n h k.0) k.1

under_fold : (f : Measure → ℕ) (l : ℕ) → Limited f l → (m : Measure) (ms : List Measure) → Under f l (fold greater m ms) → Under f l m × AllByRecursion (Under f l) ms
under_fold f l w m [] h = (h, tt)
under_fold f l w m (n ∷ ms) h = let p = under_fold f l w (greater m n) ms h in let q = parts_under f l w m n p.0 in (q.0, (q.1, p.1))

abbrev ConditionUnder : (Measure → ℕ) → ℕ → Table → Term → Type 0
ConditionUnder f l e t = Under f l (greatest_in (condition_of e t))

conditions_under : (f : Measure → ℕ) (l : ℕ) → Limited f l → (e : Table) (ts : List Term) → Under f l (conditions_in e ts) → AllByRecursion (ConditionUnder f l e) ts
conditions_under f l w e [] h = tt
conditions_under f l w e (t ∷ ts) h = let p = parts_under f l w (greatest_in (condition_of e t)) (conditions_in e ts) h in (p.0, conditions_under f l w e ts p.1)

under_conditions : (f : Measure → ℕ) (l : ℕ) → Limited f l → (e : Table) (ts : List Term) → AllByRecursion (ConditionUnder f l e) ts → Under f l (conditions_in e ts)
under_conditions f l w e [] h = w.none
under_conditions f l w e (t ∷ ts) h = both_under f l w (greatest_in (condition_of e t)) (conditions_in e ts) h.0 (under_conditions f l w e ts h.1)

abbrev FormUnder : (Measure → ℕ) → ℕ → ZForm → Type 0
FormUnder f l g = Under f l (greatest_in g)

range_under : (f : Measure → ℕ) (l : ℕ) → Limited f l → (v : ℕ) (s : Sort) → AllByRecursion (FormUnder f l) (range_of v s)
range_under f l w v sorts.Int = tt
range_under f l w v sorts.Bin = (subst (Under f l) (sym (measure_range cmps.Ge v (pos 0))) w.from_0, tt)
range_under f l w v sorts.Nat = (subst (Under f l) (sym (measure_range cmps.Ge v (pos 0))) w.from_0, tt)
range_under f l w v sorts.Pos = (subst (Under f l) (sym (measure_range cmps.Ge v (pos 1))) w.from_1, tt)
range_under f l w v sorts.Bool = (subst (Under f l) (sym (measure_range cmps.Ge v (pos 0))) w.from_0, (subst (Under f l) (sym (measure_range cmps.Le v (pos 1))) w.from_1, tt))

ranges_under : (f : Measure → ℕ) (l : ℕ) → Limited f l → (v : ℕ) (ss : List Sort) → AllByRecursion (FormUnder f l) (ranges_from v ss)
ranges_under f l w v [] = tt
ranges_under f l w v (s ∷ ss) = all_join (FormUnder f l) (range_of v s) (ranges_from (v + 1) ss) (range_under f l w v s) (ranges_under f l w (v + 1) ss)

abbrev Found : (Measure → ℕ) → ℕ → Goal → Type 0
Found f l goal = Under f l (conditions_in (table_of goal) (formula_operations goal.body)) × Under f l (greatest_in (form_of (table_of goal) goal.body))

goal_under : (f : Measure → ℕ) (l : ℕ) → Limited f l → (goal : Goal) → Found f l goal → Under f l (greatest_of (translated goal))
goal_under f l w goal h =
    let e = table_of goal in
    let all = conditions_under f l w e (formula_operations goal.body) h.0 in
    let distinct = all_firsts (ConditionUnder f l e) [] (formula_operations goal.body) tt all in
    let hyps = all_join (FormUnder f l) (ranges_from 0 (sorts_of goal.vars)) (map (condition_of e) (distinct_operations goal.body)) (ranges_under f l w 0 (sorts_of goal.vars))
    (all_map (FormUnder f l) (condition_of e) (distinct_operations goal.body) distinct) in
    fold_under f l w (greatest_in (form_of e goal.body)) (map greatest_in (translated goal).hyps) h.1 (all_map (Under f l) greatest_in (translated goal).hyps hyps)

under_goal : (f : Measure → ℕ) (l : ℕ) → Limited f l → (goal : Goal) → Under f l (greatest_of (translated goal)) → Found f l goal
under_goal f l w goal h =
    let e = table_of goal in
    let p = under_fold f l w (greatest_in (form_of e goal.body)) (map greatest_in (translated goal).hyps) h in
    let hyps = all_of_map (Under f l) greatest_in (translated goal).hyps p.1 in
    let conditions = (all_split (FormUnder f l) (ranges_from 0 (sorts_of goal.vars)) (map (condition_of e) (distinct_operations goal.body)) hyps).1 in
    let distinct = all_of_map (FormUnder f l) (condition_of e) (distinct_operations goal.body) conditions in
    let all = all_by (Has (distinct_operations goal.body)) (ConditionUnder f l e) (λ t i. all_has (ConditionUnder f l e) t (distinct_operations goal.body) distinct i) (formula_operations goal.body)
    (firsts_has [] (formula_operations goal.body)) in
    (under_conditions f l w e (formula_operations goal.body) all, p.0)

weight_limited : Limited (λ m. m.weight) (2 ^ 100)
weight_limited = record { greatest = λ a b. refl; none = omega arith; from_0 = omega arith; from_1 = omega arith }

spread_limited : Limited (λ m. m.spread) 257
spread_limited = record { greatest = λ a b. refl; none = omega arith; from_0 = omega arith; from_1 = omega arith }

degree_limited : Limited (λ m. m.degree) 9
degree_limited = record { greatest = λ a b. refl; none = omega arith; from_0 = omega arith; from_1 = omega arith }

split_max : (a b n l : ℕ) → n ≡ max (min a l) (min b l) → n < l → (a < l) × (b < l)
split_max a b n l e h = (omega arith, omega arith)

join_max : (a b n l : ℕ) → n ≡ max (min a l) (min b l) → a < l → b < l → n < l
join_max a b n l e h k = omega arith

pub weight_exactly : (goal : Goal) → ((formula_bound goal.body).weight < 2 ^ 100) ↔ ((greatest_of (translated goal)).weight < 2 ^ 100)
weight_exactly goal =
    let c = conditions_in (table_of goal) (formula_operations goal.body) in
    let g = greatest_in (form_of (table_of goal) goal.body) in
    let e : (formula_bound goal.body).weight ≡ max (min c.weight (2 ^ 100)) (min g.weight (2 ^ 100)) = ap (λ m. m.weight) (formula_weighed (table_of goal) goal.body) in (
      λ h. goal_under (λ m. m.weight) (2 ^ 100) weight_limited goal (split_max c.weight g.weight _ (2 ^ 100) e h),
      λ h. let p = under_goal (λ m. m.weight) (2 ^ 100) weight_limited goal h in join_max c.weight g.weight _ (2 ^ 100) e p.0 p.1,
    )

pub spread_exactly : (goal : Goal) → ((formula_bound goal.body).spread < 257) ↔ ((greatest_of (translated goal)).spread < 257)
spread_exactly goal =
    let c = conditions_in (table_of goal) (formula_operations goal.body) in
    let g = greatest_in (form_of (table_of goal) goal.body) in
    let e : (formula_bound goal.body).spread ≡ max (min c.spread 257) (min g.spread 257) = ap (λ m. m.spread) (formula_weighed (table_of goal) goal.body) in (
      λ h. goal_under (λ m. m.spread) 257 spread_limited goal (split_max c.spread g.spread _ 257 e h),
      λ h. let p = under_goal (λ m. m.spread) 257 spread_limited goal h in join_max c.spread g.spread _ 257 e p.0 p.1,
    )

pub degree_exactly : (goal : Goal) → ((formula_bound goal.body).degree < 9) ↔ ((greatest_of (translated goal)).degree < 9)
degree_exactly goal =
    let c = conditions_in (table_of goal) (formula_operations goal.body) in
    let g = greatest_in (form_of (table_of goal) goal.body) in
    let e : (formula_bound goal.body).degree ≡ max (min c.degree 9) (min g.degree 9) = ap (λ m. m.degree) (formula_weighed (table_of goal) goal.body) in (
      λ h. goal_under (λ m. m.degree) 9 degree_limited goal (split_max c.degree g.degree _ 9 e h),
      λ h. let p = under_goal (λ m. m.degree) 9 degree_limited goal h in join_max c.degree g.degree _ 9 e p.0 p.1,
    )
