-- A point that solves a clause refutes the goal where its body can be evaluated there.
use Rattle.std.specs.Prelude.{◌≡◌, ◌≢◌, ℕ, zero, suc, ◌<◌, ℤ, pos, List, [], ◌∷◌, length, Bool, true, false, nat_eq, Some, slice_get, if◌then◌else◌, refl}
use Rattle.std.specs.List.{AllByRecursion, list_any}
use Rattle.std.specs.List.Sorted.{IsStrictlySortedBy}
use Rattle.std.specs.Ordering.{nat_cmp}
use Rattle.std.proofs.Common.{ap, sym, ◌∙◌, subst, arith}
use Rattle.std.proofs.lemmas.List.{length-map}
use Rattle.mm_num.specs.Small.{IsSmall}
use Rattle.mm_poly.specs.Point.{point_of as point_by}
use Rattle.cert_kit.specs.Row.{Solves}
use Rattle.goal_ast.specs.declared.formula.Formula.{Formula}
use Rattle.goal_ast.specs.declared.goal.Bound.{Bound}
use Rattle.goal_ast.specs.declared.goal.Goal.{Goal}
use Rattle.goal_ast.specs.declared.goal.Assignment.{Assignment}
use Rattle.goal_ast.specs.declared.types.Eval.TheVariants as evals
use Rattle.goal_ast.specs.Truth.{Point, truth_of}
use Rattle.goal_ast.specs.Range.{IsInSort, IsInRange, point_of, sorts_of}
use Rattle.goal_ast.specs.Evaluation.{answer, eval_of, formula_all_small, only_if, truth_evaluated}
use Rattle.goal_ast.specs.Sorted.{IsWellFormed}
use Rattle.goal_ast.proofs.VariableLaws.{goal_named}
use Rattle.goal_ast.proofs.CountingLaws.{eval_same}
use Rattle.goal_ast.proofs.TruthLaws.{truth_agrees}
use Rattle.zify.specs.Translation.{translated}
use Rattle.zify.proofs.TranslationLaws.{at_points}
use Rattle.clause_form.specs.declared.named.Named.{Named}
use Rattle.cert_kit.specs.Variables.{place_of}
use Rattle.clause_form.specs.Clauses.{clauses_of}
use Rattle.clause_form.specs.Clauses.{Refutes as RefutesTranslated}
use Rattle.clause_form.proofs.SolutionLaws.{refuted_back}
use Rattle.clause_engine.specs.Settled.{HasPoint, clause_point}
use Rattle.goal_serve.specs.Answering.{placed, given_by, IsWitnessed}
use Rattle.goal_serve.proofs.PlacingLaws.{placed_back, placed_same, value_small}

-- what the engine says of the values of a clause's point
pub record IsFound (goal : Goal) (turns : ℕ) (n : Named) (values : List ℤ) : Type 0 where
  pub one_each : length values ≡ length n.vars
  pub given : HasPoint goal.mode turns n.clause.rows → (v : ℕ) → v < length values → point_by values v ≡ clause_point goal.mode turns n.clause.rows v
  pub small : AllByRecursion IsSmall values
  pub solves : Solves (point_by values) n.clause.rows

-- what the assignment gives the bound variables
pub record IsAssigned (goal : Goal) (n : Named) (values : List ℤ) (a : Assignment) : Type 0 where
  pub one_each : length a.values ≡ length goal.vars
  pub given : (v : ℕ) → v < length goal.vars → point_of a.values v ≡ placed n.vars (point_by values) v

-- ---- the assignment is in range

refuted_there : (goal : Goal) (n : Named) (k : ℕ) (y : Point) → slice_get (clauses_of (translated goal)) k ≡ Some n → IsStrictlySortedBy nat_cmp n.vars → Solves y n.clause.rows
    → RefutesTranslated (placed n.vars y) (translated goal)
refuted_there goal n k y e s h = refuted_back (translated goal) (placed n.vars y) y k n e (placed_back n.vars y s) h

placed_small : (vars : List ℕ) (values : List ℤ) → AllByRecursion IsSmall values → (v : ℕ) → IsSmall (placed vars (point_by values) v)
placed_small vars values a v = by_test (list_any (nat_eq v) vars) (point_by values (place_of vars v)) (value_small values a (place_of vars v))
  where
    by_test : (b : Bool) (z : ℤ) → IsSmall z → IsSmall (if b then z else pos 0)
    by_test true z h = h
    by_test false z h = omega arith

all_small_from : (values : List ℤ) → ((v : ℕ) → v < length values → IsSmall (point_of values v)) → AllByRecursion IsSmall values
all_small_from [] f = tt
all_small_from (z ∷ values) f = (f 0 (omega arith), all_small_from values (λ v h. f (suc v) (omega arith)))

within : {A : Type 0} → (xs : List A) (v : ℕ) (a : A) → slice_get xs v ≡ Some a → v < length xs
within [] v a h = absurd (cc)
within (x ∷ xs) zero a h = omega arith
within (x ∷ xs) (suc v) a h = let k = within xs v a h in omega arith

pub in_range : (goal : Goal) (turns : ℕ) (n : Named) (k : ℕ) (values : List ℤ) (a : Assignment) → IsWellFormed goal → slice_get (clauses_of (translated goal)) k ≡ Some n → IsStrictlySortedBy nat_cmp n.vars
    → IsFound goal turns n values → IsAssigned goal n values a → IsInRange goal a
in_range goal turns n k values a w e s f g =
    let x = placed n.vars (point_by values) in
    let r = refuted_there goal n k (point_by values) e s f.solves in
    let suits = (at_points goal w x r.hypotheses).0 in
    record {
      one_each = g.one_each;
      small = all_small_from a.values (λ v h. subst IsSmall (sym (g.given v (omega (arith, g.one_each)))) (placed_small n.vars values f.small v));
      suits = λ v t i.
          let l : length (sorts_of goal.vars) ≡ length goal.vars = length-map goal.vars (λ (b : Bound). b.sort) in
          let j = within (sorts_of goal.vars) v t i in
          subst (IsInSort t) (sym (g.given v (omega (arith, j, l)))) (suits v t i);
    }

-- ---- where the body isn't false there, some subterm's value is too large

big_or_false : (b : Bool) → answer (only_if b false) ≢ evals.False → answer (only_if b false) ≡ evals.Big
big_or_false true h = absurd (h refl)
big_or_false false h = refl

big_there : (x : Point) (f : Formula) → truth_of x f ≡ false → eval_of x f ≢ evals.False → eval_of x f ≡ evals.Big
big_there x f e h =
    let s : truth_evaluated x f ≡ only_if (formula_all_small x f) false = truth_agrees x f ∙ ap (only_if (formula_all_small x f)) e in
    ap answer s ∙ big_or_false (formula_all_small x f) (λ q. h (ap answer s ∙ q))

pub not_witnessed : (goal : Goal) (turns : ℕ) (n : Named) (k : ℕ) (values : List ℤ) (a : Assignment) → IsWellFormed goal → slice_get (clauses_of (translated goal)) k ≡ Some n → IsStrictlySortedBy nat_cmp n.vars
    → IsFound goal turns n values → IsAssigned goal n values a → eval_of (point_of a.values) goal.body ≢ evals.False → IsWitnessed goal turns n → ⊥
not_witnessed goal turns n k values a w e s f g h q =
    let x = placed n.vars (point_by values) in
    let r = refuted_there goal n k (point_by values) e s f.solves in
    let fails : truth_of x goal.body ≡ false = sym (at_points goal w x r.hypotheses).1 ∙ r.body in
    let named = goal_named goal w in
    let to_x : eval_of (point_of a.values) goal.body ≡ eval_of x goal.body = eval_same (length goal.vars) (point_of a.values) x goal.body g.given named in
    let given : eval_of x goal.body ≡ eval_of (given_by goal turns n) goal.body = eval_same (length goal.vars) x (given_by goal turns n) goal.body
    (λ v l. placed_same n.vars (point_by values) (clause_point goal.mode turns n.clause.rows) (λ i j. f.given q.has_point i (omega (arith, f.one_each))) v) named in
    q.not_big (sym given ∙ big_there x goal.body fails (λ z. h (to_x ∙ z)))
