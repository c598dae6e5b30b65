-- Evaluation with small numbers alone: it has no result where the value of some subterm isn't small, also where the
-- result doesn't depend on it.
use Rattle.std.specs.Prelude.{◌≡◌, ℤ, pos, neg_ℤ, ◌+ℤ◌, ◌-ℤ◌, ◌*ℤ◌, int_le, unsigned_abs, Bool, true, false, not, ◌&&◌, ◌||◌, Option, Some, None}
use Rattle.mm_num.specs.Power.{power}
use Rattle.mm_num.specs.Option.{◌>>=◌}
use Rattle.mm_num.specs.Small.{IsSmall}
use Rattle.goal_ast.specs.declared.types.Eval.{Eval}
use Rattle.goal_ast.specs.declared.types.Eval.TheVariants as answers
use Rattle.goal_ast.specs.declared.term.Term.{Term}
use Rattle.goal_ast.specs.declared.term.Term.TheOpen.{Term-F}
use Rattle.goal_ast.specs.declared.term.Term.TheFolds.{fold-Term, map-Term}
use Rattle.goal_ast.specs.declared.formula.Cmp.{Cmp}
use Rattle.goal_ast.specs.declared.formula.BTerm.{BTerm}
use Rattle.goal_ast.specs.declared.formula.BTerm.TheOpen.{BTerm-F}
use Rattle.goal_ast.specs.declared.formula.BTerm.TheFolds.{fold-BTerm}
use Rattle.goal_ast.specs.declared.formula.Formula.{Formula}
use Rattle.goal_ast.specs.declared.formula.Formula.TheOpen.{Formula-F}
use Rattle.goal_ast.specs.declared.formula.Formula.TheFolds.{fold-Formula}
use Rattle.goal_ast.specs.Truth.{Point, quotient, remainder, stopped, call_1, call_2, compare, test, same, call_bool, value_level}
use Rattle.goal_ast.specs.Sorted.{is_small}

-- what there is where a test holds
abbrev pub only_if : {A : Type 0} → Bool → A → Option A
only_if true x = Some x
only_if false x = None

-- a number, where it is small
abbrev pub checked : ℤ → Option ℤ
checked z = only_if (is_small z) z

-- what there is is small
abbrev pub SmallIfAny : Option ℤ → Type 0
SmallIfAny None = Unit {0}
SmallIfAny (Some z) = IsSmall z

-- what is made of one or two numbers that there are
abbrev pub of_one : {A B : Type 0} → (A → B) → Option A → Option B
of_one f a = do
  v ← a
  Some (f v)

abbrev pub of_two : {A B : Type 0} → (A → A → B) → Option A → Option A → Option B
of_two f a b = do
  v ← a
  w ← b
  Some (f v w)

-- the same, where it is small
abbrev pub checked_one : (ℤ → ℤ) → Option ℤ → Option ℤ
checked_one f a = do
  v ← a
  checked (f v)

abbrev pub checked_two : (ℤ → ℤ → ℤ) → Option ℤ → Option ℤ → Option ℤ
checked_two f a b = do
  v ← a
  w ← b
  checked (f v w)

abbrev pub evaluated_level : Point → Term-F (Option ℤ) → Option ℤ
evaluated_level x (Term-F.Lit n) = checked n
evaluated_level x (Term-F.Var v) = checked (x v)
evaluated_level x (Term-F.Neg a) = checked_one neg_ℤ a
evaluated_level x (Term-F.Add a b) = checked_two (λ v w. v +ℤ w) a b
evaluated_level x (Term-F.Sub s a b) = checked_two (λ v w. stopped s (v -ℤ w)) a b
evaluated_level x (Term-F.Mul a b) = checked_two (λ v w. v *ℤ w) a b
evaluated_level x (Term-F.Pow a k) = checked_one (λ v. power v (unsigned_abs k)) a
evaluated_level x (Term-F.Div a k) = checked_one (λ v. quotient v k) a
evaluated_level x (Term-F.Rem a k) = checked_one (λ v. remainder v k) a
evaluated_level x (Term-F.Call1 f a) = checked_one (call_1 f) a
evaluated_level x (Term-F.Call2 f a b) = checked_two (call_2 f) a b

-- the value of a term, where that of each subterm is small
abbrev pub evaluated : Point → Term → Option ℤ
evaluated x = fold-Term (Option ℤ) (evaluated_level x)

abbrev pub bool_evaluated_level : Point → BTerm-F (Option Bool) → Option Bool
bool_evaluated_level x BTerm-F.True = Some true
bool_evaluated_level x BTerm-F.False = Some false
bool_evaluated_level x (BTerm-F.Var v) = Some (int_le (pos 1) (x v))
bool_evaluated_level x (BTerm-F.Test c t u) = of_two (test c) (evaluated x t) (evaluated x u)
bool_evaluated_level x (BTerm-F.Not a) = of_one not a
bool_evaluated_level x (BTerm-F.And a b) = of_two (λ c d. c && d) a b
bool_evaluated_level x (BTerm-F.Or a b) = of_two (λ c d. c || d) a b
bool_evaluated_level x (BTerm-F.Call f a b) = of_two (call_bool f) a b

abbrev pub bool_evaluated : Point → BTerm → Option Bool
bool_evaluated x = fold-BTerm (Option Bool) (bool_evaluated_level x)

-- two comparisons that share their middle
abbrev pub chain_of : Cmp → Cmp → Option ℤ → Option ℤ → Option ℤ → Option Bool
chain_of c d a b e = do
  u ← a
  v ← b
  w ← e
  Some (compare c u v && compare d v w)

abbrev pub truth_evaluated_level : Point → Formula-F (Option Bool) → Option Bool
truth_evaluated_level x Formula-F.True = Some true
truth_evaluated_level x Formula-F.False = Some false
truth_evaluated_level x (Formula-F.Atom c t u) = of_two (compare c) (evaluated x t) (evaluated x u)
truth_evaluated_level x (Formula-F.Chain t c u d v) = chain_of c d (evaluated x t) (evaluated x u) (evaluated x v)
truth_evaluated_level x (Formula-F.Same b c) = of_two same (bool_evaluated x b) (bool_evaluated x c)
truth_evaluated_level x (Formula-F.Differ b c) = of_two (λ p q. not (same p q)) (bool_evaluated x b) (bool_evaluated x c)
truth_evaluated_level x (Formula-F.Not f) = of_one not f
truth_evaluated_level x (Formula-F.And f g) = of_two (λ p q. p && q) f g
truth_evaluated_level x (Formula-F.Or f g) = of_two (λ p q. p || q) f g
truth_evaluated_level x (Formula-F.Imp f g) = of_two (λ p q. not p || q) f g
truth_evaluated_level x (Formula-F.Iff f g) = of_two same f g

-- whether a formula holds, where the value of each subterm is small
abbrev pub truth_evaluated : Point → Formula → Option Bool
truth_evaluated x = fold-Formula (Option Bool) (truth_evaluated_level x)

abbrev pub answer : Option Bool → Eval
answer None = answers.Big
answer (Some true) = answers.True
answer (Some false) = answers.False

-- what a formula evaluates to
abbrev pub eval_of : Point → Formula → Eval
eval_of x f = answer (truth_evaluated x f)

-- the value of a term, and whether it and the values of all its subterms are small
pub record Valued : Type 0 where
  pub value : ℤ
  pub small : Bool

abbrev pub parts_small : Term-F Valued → Bool
parts_small (Term-F.Lit n) = true
parts_small (Term-F.Var v) = true
parts_small (Term-F.Neg a) = a.small
parts_small (Term-F.Add a b) = a.small && b.small
parts_small (Term-F.Sub s a b) = a.small && b.small
parts_small (Term-F.Mul a b) = a.small && b.small
parts_small (Term-F.Pow a k) = a.small
parts_small (Term-F.Div a k) = a.small
parts_small (Term-F.Rem a k) = a.small
parts_small (Term-F.Call1 f a) = a.small
parts_small (Term-F.Call2 f a b) = a.small && b.small

abbrev pub node_value : Point → Term-F Valued → ℤ
node_value x y = value_level x (map-Term Valued ℤ (λ v. v.value) y)

abbrev pub valued_level : Point → Term-F Valued → Valued
valued_level x y = record { value = node_value x y; small = parts_small y && is_small (node_value x y) }

abbrev pub valued : Point → Term → Valued
valued x = fold-Term Valued (valued_level x)

-- whether the value of each subterm is small
abbrev pub all_small : Point → Term → Bool
all_small x t = (valued x t).small

abbrev pub bool_small_level : Point → BTerm-F Bool → Bool
bool_small_level x BTerm-F.True = true
bool_small_level x BTerm-F.False = true
bool_small_level x (BTerm-F.Var v) = true
bool_small_level x (BTerm-F.Test c t u) = all_small x t && all_small x u
bool_small_level x (BTerm-F.Not a) = a
bool_small_level x (BTerm-F.And a b) = a && b
bool_small_level x (BTerm-F.Or a b) = a && b
bool_small_level x (BTerm-F.Call f a b) = a && b

-- whether the value of each subterm of a bool term is small
abbrev pub bool_all_small : Point → BTerm → Bool
bool_all_small x = fold-BTerm Bool (bool_small_level x)

abbrev pub formula_small_level : Point → Formula-F Bool → Bool
formula_small_level x Formula-F.True = true
formula_small_level x Formula-F.False = true
formula_small_level x (Formula-F.Atom c t u) = all_small x t && all_small x u
formula_small_level x (Formula-F.Chain t c u d v) = all_small x t && (all_small x u && all_small x v)
formula_small_level x (Formula-F.Same b c) = bool_all_small x b && bool_all_small x c
formula_small_level x (Formula-F.Differ b c) = bool_all_small x b && bool_all_small x c
formula_small_level x (Formula-F.Not f) = f
formula_small_level x (Formula-F.And f g) = f && g
formula_small_level x (Formula-F.Or f g) = f && g
formula_small_level x (Formula-F.Imp f g) = f && g
formula_small_level x (Formula-F.Iff f g) = f && g

-- whether the value of each subterm of a formula is small
abbrev pub formula_all_small : Point → Formula → Bool
formula_all_small x = fold-Formula Bool (formula_small_level x)

-- each subterm has a small value
abbrev pub IsAllSmall : Point → Formula → Type 0
IsAllSmall x f = formula_all_small x f ≡ true
