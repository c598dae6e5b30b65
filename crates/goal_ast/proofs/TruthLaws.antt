-- A formula has a result exactly where the value of each subterm is small, and the result is its truth.
use Rattle.std.specs.Prelude.{◌≡◌, Bool, true, false, not, ◌&&◌, ◌||◌, refl, Option, Some}
use Rattle.std.proofs.Common.{subst}
use Rattle.mm_num.specs.Option.{◌>>=◌}
use Rattle.goal_ast.specs.declared.formula.BTerm.{BTerm}
use Rattle.goal_ast.specs.declared.formula.BTerm.TheOpen.{BTerm-F}
use Rattle.goal_ast.specs.declared.formula.BTerm.TheViews.{roll-BTerm}
use Rattle.goal_ast.specs.declared.formula.BTerm.TheFolds.{map-BTerm, fold-roll-BTerm, ind-BTerm}
use Rattle.goal_ast.specs.declared.formula.Formula.{Formula}
use Rattle.goal_ast.specs.declared.formula.Formula.TheOpen.{Formula-F}
use Rattle.goal_ast.specs.declared.formula.Formula.TheViews.{roll-Formula}
use Rattle.goal_ast.specs.declared.formula.Formula.TheFolds.{map-Formula, fold-roll-Formula, ind-Formula}
use Rattle.goal_ast.specs.Truth.{Point, compare, test, same, call_bool, bool_level, bool_of, truth_level, truth_of}
use Rattle.goal_ast.specs.Evaluation.{only_if, bool_evaluated_level, bool_evaluated, truth_evaluated_level, truth_evaluated, bool_small_level, bool_all_small, formula_small_level, formula_all_small}
use Rattle.goal_ast.proofs.EvaluationLaws.{evaluated_is}

-- one part with its result, and what is made of it
one : {A B : Type 0} → (f : A → B) (o : Option A) (s : Bool) (z : A) → o ≡ only_if s z → (o >>= λ v. Some (f v)) ≡ only_if s (f z)
one f o true z e = rw (e) refl
one f o false z e = rw (e) refl

two : {A B : Type 0} → (f : A → A → B) (o p : Option A) (s t : Bool) (y z : A) → o ≡ only_if s y → p ≡ only_if t z
    → (o >>= λ v. p >>= λ w. Some (f v w)) ≡ only_if (s && t) (f y z)
two f o p true true y z e d = rw (e, d) refl
two f o p true false y z e d = rw (e, d) refl
two f o p false t y z e d = rw (e) refl

three : {A B : Type 0} → (f : A → A → A → B) (o p q : Option A) (s t u : Bool) (x y z : A)
    → o ≡ only_if s x → p ≡ only_if t y → q ≡ only_if u z
    → (o >>= λ a. p >>= λ b. q >>= λ c. Some (f a b c)) ≡ only_if (s && (t && u)) (f x y z)
three f o p q true true true x y z e d g = rw (e, d, g) refl
three f o p q true true false x y z e d g = rw (e, d, g) refl
three f o p q true false u x y z e d g = rw (e, d) refl
three f o p q false t u x y z e d g = rw (e) refl

moved : (o p : Option Bool) (s t b c : Bool) → o ≡ p → s ≡ t → b ≡ c → p ≡ only_if t c → o ≡ only_if s b
moved o p s t b c e d g h = rw (e, d, g) h

abbrev pub BoolAgrees : Point → BTerm → Type 0
BoolAgrees x b = bool_evaluated x b ≡ only_if (bool_all_small x b) (bool_of x b)

abbrev KnownBool : Point → Type 0
KnownBool x = (b : BTerm) × BoolAgrees x b

abbrev bools_of : (x : Point) → BTerm-F (KnownBool x) → BTerm-F BTerm
bools_of x y = map-BTerm (KnownBool x) BTerm (λ p. p.0) y

bool_step : (x : Point) (y : BTerm-F (KnownBool x))
    → bool_evaluated_level x (map-BTerm BTerm (Option Bool) (bool_evaluated x) (bools_of x y))
    ≡ only_if (bool_small_level x (map-BTerm BTerm Bool (bool_all_small x) (bools_of x y))) (bool_level x (map-BTerm BTerm Bool (bool_of x) (bools_of x y)))
bool_step x BTerm-F.True = refl
bool_step x BTerm-F.False = refl
bool_step x (BTerm-F.Var v) = refl
bool_step x (BTerm-F.Test c t u) = two (test c) _ _ _ _ _ _ (evaluated_is x t) (evaluated_is x u)
bool_step x (BTerm-F.Not a) = one not _ _ _ a.1
bool_step x (BTerm-F.And a b) = two (λ c d. c && d) _ _ _ _ _ _ a.1 b.1
bool_step x (BTerm-F.Or a b) = two (λ c d. c || d) _ _ _ _ _ _ a.1 b.1
bool_step x (BTerm-F.Call f a b) = two (call_bool f) _ _ _ _ _ _ a.1 b.1

pub bool_agrees : (x : Point) (b : BTerm) → BoolAgrees x b
bool_agrees x = ind-BTerm (BoolAgrees x) (λ d y q. subst (λ (z : BTerm-F BTerm). BoolAgrees x (roll-BTerm z)) q (step y))
  where
    step : (y : BTerm-F (KnownBool x)) → BoolAgrees x (roll-BTerm (bools_of x y))
    step y =
        let e = fold-roll-BTerm (Option Bool) (bool_evaluated_level x) (bools_of x y) in
        let s = fold-roll-BTerm Bool (bool_small_level x) (bools_of x y) in
        let b = fold-roll-BTerm Bool (bool_level x) (bools_of x y) in
        moved _ _ _ _ _ _ e s b (bool_step x y)

abbrev pub TruthAgrees : Point → Formula → Type 0
TruthAgrees x f = truth_evaluated x f ≡ only_if (formula_all_small x f) (truth_of x f)

abbrev KnownTruth : Point → Type 0
KnownTruth x = (f : Formula) × TruthAgrees x f

abbrev formulas_of : (x : Point) → Formula-F (KnownTruth x) → Formula-F Formula
formulas_of x y = map-Formula (KnownTruth x) Formula (λ p. p.0) y

truth_step : (x : Point) (y : Formula-F (KnownTruth x))
    → truth_evaluated_level x (map-Formula Formula (Option Bool) (truth_evaluated x) (formulas_of x y))
    ≡ only_if (formula_small_level x (map-Formula Formula Bool (formula_all_small x) (formulas_of x y))) (truth_level x (map-Formula Formula Bool (truth_of x) (formulas_of x y)))
truth_step x Formula-F.True = refl
truth_step x Formula-F.False = refl
truth_step x (Formula-F.Atom c t u) = two (compare c) _ _ _ _ _ _ (evaluated_is x t) (evaluated_is x u)
truth_step x (Formula-F.Chain t c u d v) =
    three (λ a b e. compare c a b && compare d b e) _ _ _ _ _ _ _ _ _ (evaluated_is x t) (evaluated_is x u) (evaluated_is x v)
truth_step x (Formula-F.Same b c) = two same _ _ _ _ _ _ (bool_agrees x b) (bool_agrees x c)
truth_step x (Formula-F.Differ b c) = two (λ p q. not (same p q)) _ _ _ _ _ _ (bool_agrees x b) (bool_agrees x c)
truth_step x (Formula-F.Not f) = one not _ _ _ f.1
truth_step x (Formula-F.And f g) = two (λ p q. p && q) _ _ _ _ _ _ f.1 g.1
truth_step x (Formula-F.Or f g) = two (λ p q. p || q) _ _ _ _ _ _ f.1 g.1
truth_step x (Formula-F.Imp f g) = two (λ p q. not p || q) _ _ _ _ _ _ f.1 g.1
truth_step x (Formula-F.Iff f g) = two same _ _ _ _ _ _ f.1 g.1

pub truth_agrees : (x : Point) (f : Formula) → TruthAgrees x f
truth_agrees x = ind-Formula (TruthAgrees x) (λ d y q. subst (λ (z : Formula-F Formula). TruthAgrees x (roll-Formula z)) q (step y))
  where
    step : (y : Formula-F (KnownTruth x)) → TruthAgrees x (roll-Formula (formulas_of x y))
    step y =
        let e = fold-roll-Formula (Option Bool) (truth_evaluated_level x) (formulas_of x y) in
        let s = fold-roll-Formula Bool (formula_small_level x) (formulas_of x y) in
        let b = fold-roll-Formula Bool (truth_level x) (formulas_of x y) in
        moved _ _ _ _ _ _ e s b (truth_step x y)
