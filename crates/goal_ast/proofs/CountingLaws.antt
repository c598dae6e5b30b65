-- What names no variable from some number on is the same at points that agree below it.
use Rattle.std.specs.Prelude.{◌≡◌, ℕ, ◌<◌, ℤ, Bool, true, not, ◌&&◌, ◌||◌, refl}
use Rattle.std.proofs.Common.{ap, sym, ◌∙◌, subst}
use Rattle.std.proofs.lemmas.Bool.{and_parts}
use Rattle.goal_ast.specs.declared.term.Term.{Term}
use Rattle.goal_ast.specs.declared.term.Term.TheOpen.{Term-F}
use Rattle.goal_ast.specs.declared.term.Term.TheViews.{roll-Term}
use Rattle.goal_ast.specs.declared.term.Term.TheFolds.{map-Term, fold-roll-Term, ind-Term}
use Rattle.goal_ast.specs.declared.formula.BTerm.{BTerm}
use Rattle.goal_ast.specs.declared.formula.BTerm.TheOpen.{BTerm-F}
use Rattle.goal_ast.specs.declared.formula.BTerm.TheViews.{roll-BTerm}
use Rattle.goal_ast.specs.declared.formula.BTerm.TheFolds.{map-BTerm, fold-roll-BTerm, ind-BTerm}
use Rattle.goal_ast.specs.declared.formula.Formula.{Formula}
use Rattle.goal_ast.specs.declared.formula.Formula.TheOpen.{Formula-F}
use Rattle.goal_ast.specs.declared.formula.Formula.TheViews.{roll-Formula}
use Rattle.goal_ast.specs.declared.formula.Formula.TheFolds.{map-Formula, fold-roll-Formula, ind-Formula}
use Rattle.goal_ast.specs.Truth.{Point, value_of, compare, test, same, call_bool, bool_level, bool_of, truth_level, truth_of}
use Rattle.goal_ast.specs.Evaluation.{only_if, answer, eval_of, Valued, valued_level, valued, all_small, bool_small_level, bool_all_small, formula_small_level, formula_all_small}
use Rattle.goal_ast.specs.Variables.{SameBelow, variable_level, names_below, bool_variable_level, bool_names_below, formula_variable_level, formula_names_below}
use Rattle.goal_ast.proofs.EvaluationLaws.{term_agrees}
use Rattle.goal_ast.proofs.TruthLaws.{truth_agrees}
use Rattle.mm_num.proofs.TestLaws.{is_below}

pub both_same : {A B C : Type 0} → (f : A → B → C) (a c : A) (b d : B) → a ≡ c → b ≡ d → f a b ≡ f c d
both_same f a c b d e g = ap (λ z. f z b) e ∙ ap (λ z. f c z) g

abbrev TermSame : ℕ → Point → Point → Term → Type 0
TermSame n x y t = names_below n t ≡ true → valued x t ≡ valued y t

abbrev Known : ℕ → Point → Point → Type 0
Known n x y = (t : Term) × TermSame n x y t

abbrev terms_of : (n : ℕ) (x y : Point) → Term-F (Known n x y) → Term-F Term
terms_of n x y d = map-Term (Known n x y) Term (λ p. p.0) d

pair_same : (n : ℕ) (x y : Point) (f : Valued → Valued → Valued) (a b : Known n x y) → (names_below n a.0 && names_below n b.0) ≡ true → f (valued x a.0) (valued x b.0) ≡ f (valued y a.0) (valued y b.0)
pair_same n x y f a b h = let p = and_parts _ _ h in both_same f _ _ _ _ (a.1 p.0) (b.1 p.1)

level : (n : ℕ) (x y : Point) → SameBelow n x y → (d : Term-F (Known n x y)) → variable_level n (map-Term Term Bool (names_below n) (terms_of n x y d)) ≡ true
    → valued_level x (map-Term Term Valued (valued x) (terms_of n x y d)) ≡ valued_level y (map-Term Term Valued (valued y) (terms_of n x y d))
level n x y e (Term-F.Lit k) h = refl
level n x y e (Term-F.Var v) h = ap (λ z. valued_level (λ w. z) (Term-F.Var v)) (e v (is_below v n h))
level n x y e (Term-F.Neg a) h = ap (λ z. valued_level y (Term-F.Neg z)) (a.1 h)
level n x y e (Term-F.Add a b) h = pair_same n x y (λ c d. valued_level y (Term-F.Add c d)) a b h
level n x y e (Term-F.Sub s a b) h = pair_same n x y (λ c d. valued_level y (Term-F.Sub s c d)) a b h
level n x y e (Term-F.Mul a b) h = pair_same n x y (λ c d. valued_level y (Term-F.Mul c d)) a b h
level n x y e (Term-F.Pow a k) h = ap (λ z. valued_level y (Term-F.Pow z k)) (a.1 h)
level n x y e (Term-F.Div a k) h = ap (λ z. valued_level y (Term-F.Div z k)) (a.1 h)
level n x y e (Term-F.Rem a k) h = ap (λ z. valued_level y (Term-F.Rem z k)) (a.1 h)
level n x y e (Term-F.Call1 f a) h = ap (λ z. valued_level y (Term-F.Call1 f z)) (a.1 h)
level n x y e (Term-F.Call2 f a b) h = pair_same n x y (λ c d. valued_level y (Term-F.Call2 f c d)) a b h

pub valued_same : (n : ℕ) (x y : Point) → SameBelow n x y → (t : Term) → TermSame n x y t
valued_same n x y e = ind-Term (TermSame n x y) (λ d k q. subst (λ (z : Term-F Term). TermSame n x y (roll-Term z)) q (step k))
  where
    step : (k : Term-F (Known n x y)) → TermSame n x y (roll-Term (terms_of n x y k))
    step k h =
        let a = fold-roll-Term Bool (variable_level n) (terms_of n x y k) in
        let b = fold-roll-Term Valued (valued_level x) (terms_of n x y k) in
        let c = fold-roll-Term Valued (valued_level y) (terms_of n x y k) in
        b ∙ level n x y e k (sym a ∙ h) ∙ sym c

pub value_same : (n : ℕ) (x y : Point) (t : Term) → SameBelow n x y → names_below n t ≡ true → value_of x t ≡ value_of y t
value_same n x y t e h = sym (term_agrees x t).1 ∙ ap (λ v. v.value) (valued_same n x y e t h) ∙ (term_agrees y t).1

pub small_same : (n : ℕ) (x y : Point) (t : Term) → SameBelow n x y → names_below n t ≡ true → all_small x t ≡ all_small y t
small_same n x y t e h = ap (λ v. v.small) (valued_same n x y e t h)

-- the truth of two things and whether they are small, at two points
abbrev Twice : Bool → Bool → Bool → Bool → Type 0
Twice a b r s = (a ≡ b) × (r ≡ s)

numbers_twice : (n : ℕ) (x y : Point) → SameBelow n x y → (f : ℤ → ℤ → Bool) (t u : Term) → (names_below n t && names_below n u) ≡ true
    → Twice (f (value_of x t) (value_of x u)) (f (value_of y t) (value_of y u)) (all_small x t && all_small x u) (all_small y t && all_small y u)
numbers_twice n x y e f t u h =
    let p = and_parts _ _ h in
    (both_same f _ _ _ _ (value_same n x y t e p.0) (value_same n x y u e p.1), both_same (λ a b. a && b) _ _ _ _ (small_same n x y t e p.0) (small_same n x y u e p.1))

parts_twice : (f : Bool → Bool → Bool) (a b c d r s t u : Bool) → Twice a b r s → Twice c d t u → Twice (f a c) (f b d) (r && t) (s && u)
parts_twice f a b c d r s t u h k = (both_same f _ _ _ _ h.0 k.0, both_same (λ v w. v && w) _ _ _ _ h.1 k.1)

abbrev BoolSame : ℕ → Point → Point → BTerm → Type 0
BoolSame n x y b = bool_names_below n b ≡ true → Twice (bool_of x b) (bool_of y b) (bool_all_small x b) (bool_all_small y b)

abbrev KnownBool : ℕ → Point → Point → Type 0
KnownBool n x y = (b : BTerm) × BoolSame n x y b

abbrev bools_of : (n : ℕ) (x y : Point) → BTerm-F (KnownBool n x y) → BTerm-F BTerm
bools_of n x y d = map-BTerm (KnownBool n x y) BTerm (λ p. p.0) d

bool_pair : (n : ℕ) (x y : Point) (f : Bool → Bool → Bool) (a b : KnownBool n x y) → (bool_names_below n a.0 && bool_names_below n b.0) ≡ true
    → Twice (f (bool_of x a.0) (bool_of x b.0)) (f (bool_of y a.0) (bool_of y b.0)) (bool_all_small x a.0 && bool_all_small x b.0) (bool_all_small y a.0 && bool_all_small y b.0)
bool_pair n x y f a b h = let p = and_parts _ _ h in parts_twice f _ _ _ _ _ _ _ _ (a.1 p.0) (b.1 p.1)

bool_step : (n : ℕ) (x y : Point) → SameBelow n x y → (d : BTerm-F (KnownBool n x y)) → bool_variable_level n (map-BTerm BTerm Bool (bool_names_below n) (bools_of n x y d)) ≡ true
    → Twice (bool_level x (map-BTerm BTerm Bool (bool_of x) (bools_of n x y d))) (bool_level y (map-BTerm BTerm Bool (bool_of y) (bools_of n x y d)))
    (bool_small_level x (map-BTerm BTerm Bool (bool_all_small x) (bools_of n x y d))) (bool_small_level y (map-BTerm BTerm Bool (bool_all_small y) (bools_of n x y d)))
bool_step n x y e BTerm-F.True h = (refl, refl)
bool_step n x y e BTerm-F.False h = (refl, refl)
bool_step n x y e (BTerm-F.Var v) h = (ap (λ z. bool_level (λ w. z) (BTerm-F.Var v)) (e v (is_below v n h)), refl)
bool_step n x y e (BTerm-F.Test c t u) h = numbers_twice n x y e (test c) t u h
bool_step n x y e (BTerm-F.Not a) h = (ap not (a.1 h).0, (a.1 h).1)
bool_step n x y e (BTerm-F.And a b) h = bool_pair n x y (λ c d. c && d) a b h
bool_step n x y e (BTerm-F.Or a b) h = bool_pair n x y (λ c d. c || d) a b h
bool_step n x y e (BTerm-F.Call f a b) h = bool_pair n x y (call_bool f) a b h

-- what holds of equal things
moved : (a b r s a' b' r' s' : Bool) → a ≡ a' → b ≡ b' → r ≡ r' → s ≡ s' → Twice a' b' r' s' → Twice a b r s
moved a b r s a' b' r' s' e f g i h = (e ∙ h.0 ∙ sym f, g ∙ h.1 ∙ sym i)

pub bool_twice : (n : ℕ) (x y : Point) → SameBelow n x y → (b : BTerm) → BoolSame n x y b
bool_twice n x y e = ind-BTerm (BoolSame n x y) (λ d k q. subst (λ (z : BTerm-F BTerm). BoolSame n x y (roll-BTerm z)) q (step k))
  where
    step : (k : BTerm-F (KnownBool n x y)) → BoolSame n x y (roll-BTerm (bools_of n x y k))
    step k h =
        let d = bools_of n x y k in
        let a = fold-roll-BTerm Bool (bool_variable_level n) d in
        moved _ _ _ _ _ _ _ _ (fold-roll-BTerm Bool (bool_level x) d) (fold-roll-BTerm Bool (bool_level y) d)
        (fold-roll-BTerm Bool (bool_small_level x) d) (fold-roll-BTerm Bool (bool_small_level y) d) (bool_step n x y e k (sym a ∙ h))

pub bool_same : (n : ℕ) (x y : Point) (b : BTerm) → SameBelow n x y → bool_names_below n b ≡ true → bool_of x b ≡ bool_of y b
bool_same n x y b e h = (bool_twice n x y e b h).0

abbrev FormulaSame : ℕ → Point → Point → Formula → Type 0
FormulaSame n x y f = formula_names_below n f ≡ true → Twice (truth_of x f) (truth_of y f) (formula_all_small x f) (formula_all_small y f)

abbrev KnownFormula : ℕ → Point → Point → Type 0
KnownFormula n x y = (f : Formula) × FormulaSame n x y f

abbrev formulas_of : (n : ℕ) (x y : Point) → Formula-F (KnownFormula n x y) → Formula-F Formula
formulas_of n x y d = map-Formula (KnownFormula n x y) Formula (λ p. p.0) d

formula_pair : (n : ℕ) (x y : Point) (f : Bool → Bool → Bool) (a b : KnownFormula n x y) → (formula_names_below n a.0 && formula_names_below n b.0) ≡ true
    → Twice (f (truth_of x a.0) (truth_of x b.0)) (f (truth_of y a.0) (truth_of y b.0)) (formula_all_small x a.0 && formula_all_small x b.0) (formula_all_small y a.0 && formula_all_small y b.0)
formula_pair n x y f a b h = let p = and_parts _ _ h in parts_twice f _ _ _ _ _ _ _ _ (a.1 p.0) (b.1 p.1)

bools_twice : (n : ℕ) (x y : Point) → SameBelow n x y → (f : Bool → Bool → Bool) (a b : BTerm) → (bool_names_below n a && bool_names_below n b) ≡ true
    → Twice (f (bool_of x a) (bool_of x b)) (f (bool_of y a) (bool_of y b)) (bool_all_small x a && bool_all_small x b) (bool_all_small y a && bool_all_small y b)
bools_twice n x y e f a b h = let p = and_parts _ _ h in parts_twice f _ _ _ _ _ _ _ _ (bool_twice n x y e a p.0) (bool_twice n x y e b p.1)

formula_step : (n : ℕ) (x y : Point) → SameBelow n x y → (d : Formula-F (KnownFormula n x y)) → formula_variable_level n (map-Formula Formula Bool (formula_names_below n) (formulas_of n x y d)) ≡ true
    → Twice (truth_level x (map-Formula Formula Bool (truth_of x) (formulas_of n x y d))) (truth_level y (map-Formula Formula Bool (truth_of y) (formulas_of n x y d)))
    (formula_small_level x (map-Formula Formula Bool (formula_all_small x) (formulas_of n x y d))) (formula_small_level y (map-Formula Formula Bool (formula_all_small y) (formulas_of n x y d)))
formula_step n x y e Formula-F.True h = (refl, refl)
formula_step n x y e Formula-F.False h = (refl, refl)
formula_step n x y e (Formula-F.Atom c t u) h = numbers_twice n x y e (compare c) t u h
formula_step n x y e (Formula-F.Chain t c u d v) h =
    let p = and_parts _ _ h in
    let q = and_parts _ _ p.1 in
    let first = value_same n x y t e p.0 in
    let middle = value_same n x y u e q.0 in
    let last = value_same n x y v e q.1 in (
      both_same (λ a b. a && b) _ _ _ _ (both_same (compare c) _ _ _ _ first middle) (both_same (compare d) _ _ _ _ middle last),
      both_same (λ a b. a && b) _ _ _ _ (small_same n x y t e p.0) (both_same (λ a b. a && b) _ _ _ _ (small_same n x y u e q.0) (small_same n x y v e q.1)),
    )
formula_step n x y e (Formula-F.Same b c) h = bools_twice n x y e same b c h
formula_step n x y e (Formula-F.Differ b c) h = bools_twice n x y e (λ p q. not (same p q)) b c h
formula_step n x y e (Formula-F.Not f) h = (ap not (f.1 h).0, (f.1 h).1)
formula_step n x y e (Formula-F.And f g) h = formula_pair n x y (λ p q. p && q) f g h
formula_step n x y e (Formula-F.Or f g) h = formula_pair n x y (λ p q. p || q) f g h
formula_step n x y e (Formula-F.Imp f g) h = formula_pair n x y (λ p q. not p || q) f g h
formula_step n x y e (Formula-F.Iff f g) h = formula_pair n x y same f g h

pub formula_twice : (n : ℕ) (x y : Point) → SameBelow n x y → (f : Formula) → FormulaSame n x y f
formula_twice n x y e = ind-Formula (FormulaSame n x y) (λ d k q. subst (λ (z : Formula-F Formula). FormulaSame n x y (roll-Formula z)) q (step k))
  where
    step : (k : Formula-F (KnownFormula n x y)) → FormulaSame n x y (roll-Formula (formulas_of n x y k))
    step k h =
        let d = formulas_of n x y k in
        let a = fold-roll-Formula Bool (formula_variable_level n) d in
        moved _ _ _ _ _ _ _ _ (fold-roll-Formula Bool (truth_level x) d) (fold-roll-Formula Bool (truth_level y) d)
        (fold-roll-Formula Bool (formula_small_level x) d) (fold-roll-Formula Bool (formula_small_level y) d) (formula_step n x y e k (sym a ∙ h))

pub truth_same : (n : ℕ) (x y : Point) (f : Formula) → SameBelow n x y → formula_names_below n f ≡ true → truth_of x f ≡ truth_of y f
truth_same n x y f e h = (formula_twice n x y e f h).0

pub eval_same : (n : ℕ) (x y : Point) (f : Formula) → SameBelow n x y → formula_names_below n f ≡ true → eval_of x f ≡ eval_of y f
eval_same n x y f e h =
    let p = formula_twice n x y e f h in
    ap answer (truth_agrees x f ∙ both_same (λ s b. only_if s b) _ _ _ _ p.1 p.0 ∙ sym (truth_agrees y f))
