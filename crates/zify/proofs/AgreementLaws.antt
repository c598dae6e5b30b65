-- Where each variable of an operation has the operation's value, the translation of a term has the term's value.
use Rattle.std.specs.Prelude.{◌≡◌, ℕ, ◌<◌, nat_lt, ℤ, pos, neg_ℤ, ◌+ℤ◌, ◌-ℤ◌, ◌*ℤ◌, int_le, unsigned_abs, List, [], ◌∷◌, ◌++◌, Bool, true, not, ◌&&◌, ◌||◌, if◌then◌else◌, refl}
use Rattle.std.specs.List.{AllByRecursion}
use Rattle.std.proofs.Common.{ap, sym, ◌∙◌, subst}
use Rattle.std.proofs.lemmas.Bool.{and_parts}
use Rattle.mm_num.specs.Power.{power}
use Rattle.goal_ast.specs.declared.term.Sort.{Sort}
use Rattle.goal_ast.specs.declared.term.Sort.TheVariants as sorts
use Rattle.goal_ast.specs.declared.term.Fn1.{Fn1}
use Rattle.goal_ast.specs.declared.term.Fn1.TheVariants.{ZSucc, ZPred, ZOpp, ZAbs, ZSgn, S, NatPred, NSucc, NPred, PosSucc, PosPred, OfNat, OfN, OfPos, ToNat, ToN}
use Rattle.goal_ast.specs.declared.term.Term.{Term}
use Rattle.goal_ast.specs.declared.term.Term.TheVariants as terms
use Rattle.goal_ast.specs.declared.term.Term.TheOpen.{Term-F}
use Rattle.goal_ast.specs.declared.term.Term.TheViews.{roll-Term}
use Rattle.goal_ast.specs.declared.term.Term.TheFolds.{map-Term, fold-roll-Term, para-roll-Term, ind-Term}
use Rattle.goal_ast.specs.declared.formula.BCmp.{BCmp}
use Rattle.goal_ast.specs.declared.formula.BCmp.TheVariants as tests
use Rattle.goal_ast.specs.declared.formula.BFn.{BFn}
use Rattle.goal_ast.specs.declared.formula.BFn.TheVariants.{Imp, Xor, Eqb}
use Rattle.goal_ast.specs.declared.formula.Cmp.{Cmp}
use Rattle.goal_ast.specs.declared.formula.Cmp.TheVariants as cmps
use Rattle.goal_ast.specs.declared.formula.BTerm.{BTerm}
use Rattle.goal_ast.specs.declared.formula.BTerm.TheOpen.{BTerm-F}
use Rattle.goal_ast.specs.declared.formula.BTerm.TheViews.{roll-BTerm}
use Rattle.goal_ast.specs.declared.formula.BTerm.TheFolds.{map-BTerm, fold-roll-BTerm, ind-BTerm}
use Rattle.goal_ast.specs.declared.formula.Formula.{Formula}
use Rattle.goal_ast.specs.declared.formula.Formula.TheOpen.{Formula-F}
use Rattle.goal_ast.specs.declared.formula.Formula.TheViews.{roll-Formula}
use Rattle.goal_ast.specs.declared.formula.Formula.TheFolds.{map-Formula, fold-roll-Formula, ind-Formula}
use Rattle.goal_ast.specs.Truth.{Point, stopped, call_1, value_level, value_of, compare, test, same, call_bool, bool_level, bool_of, truth_level, truth_of}
use Rattle.goal_ast.specs.Variables.{SameBelow, variable_level, names_below, bool_variable_level, bool_names_below, formula_variable_level, formula_names_below}
use Rattle.goal_ast.specs.Divisors.{divisor_level, divisors_fit, bool_divisor_level, bool_divisors_fit, formula_divisor_level, formula_divisors_fit}
use Rattle.goal_ast.specs.Equality.{parts_of}
use Rattle.goal_ast.proofs.CountingLaws.{both_same}
use Rattle.zify.specs.declared.term.ZTerm.{ZTerm}
use Rattle.zify.specs.declared.term.ZTerm.TheVariants as zterms
use Rattle.zify.specs.declared.form.ZForm.{ZForm}
use Rattle.zify.specs.declared.form.ZForm.TheVariants as forms
use Rattle.zify.specs.Truth.{z_value_of, z_truth_of}
use Rattle.zify.specs.Operations.{operations as operations_in}
use Rattle.zify.specs.Operations.{is_plain, has_variable, where_true, operations_level, operations, bool_operations_level, bool_operations, formula_operations_level, formula_operations}
use Rattle.zify.specs.Translation.{Table, number_of, variable_of, number, plain_call, term_level, term_of, cmp_of, call_form, bool_form_level, bool_form_of, form_level, form_of}
use Rattle.zify.proofs.ValueLaws.{value_lit, value_variable, value_neg, value_add, value_sub, value_mul, value_pow, value_number, truth_true, truth_false, truth_atom, truth_not, truth_and, truth_or, truth_imp, truth_iff}
use Rattle.zify.proofs.ConditionLaws.{defined, remainder_value}
use Rattle.zify.proofs.TableLaws.{InTable}
use Rattle.mm_num.proofs.TestLaws.{is_below}
use Rattle.mm_num.proofs.ListLaws.{all_split}

-- the translation has the value of the term, at two points
abbrev pub Agrees : Table → Point → Point → Term → Type 0
Agrees e y x t = z_value_of y (term_of e t) ≡ value_of x t

-- y gives the bound variables the values that x gives them, and the variable of each operation whose operands agree
-- the operation's value
pub record Explains (e : Table) (y x : Point) : Type 0 where
  pub bound : SameBelow e.bound y x
  pub known : (d : Term-F Term) (t : Term) → roll-Term d ≡ t → defined d ≡ true → InTable e t → AllByRecursion (Agrees e y x) (parts_of d) → y (number_of e t) ≡ value_level x (map-Term Term ℤ (value_of x) d)

-- the operations of a term are in the table, its variables are bound, and its divisors aren't 0
pub record InScope (e : Table) (t : Term) : Type 0 where
  pub operations : AllByRecursion (InTable e) (operations_in t)
  pub named : names_below e.bound t ≡ true
  pub divisors : divisors_fit t ≡ true

abbrev TermAgrees : Table → Point → Point → Term → Type 0
TermAgrees e y x t = InScope e t → Agrees e y x t

abbrev Known : Table → Point → Point → Type 0
Known e y x = (t : Term) × TermAgrees e y x t

abbrev terms_in : (e : Table) (y x : Point) → Term-F (Known e y x) → Term-F Term
terms_in e y x k = map-Term (Known e y x) Term (λ p. p.0) k

-- the value of an operation's variable
variable_known : (e : Table) (y x : Point) → Explains e y x → (d : Term-F Term) (t : Term) → roll-Term d ≡ t → defined d ≡ true → InTable e t → AllByRecursion (Agrees e y x) (parts_of d)
    → z_value_of y (variable_of e t) ≡ value_level x (map-Term Term ℤ (value_of x) d)
variable_known e y x w d t r f i a = value_variable y (number_of e t) ∙ w.known d t r f i a

difference_agrees : (e : Table) (y x : Point) → Explains e y x → (s : Sort) (a b : Term) → Agrees e y x a → Agrees e y x b → AllByRecursion (InTable e) (where_true (not (is_plain s)) (terms.Sub s a b))
    → z_value_of y (if is_plain s then zterms.Sub (term_of e a) (term_of e b) else variable_of e (terms.Sub s a b)) ≡ stopped s (value_of x a -ℤ value_of x b)
difference_agrees e y x w sorts.Int a b i j h = value_sub y (term_of e a) (term_of e b) ∙ both_same (λ m n. m -ℤ n) _ _ _ _ i j
difference_agrees e y x w sorts.Bool a b i j h = value_sub y (term_of e a) (term_of e b) ∙ both_same (λ m n. m -ℤ n) _ _ _ _ i j
difference_agrees e y x w sorts.Bin a b i j h = variable_known e y x w (Term-F.Sub sorts.Bin a b) (terms.Sub sorts.Bin a b) (terms.rolls-Sub sorts.Bin a b) refl h.0 (i, (j, tt))
difference_agrees e y x w sorts.Nat a b i j h = variable_known e y x w (Term-F.Sub sorts.Nat a b) (terms.Sub sorts.Nat a b) (terms.rolls-Sub sorts.Nat a b) refl h.0 (i, (j, tt))
difference_agrees e y x w sorts.Pos a b i j h = variable_known e y x w (Term-F.Sub sorts.Pos a b) (terms.Sub sorts.Pos a b) (terms.rolls-Sub sorts.Pos a b) refl h.0 (i, (j, tt))

plus_one : (y : Point) (a : ZTerm) (z : ℤ) → z_value_of y a ≡ z → z_value_of y (zterms.Add a (number (pos 1))) ≡ z +ℤ pos 1
plus_one y a z e = value_add y a (number (pos 1)) ∙ both_same (λ m n. m +ℤ n) _ _ _ _ e (value_number y (pos 1))

call_known : (e : Table) (y x : Point) → Explains e y x → (f : Fn1) (a : Term) → Agrees e y x a → has_variable f ≡ true → InTable e (terms.Call1 f a) → z_value_of y (variable_of e (terms.Call1 f a)) ≡ call_1 f (value_of x a)
call_known e y x w f a i v h = variable_known e y x w (Term-F.Call1 f a) (terms.Call1 f a) (terms.rolls-Call1 f a) v h (i, tt)

call_agrees : (e : Table) (y x : Point) → Explains e y x → (f : Fn1) (a : Term) → Agrees e y x a → AllByRecursion (InTable e) (where_true (has_variable f) (terms.Call1 f a))
    → z_value_of y (if has_variable f then variable_of e (terms.Call1 f a) else plain_call f (term_of e a)) ≡ call_1 f (value_of x a)
call_agrees e y x w ZSucc a i h = plus_one y (term_of e a) _ i
call_agrees e y x w ZPred a i h = value_sub y (term_of e a) (number (pos 1)) ∙ both_same (λ m n. m -ℤ n) _ _ _ _ i (value_number y (pos 1))
call_agrees e y x w ZOpp a i h = value_neg y (term_of e a) ∙ ap neg_ℤ i
call_agrees e y x w ZAbs a i h = call_known e y x w ZAbs a i refl h.0
call_agrees e y x w ZSgn a i h = call_known e y x w ZSgn a i refl h.0
call_agrees e y x w S a i h = plus_one y (term_of e a) _ i
call_agrees e y x w NatPred a i h = call_known e y x w NatPred a i refl h.0
call_agrees e y x w NSucc a i h = plus_one y (term_of e a) _ i
call_agrees e y x w NPred a i h = call_known e y x w NPred a i refl h.0
call_agrees e y x w PosSucc a i h = plus_one y (term_of e a) _ i
call_agrees e y x w PosPred a i h = call_known e y x w PosPred a i refl h.0
call_agrees e y x w OfNat a i h = i
call_agrees e y x w OfN a i h = i
call_agrees e y x w OfPos a i h = i
call_agrees e y x w ToNat a i h = call_known e y x w ToNat a i refl h.0
call_agrees e y x w ToN a i h = call_known e y x w ToN a i refl h.0

-- what is in scope of a node is in scope of its parts
pub in_scope : (e : Table) (t : Term) → AllByRecursion (InTable e) (operations t) → names_below e.bound t ≡ true → divisors_fit t ≡ true → InScope e t
in_scope e t h n d = record { operations = h; named = n; divisors = d }

pub pair_scope : (e : Table) (a b : Term) → AllByRecursion (InTable e) (operations a ++ operations b) → (names_below e.bound a && names_below e.bound b) ≡ true → (divisors_fit a && divisors_fit b) ≡ true → InScope e a × InScope e b
pair_scope e a b h n d =
    let p = all_split (InTable e) (operations a) (operations b) h in
    let q = and_parts _ _ n in
    let r = and_parts _ _ d in
    (in_scope e a p.0 q.0 r.0, in_scope e b p.1 q.1 r.1)

level : (e : Table) (y x : Point) → Explains e y x → (k : Term-F (Known e y x))
    → AllByRecursion (InTable e) (operations_level (map-Term Term (Term × List Term) (λ t. (t, operations t)) (terms_in e y x k)))
    → variable_level e.bound (map-Term Term Bool (names_below e.bound) (terms_in e y x k)) ≡ true → divisor_level (map-Term Term Bool divisors_fit (terms_in e y x k)) ≡ true
    → z_value_of y (term_level e (map-Term Term (Term × ZTerm) (λ t. (t, term_of e t)) (terms_in e y x k))) ≡ value_level x (map-Term Term ℤ (value_of x) (terms_in e y x k))
level e y x w (Term-F.Lit n) h v d = value_lit y n
level e y x w (Term-F.Var i) h v d = value_variable y i ∙ w.bound i (is_below i e.bound v)
level e y x w (Term-F.Neg a) h v d = value_neg y (term_of e a.0) ∙ ap neg_ℤ (a.1 (in_scope e a.0 h v d))
level e y x w (Term-F.Add a b) h v d =
    let s = pair_scope e a.0 b.0 h v d in
    value_add y (term_of e a.0) (term_of e b.0) ∙ both_same (λ m n. m +ℤ n) _ _ _ _ (a.1 s.0) (b.1 s.1)
level e y x w (Term-F.Sub s a b) h v d =
    let p = all_split (InTable e) (operations a.0 ++ operations b.0) (where_true (not (is_plain s)) (terms.Sub s a.0 b.0)) h in
    let q = pair_scope e a.0 b.0 p.0 v d in
    difference_agrees e y x w s a.0 b.0 (a.1 q.0) (b.1 q.1) p.1
level e y x w (Term-F.Mul a b) h v d =
    let s = pair_scope e a.0 b.0 h v d in
    value_mul y (term_of e a.0) (term_of e b.0) ∙ both_same (λ m n. m *ℤ n) _ _ _ _ (a.1 s.0) (b.1 s.1)
level e y x w (Term-F.Pow a k) h v d = value_pow y (term_of e a.0) k ∙ ap (λ z. power z (unsigned_abs k)) (a.1 (in_scope e a.0 h v d))
level e y x w (Term-F.Div a k) h v d =
    let p = all_split (InTable e) (operations a.0) (terms.Div a.0 k ∷ []) h in
    let r = and_parts _ _ d in
    variable_known e y x w (Term-F.Div a.0 k) (terms.Div a.0 k) (terms.rolls-Div a.0 k) r.1 p.1.0 (a.1 (in_scope e a.0 p.0 v r.0), tt)
level e y x w (Term-F.Rem a k) h v d =
    let p = all_split (InTable e) (operations a.0) (terms.Div a.0 k ∷ []) h in
    let r = and_parts _ _ d in
    let i = a.1 (in_scope e a.0 p.0 v r.0) in
    let q = variable_known e y x w (Term-F.Div a.0 k) (terms.Div a.0 k) (terms.rolls-Div a.0 k) r.1 p.1.0 (i, tt) in
    remainder_value y (term_of e a.0) k (variable_of e (terms.Div a.0 k)) ∙ both_same (λ m n. m -ℤ k *ℤ n) _ _ _ _ i q
level e y x w (Term-F.Call1 f a) h v d =
    let p = all_split (InTable e) (operations a.0) (where_true (has_variable f) (terms.Call1 f a.0)) h in
    call_agrees e y x w f a.0 (a.1 (in_scope e a.0 p.0 v d)) p.1
level e y x w (Term-F.Call2 f a b) h v d =
    let p = all_split (InTable e) (operations a.0 ++ operations b.0) (terms.Call2 f a.0 b.0 ∷ []) h in
    let q = pair_scope e a.0 b.0 p.0 v d in
    variable_known e y x w (Term-F.Call2 f a.0 b.0) (terms.Call2 f a.0 b.0) (terms.rolls-Call2 f a.0 b.0) refl p.1.0 (a.1 q.0, (b.1 q.1, tt))

pub term_agrees : (e : Table) (y x : Point) → Explains e y x → (t : Term) → TermAgrees e y x t
term_agrees e y x w = ind-Term (TermAgrees e y x) (λ d k q. subst (λ (z : Term-F Term). TermAgrees e y x (roll-Term z)) q (step k))
  where
    step : (k : Term-F (Known e y x)) → TermAgrees e y x (roll-Term (terms_in e y x k))
    step k s =
        let d = terms_in e y x k in
        let o = para-roll-Term (List Term) operations_level d in
        let n = fold-roll-Term Bool (variable_level e.bound) d in
        let f = fold-roll-Term Bool divisor_level d in
        let z = para-roll-Term ZTerm (term_level e) d in
        let v = fold-roll-Term ℤ (value_level x) d in
        ap (z_value_of y) z ∙ level e y x w k (subst (AllByRecursion (InTable e)) o s.operations) (sym n ∙ s.named) (sym f ∙ s.divisors) ∙ sym v

-- ---- bool terms and formulas

cmp_tests : (c : BCmp) (a b : ℤ) → compare (cmp_of c) a b ≡ test c a b
cmp_tests tests.Eq a b = refl
cmp_tests tests.Lt a b = refl
cmp_tests tests.Le a b = refl
cmp_tests tests.Gt a b = refl
cmp_tests tests.Ge a b = refl

-- a comparison of terms in scope
atom_agrees : (e : Table) (y x : Point) → Explains e y x → (c : Cmp) (t u : Term) → InScope e t → InScope e u → z_truth_of y (forms.Atom c (term_of e t) (term_of e u)) ≡ compare c (value_of x t) (value_of x u)
atom_agrees e y x w c t u i j = truth_atom y c (term_of e t) (term_of e u) ∙ both_same (compare c) _ _ _ _ (term_agrees e y x w t i) (term_agrees e y x w u j)

iff_agrees : (y : Point) (f g : ZForm) (a b : Bool) → z_truth_of y f ≡ a → z_truth_of y g ≡ b → z_truth_of y (forms.Iff f g) ≡ same a b
iff_agrees y f g a b i j = truth_iff y f g ∙ both_same same _ _ _ _ i j

call_form_agrees : (y : Point) (o : BFn) (f g : ZForm) (a b : Bool) → z_truth_of y f ≡ a → z_truth_of y g ≡ b → z_truth_of y (call_form o f g) ≡ call_bool o a b
call_form_agrees y Imp f g a b i j = truth_imp y f g ∙ both_same (λ p q. not p || q) _ _ _ _ i j
call_form_agrees y Xor f g a b i j = truth_not y (forms.Iff f g) ∙ ap not (iff_agrees y f g a b i j)
call_form_agrees y Eqb f g a b i j = iff_agrees y f g a b i j

pub record BoolInScope (e : Table) (b : BTerm) : Type 0 where
  pub operations : AllByRecursion (InTable e) (bool_operations b)
  pub named : bool_names_below e.bound b ≡ true
  pub divisors : bool_divisors_fit b ≡ true

pub bool_in_scope : (e : Table) (b : BTerm) → AllByRecursion (InTable e) (bool_operations b) → bool_names_below e.bound b ≡ true → bool_divisors_fit b ≡ true → BoolInScope e b
bool_in_scope e b h n d = record { operations = h; named = n; divisors = d }

pub bools_scope : (e : Table) (a b : BTerm) → AllByRecursion (InTable e) (bool_operations a ++ bool_operations b) → (bool_names_below e.bound a && bool_names_below e.bound b) ≡ true
    → (bool_divisors_fit a && bool_divisors_fit b) ≡ true → BoolInScope e a × BoolInScope e b
bools_scope e a b h n d =
    let p = all_split (InTable e) (bool_operations a) (bool_operations b) h in
    let q = and_parts _ _ n in
    let r = and_parts _ _ d in
    (bool_in_scope e a p.0 q.0 r.0, bool_in_scope e b p.1 q.1 r.1)

abbrev BoolAgrees : Table → Point → Point → BTerm → Type 0
BoolAgrees e y x b = BoolInScope e b → z_truth_of y (bool_form_of e b) ≡ bool_of x b

abbrev KnownBool : Table → Point → Point → Type 0
KnownBool e y x = (b : BTerm) × BoolAgrees e y x b

abbrev bools_in : (e : Table) (y x : Point) → BTerm-F (KnownBool e y x) → BTerm-F BTerm
bools_in e y x k = map-BTerm (KnownBool e y x) BTerm (λ p. p.0) k

variable_holds : (e : Table) (y x : Point) → Explains e y x → (v : ℕ) → nat_lt v e.bound ≡ true → z_truth_of y (forms.Atom cmps.Ge (zterms.Var v) (number (pos 1))) ≡ int_le (pos 1) (x v)
variable_holds e y x w v h = truth_atom y cmps.Ge (zterms.Var v) (number (pos 1)) ∙ both_same (compare cmps.Ge) _ _ _ _ (value_variable y v ∙ w.bound v (is_below v e.bound h)) (value_number y (pos 1))

bool_step : (e : Table) (y x : Point) → Explains e y x → (k : BTerm-F (KnownBool e y x))
    → AllByRecursion (InTable e) (bool_operations_level (map-BTerm BTerm (List Term) bool_operations (bools_in e y x k)))
    → bool_variable_level e.bound (map-BTerm BTerm Bool (bool_names_below e.bound) (bools_in e y x k)) ≡ true → bool_divisor_level (map-BTerm BTerm Bool bool_divisors_fit (bools_in e y x k)) ≡ true
    → z_truth_of y (bool_form_level e (map-BTerm BTerm ZForm (bool_form_of e) (bools_in e y x k))) ≡ bool_level x (map-BTerm BTerm Bool (bool_of x) (bools_in e y x k))
bool_step e y x w BTerm-F.True h n d = truth_true y
bool_step e y x w BTerm-F.False h n d = truth_false y
bool_step e y x w (BTerm-F.Var v) h n d = variable_holds e y x w v n
bool_step e y x w (BTerm-F.Test c t u) h n d = let s = pair_scope e t u h n d in atom_agrees e y x w (cmp_of c) t u s.0 s.1 ∙ cmp_tests c (value_of x t) (value_of x u)
bool_step e y x w (BTerm-F.Not a) h n d = truth_not y (bool_form_of e a.0) ∙ ap not (a.1 (bool_in_scope e a.0 h n d))
bool_step e y x w (BTerm-F.And a b) h n d = let s = bools_scope e a.0 b.0 h n d in truth_and y (bool_form_of e a.0) (bool_form_of e b.0) ∙ both_same (λ p q. p && q) _ _ _ _ (a.1 s.0) (b.1 s.1)
bool_step e y x w (BTerm-F.Or a b) h n d = let s = bools_scope e a.0 b.0 h n d in truth_or y (bool_form_of e a.0) (bool_form_of e b.0) ∙ both_same (λ p q. p || q) _ _ _ _ (a.1 s.0) (b.1 s.1)
bool_step e y x w (BTerm-F.Call f a b) h n d = let s = bools_scope e a.0 b.0 h n d in call_form_agrees y f (bool_form_of e a.0) (bool_form_of e b.0) _ _ (a.1 s.0) (b.1 s.1)

pub bool_agrees : (e : Table) (y x : Point) → Explains e y x → (b : BTerm) → BoolAgrees e y x b
bool_agrees e y x w = ind-BTerm (BoolAgrees e y x) (λ d k q. subst (λ (z : BTerm-F BTerm). BoolAgrees e y x (roll-BTerm z)) q (step k))
  where
    step : (k : BTerm-F (KnownBool e y x)) → BoolAgrees e y x (roll-BTerm (bools_in e y x k))
    step k s =
        let d = bools_in e y x k in
        let o = fold-roll-BTerm (List Term) bool_operations_level d in
        let n = fold-roll-BTerm Bool (bool_variable_level e.bound) d in
        let f = fold-roll-BTerm Bool bool_divisor_level d in
        let z = fold-roll-BTerm ZForm (bool_form_level e) d in
        let v = fold-roll-BTerm Bool (bool_level x) d in
        ap (z_truth_of y) z ∙ bool_step e y x w k (subst (AllByRecursion (InTable e)) o s.operations) (sym n ∙ s.named) (sym f ∙ s.divisors) ∙ sym v

pub record FormulaInScope (e : Table) (f : Formula) : Type 0 where
  pub operations : AllByRecursion (InTable e) (formula_operations f)
  pub named : formula_names_below e.bound f ≡ true
  pub divisors : formula_divisors_fit f ≡ true

pub formula_in_scope : (e : Table) (f : Formula) → AllByRecursion (InTable e) (formula_operations f) → formula_names_below e.bound f ≡ true → formula_divisors_fit f ≡ true → FormulaInScope e f
formula_in_scope e f h n d = record { operations = h; named = n; divisors = d }

pub formulas_scope : (e : Table) (f g : Formula) → AllByRecursion (InTable e) (formula_operations f ++ formula_operations g) → (formula_names_below e.bound f && formula_names_below e.bound g) ≡ true
    → (formula_divisors_fit f && formula_divisors_fit g) ≡ true → FormulaInScope e f × FormulaInScope e g
formulas_scope e f g h n d =
    let p = all_split (InTable e) (formula_operations f) (formula_operations g) h in
    let q = and_parts _ _ n in
    let r = and_parts _ _ d in
    (formula_in_scope e f p.0 q.0 r.0, formula_in_scope e g p.1 q.1 r.1)

abbrev FormulaAgrees : Table → Point → Point → Formula → Type 0
FormulaAgrees e y x f = FormulaInScope e f → z_truth_of y (form_of e f) ≡ truth_of x f

abbrev KnownFormula : Table → Point → Point → Type 0
KnownFormula e y x = (f : Formula) × FormulaAgrees e y x f

abbrev formulas_in : (e : Table) (y x : Point) → Formula-F (KnownFormula e y x) → Formula-F Formula
formulas_in e y x k = map-Formula (KnownFormula e y x) Formula (λ p. p.0) k

-- three terms in scope
pub three_scope : (e : Table) (t u v : Term) → AllByRecursion (InTable e) (operations t ++ (operations u ++ operations v)) → (names_below e.bound t && (names_below e.bound u && names_below e.bound v)) ≡ true
    → (divisors_fit t && (divisors_fit u && divisors_fit v)) ≡ true → InScope e t × (InScope e u × InScope e v)
three_scope e t u v h n d =
    let p = all_split (InTable e) (operations t) (operations u ++ operations v) h in
    let q = and_parts _ _ n in
    let r = and_parts _ _ d in
    (in_scope e t p.0 q.0 r.0, pair_scope e u v p.1 q.1 r.1)

formula_step : (e : Table) (y x : Point) → Explains e y x → (k : Formula-F (KnownFormula e y x))
    → AllByRecursion (InTable e) (formula_operations_level (map-Formula Formula (List Term) formula_operations (formulas_in e y x k)))
    → formula_variable_level e.bound (map-Formula Formula Bool (formula_names_below e.bound) (formulas_in e y x k)) ≡ true → formula_divisor_level (map-Formula Formula Bool formula_divisors_fit (formulas_in e y x k)) ≡ true
    → z_truth_of y (form_level e (map-Formula Formula ZForm (form_of e) (formulas_in e y x k))) ≡ truth_level x (map-Formula Formula Bool (truth_of x) (formulas_in e y x k))
formula_step e y x w Formula-F.True h n d = truth_true y
formula_step e y x w Formula-F.False h n d = truth_false y
formula_step e y x w (Formula-F.Atom c t u) h n d = let s = pair_scope e t u h n d in atom_agrees e y x w c t u s.0 s.1
formula_step e y x w (Formula-F.Chain t b u c v) h n d =
    let s = three_scope e t u v h n d in
    truth_and y (forms.Atom b (term_of e t) (term_of e u)) (forms.Atom c (term_of e u) (term_of e v))
    ∙ both_same (λ p q. p && q) _ _ _ _ (atom_agrees e y x w b t u s.0 s.1.0) (atom_agrees e y x w c u v s.1.0 s.1.1)
formula_step e y x w (Formula-F.Same b c) h n d =
    let s = bools_scope e b c h n d in
    iff_agrees y (bool_form_of e b) (bool_form_of e c) _ _ (bool_agrees e y x w b s.0) (bool_agrees e y x w c s.1)
formula_step e y x w (Formula-F.Differ b c) h n d =
    let s = bools_scope e b c h n d in
    truth_not y (forms.Iff (bool_form_of e b) (bool_form_of e c)) ∙ ap not (iff_agrees y (bool_form_of e b) (bool_form_of e c) _ _ (bool_agrees e y x w b s.0) (bool_agrees e y x w c s.1))
formula_step e y x w (Formula-F.Not f) h n d = truth_not y (form_of e f.0) ∙ ap not (f.1 (formula_in_scope e f.0 h n d))
formula_step e y x w (Formula-F.And f g) h n d = let s = formulas_scope e f.0 g.0 h n d in truth_and y (form_of e f.0) (form_of e g.0) ∙ both_same (λ p q. p && q) _ _ _ _ (f.1 s.0) (g.1 s.1)
formula_step e y x w (Formula-F.Or f g) h n d = let s = formulas_scope e f.0 g.0 h n d in truth_or y (form_of e f.0) (form_of e g.0) ∙ both_same (λ p q. p || q) _ _ _ _ (f.1 s.0) (g.1 s.1)
formula_step e y x w (Formula-F.Imp f g) h n d = let s = formulas_scope e f.0 g.0 h n d in truth_imp y (form_of e f.0) (form_of e g.0) ∙ both_same (λ p q. not p || q) _ _ _ _ (f.1 s.0) (g.1 s.1)
formula_step e y x w (Formula-F.Iff f g) h n d = let s = formulas_scope e f.0 g.0 h n d in iff_agrees y (form_of e f.0) (form_of e g.0) _ _ (f.1 s.0) (g.1 s.1)

pub formula_agrees : (e : Table) (y x : Point) → Explains e y x → (f : Formula) → FormulaAgrees e y x f
formula_agrees e y x w = ind-Formula (FormulaAgrees e y x) (λ d k q. subst (λ (z : Formula-F Formula). FormulaAgrees e y x (roll-Formula z)) q (step k))
  where
    step : (k : Formula-F (KnownFormula e y x)) → FormulaAgrees e y x (roll-Formula (formulas_in e y x k))
    step k s =
        let d = formulas_in e y x k in
        let o = fold-roll-Formula (List Term) formula_operations_level d in
        let n = fold-roll-Formula Bool (formula_variable_level e.bound) d in
        let f = fold-roll-Formula Bool formula_divisor_level d in
        let z = fold-roll-Formula ZForm (form_level e) d in
        let v = fold-roll-Formula Bool (truth_level x) d in
        ap (z_truth_of y) z ∙ formula_step e y x w k (subst (AllByRecursion (InTable e)) o s.operations) (sym n ∙ s.named) (sym f ∙ s.divisors) ∙ sym v
