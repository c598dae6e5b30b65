-- The bounds found on a goal's terms are the measures of its translation.
use Rattle.std.specs.Prelude.{◌≡◌, ℕ, suc, ℤ, pos, negsuc, unsigned_abs, List, [], ◌∷◌, ◌++◌, Bool, true, false, not, if◌then◌else◌, refl}
use Rattle.std.proofs.Common.{ap, sym, ◌∙◌, subst}
use Rattle.goal_ast.specs.declared.term.Sort.{Sort}
use Rattle.goal_ast.specs.declared.term.Sort.TheVariants as sorts
use Rattle.goal_ast.specs.declared.term.Fn1.{Fn1}
use Rattle.goal_ast.specs.declared.term.Fn1.TheVariants.{ZSucc, ZPred, ZOpp, ZAbs, ZSgn, S, NatPred, NSucc, NPred, PosSucc, PosPred, OfNat, OfN, OfPos, ToNat, ToN}
use Rattle.goal_ast.specs.declared.term.Fn2.{Fn2}
use Rattle.goal_ast.specs.declared.term.Fn2.TheVariants.{ZMin, ZMax, NatMin, NatMax, NMin, NMax, PosMin, PosMax}
use Rattle.goal_ast.specs.declared.term.Term.{Term}
use Rattle.goal_ast.specs.declared.term.Term.TheVariants as terms
use Rattle.goal_ast.specs.declared.term.Term.TheOpen.{Term-F}
use Rattle.goal_ast.specs.declared.term.Term.TheViews.{roll-Term, out-Term, out-roll-Term}
use Rattle.goal_ast.specs.declared.term.Term.TheFolds.{map-Term, fold-roll-Term, para-roll-Term, ind-Term}
use Rattle.goal_ast.specs.declared.formula.Cmp.{Cmp}
use Rattle.goal_ast.specs.declared.formula.Cmp.TheVariants as cmps
use Rattle.goal_ast.specs.declared.formula.BFn.{BFn}
use Rattle.goal_ast.specs.declared.formula.BFn.TheVariants.{Imp, Xor, Eqb}
use Rattle.goal_ast.specs.declared.formula.BTerm.{BTerm}
use Rattle.goal_ast.specs.declared.formula.BTerm.TheOpen.{BTerm-F}
use Rattle.goal_ast.specs.declared.formula.BTerm.TheViews.{roll-BTerm}
use Rattle.goal_ast.specs.declared.formula.BTerm.TheFolds.{map-BTerm, fold-roll-BTerm, ind-BTerm}
use Rattle.goal_ast.specs.declared.formula.Formula.{Formula}
use Rattle.goal_ast.specs.declared.formula.Formula.TheOpen.{Formula-F}
use Rattle.goal_ast.specs.declared.formula.Formula.TheViews.{roll-Formula}
use Rattle.goal_ast.specs.declared.formula.Formula.TheFolds.{map-Formula, fold-roll-Formula, ind-Formula}
use Rattle.goal_ast.proofs.CountingLaws.{both_same}
use Rattle.zify.specs.declared.term.ZTerm.{ZTerm}
use Rattle.zify.specs.declared.term.ZTerm.TheOpen.{ZTerm-F}
use Rattle.zify.specs.declared.term.ZTerm.TheVariants as zterms
use Rattle.zify.specs.declared.term.ZTerm.TheFolds.{fold-roll-ZTerm}
use Rattle.zify.specs.declared.form.ZForm.{ZForm}
use Rattle.zify.specs.declared.form.ZForm.TheOpen.{ZForm-F}
use Rattle.zify.specs.declared.form.ZForm.TheVariants as forms
use Rattle.zify.specs.declared.form.ZForm.TheFolds.{fold-roll-ZForm}
use Rattle.goal_measure.specs.declared.measure.Measure.{Measure}
use Rattle.goal_measure.specs.declared.weigh.Weighed.{Weighed}
use Rattle.goal_measure.specs.Measure.{of_literal, of_variable, of_sum, of_product, of_power, of_atom, nothing, greater}
use Rattle.zify.specs.Measure.{measure_level, measure_of, greatest_level, greatest_in}
use Rattle.zify.specs.Operations.{is_plain, has_variable, where_true, operations_level, operations, bool_operations_level, bool_operations, formula_operations_level, formula_operations}
use Rattle.zify.specs.Translation.{Table, variable_of, number, remainder_term, plain_call, term_level, term_of, equals, cases, difference_condition, call_condition, call_2_condition, quotient_condition, condition_level, condition_of, cmp_of, call_form, bool_form_level, bool_form_of, form_level, form_of}
use Rattle.goal_measure.specs.Bounding.{cap, of_literal_capped, sum_capped, atom_capped, cases_bound, difference_bound, remainder_bound, quotient_bound, predecessor_bound, sign_bound, call_bound, called_bound, difference_term_bound, weighed_level, weighed, compared_bound, bool_bound_level, bool_bound, formula_bound_level, formula_bound}
use Rattle.goal_measure.proofs.BoundLaws.{cap_sum, cap_atom, cap_product, cap_power, cap_greater, greater_joins, greater_turns, greater_first, greater_last, greater_shares}

-- ---- measures of terms and greatest ones of formulas, by their kinds

measure_lit : (n : ℤ) → measure_of (zterms.Lit n) ≡ of_literal (unsigned_abs n)
measure_lit n = ap measure_of (sym (zterms.rolls-Lit n)) ∙ fold-roll-ZTerm Measure measure_level (ZTerm-F.Lit n)

measure_variable : (v : ℕ) → measure_of (zterms.Var v) ≡ of_variable
measure_variable v = ap measure_of (sym (zterms.rolls-Var v)) ∙ fold-roll-ZTerm Measure measure_level (ZTerm-F.Var v)

measure_neg : (a : ZTerm) → measure_of (zterms.Neg a) ≡ measure_of a
measure_neg a = ap measure_of (sym (zterms.rolls-Neg a)) ∙ fold-roll-ZTerm Measure measure_level (ZTerm-F.Neg a)

measure_add : (a b : ZTerm) → measure_of (zterms.Add a b) ≡ of_sum (measure_of a) (measure_of b)
measure_add a b = ap measure_of (sym (zterms.rolls-Add a b)) ∙ fold-roll-ZTerm Measure measure_level (ZTerm-F.Add a b)

measure_sub : (a b : ZTerm) → measure_of (zterms.Sub a b) ≡ of_sum (measure_of a) (measure_of b)
measure_sub a b = ap measure_of (sym (zterms.rolls-Sub a b)) ∙ fold-roll-ZTerm Measure measure_level (ZTerm-F.Sub a b)

measure_mul : (a b : ZTerm) → measure_of (zterms.Mul a b) ≡ of_product (measure_of a) (measure_of b)
measure_mul a b = ap measure_of (sym (zterms.rolls-Mul a b)) ∙ fold-roll-ZTerm Measure measure_level (ZTerm-F.Mul a b)

measure_pow : (a : ZTerm) (k : ℤ) → measure_of (zterms.Pow a k) ≡ of_power (measure_of a) (unsigned_abs k)
measure_pow a k = ap measure_of (sym (zterms.rolls-Pow a k)) ∙ fold-roll-ZTerm Measure measure_level (ZTerm-F.Pow a k)

measure_number : (k : ℤ) → measure_of (number k) ≡ of_literal (unsigned_abs k)
measure_number (pos n) = measure_lit (pos n)
measure_number (negsuc n) = measure_neg (zterms.Lit (pos (suc n))) ∙ measure_lit (pos (suc n))

greatest_true : greatest_in forms.True ≡ nothing
greatest_true = ap greatest_in (sym forms.rolls-True) ∙ fold-roll-ZForm Measure greatest_level ZForm-F.True

greatest_false : greatest_in forms.False ≡ nothing
greatest_false = ap greatest_in (sym forms.rolls-False) ∙ fold-roll-ZForm Measure greatest_level ZForm-F.False

greatest_atom : (c : Cmp) (t u : ZTerm) → greatest_in (forms.Atom c t u) ≡ of_atom (measure_of t) (measure_of u)
greatest_atom c t u = ap greatest_in (sym (forms.rolls-Atom c t u)) ∙ fold-roll-ZForm Measure greatest_level (ZForm-F.Atom c t u)

greatest_not : (f : ZForm) → greatest_in (forms.Not f) ≡ greatest_in f
greatest_not f = ap greatest_in (sym (forms.rolls-Not f)) ∙ fold-roll-ZForm Measure greatest_level (ZForm-F.Not f)

greatest_and : (f g : ZForm) → greatest_in (forms.And f g) ≡ greater (greatest_in f) (greatest_in g)
greatest_and f g = ap greatest_in (sym (forms.rolls-And f g)) ∙ fold-roll-ZForm Measure greatest_level (ZForm-F.And f g)

greatest_or : (f g : ZForm) → greatest_in (forms.Or f g) ≡ greater (greatest_in f) (greatest_in g)
greatest_or f g = ap greatest_in (sym (forms.rolls-Or f g)) ∙ fold-roll-ZForm Measure greatest_level (ZForm-F.Or f g)

greatest_imp : (f g : ZForm) → greatest_in (forms.Imp f g) ≡ greater (greatest_in f) (greatest_in g)
greatest_imp f g = ap greatest_in (sym (forms.rolls-Imp f g)) ∙ fold-roll-ZForm Measure greatest_level (ZForm-F.Imp f g)

greatest_iff : (f g : ZForm) → greatest_in (forms.Iff f g) ≡ greater (greatest_in f) (greatest_in g)
greatest_iff f g = ap greatest_in (sym (forms.rolls-Iff f g)) ∙ fold-roll-ZForm Measure greatest_level (ZForm-F.Iff f g)

-- ---- those of conditions

-- what a term's measures are up to the limits
abbrev pub size_of : ZTerm → Measure
size_of t = cap (measure_of t)

abbrev pub extent_of : ZForm → Measure
extent_of f = cap (greatest_in f)

size_variable : (v : ℕ) → size_of (zterms.Var v) ≡ of_variable
size_variable v = ap cap (measure_variable v)

size_number : (k : ℤ) → size_of (number k) ≡ of_literal_capped (unsigned_abs k)
size_number k = ap cap (measure_number k)

size_add : (a b : ZTerm) → size_of (zterms.Add a b) ≡ sum_capped (size_of a) (size_of b)
size_add a b = ap cap (measure_add a b) ∙ sym (cap_sum (measure_of a) (measure_of b))

size_sub : (a b : ZTerm) → size_of (zterms.Sub a b) ≡ sum_capped (size_of a) (size_of b)
size_sub a b = ap cap (measure_sub a b) ∙ sym (cap_sum (measure_of a) (measure_of b))

size_mul : (a b : ZTerm) → size_of (zterms.Mul a b) ≡ cap (of_product (size_of a) (size_of b))
size_mul a b = ap cap (measure_mul a b) ∙ sym (cap_product (measure_of a) (measure_of b))

size_pow : (a : ZTerm) (k : ℤ) → size_of (zterms.Pow a k) ≡ cap (of_power (size_of a) (unsigned_abs k))
size_pow a k = ap cap (measure_pow a k) ∙ sym (cap_power (measure_of a) (unsigned_abs k))

size_neg : (a : ZTerm) → size_of (zterms.Neg a) ≡ size_of a
size_neg a = ap cap (measure_neg a)

-- with parts of known sizes
extent_atom : (c : Cmp) (t u : ZTerm) (a b : Measure) → size_of t ≡ a → size_of u ≡ b → extent_of (forms.Atom c t u) ≡ atom_capped a b
extent_atom c t u a b e f = ap cap (greatest_atom c t u) ∙ sym (cap_atom (measure_of t) (measure_of u)) ∙ both_same atom_capped _ _ _ _ e f

extent_and : (f g : ZForm) (a b : Measure) → extent_of f ≡ a → extent_of g ≡ b → extent_of (forms.And f g) ≡ greater a b
extent_and f g a b i j = ap cap (greatest_and f g) ∙ sym (cap_greater (greatest_in f) (greatest_in g)) ∙ both_same greater _ _ _ _ i j

extent_or : (f g : ZForm) (a b : Measure) → extent_of f ≡ a → extent_of g ≡ b → extent_of (forms.Or f g) ≡ greater a b
extent_or f g a b i j = ap cap (greatest_or f g) ∙ sym (cap_greater (greatest_in f) (greatest_in g)) ∙ both_same greater _ _ _ _ i j

extent_true : extent_of forms.True ≡ nothing
extent_true = ap cap greatest_true

extent_case : (c : Cmp) (t u : ZTerm) (i : ℕ) (v : ZTerm) (a b m : Measure) → size_of t ≡ a → size_of u ≡ b → size_of v ≡ m
    → extent_of (forms.And (forms.Atom c t u) (equals (zterms.Var i) v)) ≡ greater (atom_capped a b) (atom_capped of_variable m)
extent_case c t u i v a b m e f g = extent_and (forms.Atom c t u) (equals (zterms.Var i) v) _ _ (extent_atom c t u a b e f) (extent_atom cmps.Eq (zterms.Var i) v of_variable m (size_variable i) g)

extent_cases : (c d : Cmp) (t u : ZTerm) (i : ℕ) (v w : ZTerm) (a b m n : Measure) → size_of t ≡ a → size_of u ≡ b → size_of v ≡ m → size_of w ≡ n
    → extent_of (cases c d t u (zterms.Var i) v w) ≡ cases_bound a b m n
extent_cases c d t u i v w a b m n e f g h =
    extent_or (forms.And (forms.Atom c t u) (equals (zterms.Var i) v)) (forms.And (forms.Atom d t u) (equals (zterms.Var i) w)) _ _ (extent_case c t u i v a b m e f g) (extent_case d t u i w a b n e f h)

difference_extent : (s : Sort) (a b : ZTerm) (i : ℕ) → extent_of (difference_condition s a b (zterms.Var i)) ≡ difference_bound s (size_of a) (size_of b)
difference_extent sorts.Int a b i = extent_true
difference_extent sorts.Bool a b i = extent_true
difference_extent sorts.Bin a b i = extent_cases cmps.Ge cmps.Lt a b i (zterms.Sub a b) (number (pos 0)) _ _ _ _ refl refl (size_sub a b) (size_number (pos 0))
difference_extent sorts.Nat a b i = extent_cases cmps.Ge cmps.Lt a b i (zterms.Sub a b) (number (pos 0)) _ _ _ _ refl refl (size_sub a b) (size_number (pos 0))
difference_extent sorts.Pos a b i = extent_cases cmps.Gt cmps.Le a b i (zterms.Sub a b) (number (pos 1)) _ _ _ _ refl refl (size_sub a b) (size_number (pos 1))

size_remainder : (a : ZTerm) (k : ℤ) (i : ℕ) → size_of (remainder_term a k (zterms.Var i)) ≡ remainder_bound (size_of a) k
size_remainder a k i = size_sub a (zterms.Mul (number k) (zterms.Var i))
    ∙ ap (λ m. sum_capped (size_of a) m) (size_mul (number k) (zterms.Var i) ∙ both_same (λ m n. cap (of_product m n)) _ _ _ _ (size_number k) (size_variable i))

quotient_extent : (a : ZTerm) (k : ℤ) (i : ℕ) → extent_of (quotient_condition a k (zterms.Var i)) ≡ quotient_bound (size_of a) k
quotient_extent a (pos n) i =
    let r = remainder_term a (pos n) (zterms.Var i) in
    let e = size_remainder a (pos n) i in
    extent_and (forms.Atom cmps.Ge r (number (pos 0))) (forms.Atom cmps.Lt r (number (pos n))) _ _
    (extent_atom cmps.Ge r (number (pos 0)) _ _ e (size_number (pos 0))) (extent_atom cmps.Lt r (number (pos n)) _ _ e (size_number (pos n)))
quotient_extent a (negsuc n) i =
    let r = remainder_term a (negsuc n) (zterms.Var i) in
    let e = size_remainder a (negsuc n) i in
    extent_and (forms.Atom cmps.Le r (number (pos 0))) (forms.Atom cmps.Gt r (number (negsuc n))) _ _
    (extent_atom cmps.Le r (number (pos 0)) _ _ e (size_number (pos 0))) (extent_atom cmps.Gt r (number (negsuc n)) _ _ e (size_number (negsuc n)))

predecessor_extent : (n m : ℕ) (a : ZTerm) (i : ℕ)
    → extent_of (cases cmps.Ge cmps.Lt a (number (pos n)) (zterms.Var i) (zterms.Sub a (number (pos 1))) (number (pos m))) ≡ predecessor_bound n m (size_of a)
predecessor_extent n m a i = extent_cases cmps.Ge cmps.Lt a (number (pos n)) i (zterms.Sub a (number (pos 1))) (number (pos m)) _ _ _ _ refl (size_number (pos n))
    (size_sub a (number (pos 1)) ∙ ap (λ k. sum_capped (size_of a) k) (size_number (pos 1))) (size_number (pos m))

sign_extent : (a : ZTerm) (i : ℕ) → extent_of (call_condition ZSgn a (zterms.Var i)) ≡ sign_bound (size_of a)
sign_extent a i =
    extent_or (forms.And (forms.Atom cmps.Gt a (number (pos 0))) (equals (zterms.Var i) (number (pos 1)))) (cases cmps.Eq cmps.Lt a (number (pos 0)) (zterms.Var i) (number (pos 0)) (number (negsuc 0))) _ _
    (extent_case cmps.Gt a (number (pos 0)) i (number (pos 1)) _ _ _ refl (size_number (pos 0)) (size_number (pos 1)))
    (extent_cases cmps.Eq cmps.Lt a (number (pos 0)) i (number (pos 0)) (number (negsuc 0)) _ _ _ _ refl (size_number (pos 0)) (size_number (pos 0)) (size_number (negsuc 0)))

call_extent : (f : Fn1) (a : ZTerm) (i : ℕ) → extent_of (call_condition f a (zterms.Var i)) ≡ call_bound f (size_of a)
call_extent ZSucc a i = extent_true
call_extent ZPred a i = extent_true
call_extent ZOpp a i = extent_true
call_extent ZAbs a i = extent_cases cmps.Ge cmps.Lt a (number (pos 0)) i a (zterms.Neg a) _ _ _ _ refl (size_number (pos 0)) refl (size_neg a)
call_extent ZSgn a i = sign_extent a i
call_extent S a i = extent_true
call_extent NatPred a i = predecessor_extent 1 0 a i
call_extent NSucc a i = extent_true
call_extent NPred a i = predecessor_extent 1 0 a i
call_extent PosSucc a i = extent_true
call_extent PosPred a i = predecessor_extent 2 1 a i
call_extent OfNat a i = extent_true
call_extent OfN a i = extent_true
call_extent OfPos a i = extent_true
call_extent ToNat a i = extent_cases cmps.Ge cmps.Lt a (number (pos 0)) i a (number (pos 0)) _ _ _ _ refl (size_number (pos 0)) refl (size_number (pos 0))
call_extent ToN a i = extent_cases cmps.Ge cmps.Lt a (number (pos 0)) i a (number (pos 0)) _ _ _ _ refl (size_number (pos 0)) refl (size_number (pos 0))

two_extent : (c d : Cmp) (a b : ZTerm) (i : ℕ) → extent_of (cases c d a b (zterms.Var i) a b) ≡ cases_bound (size_of a) (size_of b) (size_of a) (size_of b)
two_extent c d a b i = extent_cases c d a b i a b _ _ _ _ refl refl refl refl

call_2_extent : (f : Fn2) (a b : ZTerm) (i : ℕ) → extent_of (call_2_condition f a b (zterms.Var i)) ≡ cases_bound (size_of a) (size_of b) (size_of a) (size_of b)
call_2_extent ZMin a b i = two_extent cmps.Le cmps.Gt a b i
call_2_extent ZMax a b i = two_extent cmps.Ge cmps.Lt a b i
call_2_extent NatMin a b i = two_extent cmps.Le cmps.Gt a b i
call_2_extent NatMax a b i = two_extent cmps.Ge cmps.Lt a b i
call_2_extent NMin a b i = two_extent cmps.Le cmps.Gt a b i
call_2_extent NMax a b i = two_extent cmps.Ge cmps.Lt a b i
call_2_extent PosMin a b i = two_extent cmps.Le cmps.Gt a b i
call_2_extent PosMax a b i = two_extent cmps.Ge cmps.Lt a b i

-- ---- those of lists of conditions

-- the greatest measures of the conditions of some operations
abbrev pub conditions_in : Table → List Term → Measure
conditions_in e [] = nothing
conditions_in e (t ∷ ts) = greater (greatest_in (condition_of e t)) (conditions_in e ts)

abbrev pub conditions_extent : Table → List Term → Measure
conditions_extent e ts = cap (conditions_in e ts)

conditions_join : (e : Table) (ts us : List Term) → conditions_in e (ts ++ us) ≡ greater (conditions_in e ts) (conditions_in e us)
conditions_join e [] us = sym (greater_first (conditions_in e us))
conditions_join e (t ∷ ts) us = ap (λ m. greater (greatest_in (condition_of e t)) m) (conditions_join e ts us)
    ∙ sym (greater_joins (greatest_in (condition_of e t)) (conditions_in e ts) (conditions_in e us))

extent_join : (e : Table) (ts us : List Term) (a b : Measure) → conditions_extent e ts ≡ a → conditions_extent e us ≡ b → conditions_extent e (ts ++ us) ≡ greater a b
extent_join e ts us a b i j = ap cap (conditions_join e ts us) ∙ sym (cap_greater (conditions_in e ts) (conditions_in e us)) ∙ both_same greater _ _ _ _ i j

-- the condition of one operation
extent_one : (e : Table) (d : Term-F Term) (t : Term) → roll-Term d ≡ t → conditions_extent e (t ∷ []) ≡ extent_of (condition_level (map-Term Term ZTerm (term_of e) d) (variable_of e t))
extent_one e d t r =
    let o : out-Term t ≡ d = ap out-Term (sym r) ∙ out-roll-Term d in
    ap cap (greater_last (greatest_in (condition_of e t)))
    ∙ ap (λ (k : Term-F Term). extent_of (condition_level (map-Term Term ZTerm (term_of e) k) (variable_of e t))) o

-- ---- terms

abbrev pub IsWeighed : Table → Term → Type 0
IsWeighed e t = ((weighed t).term ≡ size_of (term_of e t)) × ((weighed t).atoms ≡ conditions_extent e (operations t))

abbrev Known : Table → Type 0
Known e = (t : Term) × IsWeighed e t

abbrev terms_in : (e : Table) → Term-F (Known e) → Term-F Term
terms_in e k = map-Term (Known e) Term (λ p. p.0) k

pair_atoms : (e : Table) (a b : Known e) → greater (weighed a.0).atoms (weighed b.0).atoms ≡ conditions_extent e (operations a.0 ++ operations b.0)
pair_atoms e a b = sym (extent_join e (operations a.0) (operations b.0) _ _ (sym a.1.1) (sym b.1.1))

-- an operation after its parts
last_atoms : (e : Table) (ts us : List Term) (a b : Measure) → a ≡ conditions_extent e ts → conditions_extent e us ≡ b → greater a b ≡ conditions_extent e (ts ++ us)
last_atoms e ts us a b i j = sym (extent_join e ts us a b (sym i) j)

difference_atoms : (e : Table) (s : Sort) (a b : Known e) → conditions_extent e (where_true (not (is_plain s)) (terms.Sub s a.0 b.0)) ≡ difference_bound s (weighed a.0).term (weighed b.0).term
difference_atoms e sorts.Int a b = refl
difference_atoms e sorts.Bool a b = refl
difference_atoms e sorts.Bin a b = extent_one e (Term-F.Sub sorts.Bin a.0 b.0) (terms.Sub sorts.Bin a.0 b.0) (terms.rolls-Sub sorts.Bin a.0 b.0)
    ∙ difference_extent sorts.Bin (term_of e a.0) (term_of e b.0) _ ∙ both_same (difference_bound sorts.Bin) _ _ _ _ (sym a.1.0) (sym b.1.0)
difference_atoms e sorts.Nat a b = extent_one e (Term-F.Sub sorts.Nat a.0 b.0) (terms.Sub sorts.Nat a.0 b.0) (terms.rolls-Sub sorts.Nat a.0 b.0)
    ∙ difference_extent sorts.Nat (term_of e a.0) (term_of e b.0) _ ∙ both_same (difference_bound sorts.Nat) _ _ _ _ (sym a.1.0) (sym b.1.0)
difference_atoms e sorts.Pos a b = extent_one e (Term-F.Sub sorts.Pos a.0 b.0) (terms.Sub sorts.Pos a.0 b.0) (terms.rolls-Sub sorts.Pos a.0 b.0)
    ∙ difference_extent sorts.Pos (term_of e a.0) (term_of e b.0) _ ∙ both_same (difference_bound sorts.Pos) _ _ _ _ (sym a.1.0) (sym b.1.0)

difference_size : (e : Table) (s : Sort) (a b : Known e) → difference_term_bound s (weighed a.0).term (weighed b.0).term ≡ size_of (if is_plain s then zterms.Sub (term_of e a.0) (term_of e b.0) else variable_of e (terms.Sub s a.0 b.0))
difference_size e sorts.Int a b = both_same sum_capped _ _ _ _ a.1.0 b.1.0 ∙ sym (size_sub (term_of e a.0) (term_of e b.0))
difference_size e sorts.Bool a b = both_same sum_capped _ _ _ _ a.1.0 b.1.0 ∙ sym (size_sub (term_of e a.0) (term_of e b.0))
difference_size e sorts.Bin a b = sym (size_variable _)
difference_size e sorts.Nat a b = sym (size_variable _)
difference_size e sorts.Pos a b = sym (size_variable _)

quotient_atoms : (e : Table) (a : Known e) (k : ℤ) → conditions_extent e (terms.Div a.0 k ∷ []) ≡ quotient_bound (weighed a.0).term k
quotient_atoms e a k = extent_one e (Term-F.Div a.0 k) (terms.Div a.0 k) (terms.rolls-Div a.0 k) ∙ quotient_extent (term_of e a.0) k _ ∙ ap (λ m. quotient_bound m k) (sym a.1.0)

call_has : (e : Table) (f : Fn1) (a : Known e) (b : Bool) → has_variable f ≡ b → (b ≡ false → call_bound f (weighed a.0).term ≡ nothing) → conditions_extent e (where_true b (terms.Call1 f a.0)) ≡ call_bound f (weighed a.0).term
call_has e f a true h g = extent_one e (Term-F.Call1 f a.0) (terms.Call1 f a.0) (terms.rolls-Call1 f a.0) ∙ call_extent f (term_of e a.0) _ ∙ ap (call_bound f) (sym a.1.0)
call_has e f a false h g = sym (g refl)

bound_none : (f : Fn1) (m : Measure) → has_variable f ≡ false → call_bound f m ≡ nothing
bound_none ZSucc m h = refl
bound_none ZPred m h = refl
bound_none ZOpp m h = refl
bound_none ZAbs m h = absurd (cc)
bound_none ZSgn m h = absurd (cc)
bound_none S m h = refl
bound_none NatPred m h = absurd (cc)
bound_none NSucc m h = refl
bound_none NPred m h = absurd (cc)
bound_none PosSucc m h = refl
bound_none PosPred m h = absurd (cc)
bound_none OfNat m h = refl
bound_none OfN m h = refl
bound_none OfPos m h = refl
bound_none ToNat m h = absurd (cc)
bound_none ToN m h = absurd (cc)

call_atoms : (e : Table) (f : Fn1) (a : Known e) → conditions_extent e (where_true (has_variable f) (terms.Call1 f a.0)) ≡ call_bound f (weighed a.0).term
call_atoms e f a = call_has e f a (has_variable f) refl (bound_none f (weighed a.0).term)

one_more : (a : ZTerm) (m : Measure) → m ≡ size_of a → sum_capped m (of_literal_capped 1) ≡ size_of (zterms.Add a (number (pos 1)))
one_more a m h = both_same sum_capped _ _ _ _ h (sym (size_number (pos 1))) ∙ sym (size_add a (number (pos 1)))

called_size : (e : Table) (f : Fn1) (a : Known e) → called_bound f (weighed a.0).term ≡ size_of (if has_variable f then variable_of e (terms.Call1 f a.0) else plain_call f (term_of e a.0))
called_size e ZSucc a = one_more (term_of e a.0) _ a.1.0
called_size e ZPred a = both_same sum_capped _ _ _ _ a.1.0 (sym (size_number (pos 1))) ∙ sym (size_sub (term_of e a.0) (number (pos 1)))
called_size e ZOpp a = a.1.0 ∙ sym (size_neg (term_of e a.0))
called_size e ZAbs a = sym (size_variable _)
called_size e ZSgn a = sym (size_variable _)
called_size e S a = one_more (term_of e a.0) _ a.1.0
called_size e NatPred a = sym (size_variable _)
called_size e NSucc a = one_more (term_of e a.0) _ a.1.0
called_size e NPred a = sym (size_variable _)
called_size e PosSucc a = one_more (term_of e a.0) _ a.1.0
called_size e PosPred a = sym (size_variable _)
called_size e OfNat a = a.1.0
called_size e OfN a = a.1.0
called_size e OfPos a = a.1.0
called_size e ToNat a = sym (size_variable _)
called_size e ToN a = sym (size_variable _)

two_atoms : (e : Table) (f : Fn2) (a b : Known e) → conditions_extent e (terms.Call2 f a.0 b.0 ∷ []) ≡ cases_bound (weighed a.0).term (weighed b.0).term (weighed a.0).term (weighed b.0).term
two_atoms e f a b = extent_one e (Term-F.Call2 f a.0 b.0) (terms.Call2 f a.0 b.0) (terms.rolls-Call2 f a.0 b.0)
    ∙ call_2_extent f (term_of e a.0) (term_of e b.0) _ ∙ both_same (λ m n. cases_bound m n m n) _ _ _ _ (sym a.1.0) (sym b.1.0)

abbrev Level : (e : Table) → Term-F (Known e) → Type 0
Level e k =
    ((weighed_level (map-Term Term Weighed weighed (terms_in e k))).term ≡ size_of (term_level e (map-Term Term (Term × ZTerm) (λ t. (t, term_of e t)) (terms_in e k))))
    × ((weighed_level (map-Term Term Weighed weighed (terms_in e k))).atoms ≡ conditions_extent e (operations_level (map-Term Term (Term × List Term) (λ t. (t, operations t)) (terms_in e k))))

level : (e : Table) (k : Term-F (Known e)) → Level e k
level e (Term-F.Lit n) = (sym (ap cap (measure_lit n)), refl)
level e (Term-F.Var v) = (sym (size_variable v), refl)
level e (Term-F.Neg a) = (a.1.0 ∙ sym (size_neg (term_of e a.0)), a.1.1)
level e (Term-F.Add a b) = (both_same sum_capped _ _ _ _ a.1.0 b.1.0 ∙ sym (size_add (term_of e a.0) (term_of e b.0)), pair_atoms e a b)
level e (Term-F.Sub s a b) = (difference_size e s a b, last_atoms e (operations a.0 ++ operations b.0) (where_true (not (is_plain s)) (terms.Sub s a.0 b.0)) _ _ (pair_atoms e a b) (difference_atoms e s a b))
level e (Term-F.Mul a b) = (both_same (λ m n. cap (of_product m n)) _ _ _ _ a.1.0 b.1.0 ∙ sym (size_mul (term_of e a.0) (term_of e b.0)), pair_atoms e a b)
level e (Term-F.Pow a k) = (ap (λ m. cap (of_power m (unsigned_abs k))) a.1.0 ∙ sym (size_pow (term_of e a.0) k), a.1.1)
level e (Term-F.Div a k) = (sym (size_variable _), last_atoms e (operations a.0) (terms.Div a.0 k ∷ []) _ _ a.1.1 (quotient_atoms e a k))
level e (Term-F.Rem a k) = (ap (λ m. remainder_bound m k) a.1.0 ∙ sym (size_remainder (term_of e a.0) k _), last_atoms e (operations a.0) (terms.Div a.0 k ∷ []) _ _ a.1.1 (quotient_atoms e a k))
level e (Term-F.Call1 f a) = (called_size e f a, last_atoms e (operations a.0) (where_true (has_variable f) (terms.Call1 f a.0)) _ _ a.1.1 (call_atoms e f a))
level e (Term-F.Call2 f a b) = (sym (size_variable _), last_atoms e (operations a.0 ++ operations b.0) (terms.Call2 f a.0 b.0 ∷ []) _ _ (pair_atoms e a b) (two_atoms e f a b))

moved : (e : Table) (w v : Weighed) (t u : ZTerm) (o p : List Term) → w ≡ v → t ≡ u → o ≡ p → (v.term ≡ size_of u) × (v.atoms ≡ conditions_extent e p) → (w.term ≡ size_of t) × (w.atoms ≡ conditions_extent e o)
moved e w v t u o p i j k h = (ap (λ x. x.term) i ∙ h.0 ∙ ap size_of (sym j), ap (λ x. x.atoms) i ∙ h.1 ∙ ap (conditions_extent e) (sym k))

pub term_weighed : (e : Table) (t : Term) → IsWeighed e t
term_weighed e = ind-Term (IsWeighed e) (λ d k q. subst (λ (z : Term-F Term). IsWeighed e (roll-Term z)) q (step k))
  where
    step : (k : Term-F (Known e)) → IsWeighed e (roll-Term (terms_in e k))
    step k =
        let d = terms_in e k in
        moved e _ _ _ _ _ _ (fold-roll-Term Weighed weighed_level d) (para-roll-Term ZTerm (term_level e) d) (para-roll-Term (List Term) operations_level d) (level e k)

-- ---- bool terms and formulas

-- the greatest measures of what a formula becomes and of the conditions of its operations
abbrev pub whole : Table → List Term → ZForm → Measure
whole e ts f = greater (conditions_extent e ts) (extent_of f)

atom_whole : (e : Table) (c : Cmp) (t u : Term) → compared_bound (weighed t) (weighed u) ≡ whole e (operations t ++ operations u) (forms.Atom c (term_of e t) (term_of e u))
atom_whole e c t u =
    let a : Known e = (t, term_weighed e t) in
    let b : Known e = (u, term_weighed e u) in
    both_same greater _ _ _ _ (pair_atoms e a b) (sym (extent_atom c (term_of e t) (term_of e u) _ _ (sym a.1.0) (sym b.1.0)))

-- two parts of a formula
joined_whole : (e : Table) (ts us : List Term) (f g h : ZForm) (a b : Measure) → extent_of h ≡ greater (extent_of f) (extent_of g) → a ≡ whole e ts f → b ≡ whole e us g → greater a b ≡ whole e (ts ++ us) h
joined_whole e ts us f g h a b r i j = both_same greater _ _ _ _ i j
    ∙ greater_turns (conditions_extent e ts) (extent_of f) (conditions_extent e us) (extent_of g)
    ∙ both_same greater _ _ _ _ (sym (extent_join e ts us _ _ refl refl)) (sym r)

and_extent : (f g : ZForm) → extent_of (forms.And f g) ≡ greater (extent_of f) (extent_of g)
and_extent f g = extent_and f g _ _ refl refl

or_extent : (f g : ZForm) → extent_of (forms.Or f g) ≡ greater (extent_of f) (extent_of g)
or_extent f g = extent_or f g _ _ refl refl

imp_extent : (f g : ZForm) → extent_of (forms.Imp f g) ≡ greater (extent_of f) (extent_of g)
imp_extent f g = ap cap (greatest_imp f g) ∙ sym (cap_greater (greatest_in f) (greatest_in g))

iff_extent : (f g : ZForm) → extent_of (forms.Iff f g) ≡ greater (extent_of f) (extent_of g)
iff_extent f g = ap cap (greatest_iff f g) ∙ sym (cap_greater (greatest_in f) (greatest_in g))

not_extent : (f : ZForm) → extent_of (forms.Not f) ≡ extent_of f
not_extent f = ap cap (greatest_not f)

call_form_extent : (o : BFn) (f g : ZForm) → extent_of (call_form o f g) ≡ greater (extent_of f) (extent_of g)
call_form_extent Imp f g = imp_extent f g
call_form_extent Xor f g = not_extent (forms.Iff f g) ∙ iff_extent f g
call_form_extent Eqb f g = iff_extent f g

abbrev IsBoolWeighed : Table → BTerm → Type 0
IsBoolWeighed e b = bool_bound b ≡ whole e (bool_operations b) (bool_form_of e b)

abbrev KnownBool : Table → Type 0
KnownBool e = (b : BTerm) × IsBoolWeighed e b

abbrev bools_in : (e : Table) → BTerm-F (KnownBool e) → BTerm-F BTerm
bools_in e k = map-BTerm (KnownBool e) BTerm (λ p. p.0) k

true_whole : (e : Table) → nothing ≡ whole e [] forms.True
true_whole e = sym (ap (λ m. greater (conditions_extent e []) m) extent_true)

false_whole : (e : Table) → nothing ≡ whole e [] forms.False
false_whole e = sym (ap (λ m. greater (conditions_extent e []) m) (ap cap greatest_false))

bool_step : (e : Table) (k : BTerm-F (KnownBool e)) → bool_bound_level (map-BTerm BTerm Measure bool_bound (bools_in e k))
    ≡ whole e (bool_operations_level (map-BTerm BTerm (List Term) bool_operations (bools_in e k))) (bool_form_level e (map-BTerm BTerm ZForm (bool_form_of e) (bools_in e k)))
bool_step e BTerm-F.True = true_whole e
bool_step e BTerm-F.False = false_whole e
bool_step e (BTerm-F.Var v) = sym (ap (λ m. greater (conditions_extent e []) m) (extent_atom cmps.Ge (zterms.Var v) (number (pos 1)) _ _ (size_variable v) (size_number (pos 1))) ∙ greater_first _)
bool_step e (BTerm-F.Test c t u) = atom_whole e (cmp_of c) t u
bool_step e (BTerm-F.Not a) = a.1 ∙ ap (λ m. greater (conditions_extent e (bool_operations a.0)) m) (sym (not_extent (bool_form_of e a.0)))
bool_step e (BTerm-F.And a b) = joined_whole e _ _ (bool_form_of e a.0) (bool_form_of e b.0) _ _ _ (and_extent (bool_form_of e a.0) (bool_form_of e b.0)) a.1 b.1
bool_step e (BTerm-F.Or a b) = joined_whole e _ _ (bool_form_of e a.0) (bool_form_of e b.0) _ _ _ (or_extent (bool_form_of e a.0) (bool_form_of e b.0)) a.1 b.1
bool_step e (BTerm-F.Call f a b) = joined_whole e _ _ (bool_form_of e a.0) (bool_form_of e b.0) _ _ _ (call_form_extent f (bool_form_of e a.0) (bool_form_of e b.0)) a.1 b.1

whole_moved : (e : Table) (m n : Measure) (o p : List Term) (f g : ZForm) → m ≡ n → o ≡ p → f ≡ g → n ≡ whole e p g → m ≡ whole e o f
whole_moved e m n o p f g i j k h = i ∙ h ∙ both_same (whole e) _ _ _ _ (sym j) (sym k)

pub bool_weighed : (e : Table) (b : BTerm) → IsBoolWeighed e b
bool_weighed e = ind-BTerm (IsBoolWeighed e) (λ d k q. subst (λ (z : BTerm-F BTerm). IsBoolWeighed e (roll-BTerm z)) q (step k))
  where
    step : (k : BTerm-F (KnownBool e)) → IsBoolWeighed e (roll-BTerm (bools_in e k))
    step k =
        let d = bools_in e k in
        whole_moved e _ _ _ _ _ _ (fold-roll-BTerm Measure bool_bound_level d) (fold-roll-BTerm (List Term) bool_operations_level d) (fold-roll-BTerm ZForm (bool_form_level e) d) (bool_step e k)

abbrev pub IsFormulaWeighed : Table → Formula → Type 0
IsFormulaWeighed e f = formula_bound f ≡ whole e (formula_operations f) (form_of e f)

abbrev KnownFormula : Table → Type 0
KnownFormula e = (f : Formula) × IsFormulaWeighed e f

abbrev formulas_in : (e : Table) → Formula-F (KnownFormula e) → Formula-F Formula
formulas_in e k = map-Formula (KnownFormula e) Formula (λ p. p.0) k

chain_whole : (e : Table) (b c : Cmp) (t u v : Term) → greater (compared_bound (weighed t) (weighed u)) (compared_bound (weighed u) (weighed v))
    ≡ whole e (operations t ++ (operations u ++ operations v)) (forms.And (forms.Atom b (term_of e t) (term_of e u)) (forms.Atom c (term_of e u) (term_of e v)))
chain_whole e b c t u v =
    let first = forms.Atom b (term_of e t) (term_of e u) in
    let second = forms.Atom c (term_of e u) (term_of e v) in
    let x = conditions_extent e (operations t) in
    let y = conditions_extent e (operations u) in
    let z = conditions_extent e (operations v) in
    let pair = extent_join e (operations u) (operations v) y z refl refl in
    both_same greater _ _ _ _ (atom_whole e b t u) (atom_whole e c u v)
    ∙ greater_turns (conditions_extent e (operations t ++ operations u)) (extent_of first) (conditions_extent e (operations u ++ operations v)) (extent_of second)
    ∙ both_same greater _ _ _ _
    (both_same greater _ _ _ _ (extent_join e (operations t) (operations u) x y refl refl) pair ∙ greater_shares x y z ∙ sym (extent_join e (operations t) (operations u ++ operations v) x (greater y z) refl pair))
    (sym (and_extent first second))

formula_step : (e : Table) (k : Formula-F (KnownFormula e)) → formula_bound_level (map-Formula Formula Measure formula_bound (formulas_in e k))
    ≡ whole e (formula_operations_level (map-Formula Formula (List Term) formula_operations (formulas_in e k))) (form_level e (map-Formula Formula ZForm (form_of e) (formulas_in e k)))
formula_step e Formula-F.True = true_whole e
formula_step e Formula-F.False = false_whole e
formula_step e (Formula-F.Atom c t u) = atom_whole e c t u
formula_step e (Formula-F.Chain t b u c v) = chain_whole e b c t u v
formula_step e (Formula-F.Same b c) = joined_whole e _ _ (bool_form_of e b) (bool_form_of e c) _ _ _ (iff_extent (bool_form_of e b) (bool_form_of e c)) (bool_weighed e b) (bool_weighed e c)
formula_step e (Formula-F.Differ b c) =
    joined_whole e _ _ (bool_form_of e b) (bool_form_of e c) _ _ _ (not_extent (forms.Iff (bool_form_of e b) (bool_form_of e c)) ∙ iff_extent (bool_form_of e b) (bool_form_of e c)) (bool_weighed e b) (bool_weighed e c)
formula_step e (Formula-F.Not f) = f.1 ∙ ap (λ m. greater (conditions_extent e (formula_operations f.0)) m) (sym (not_extent (form_of e f.0)))
formula_step e (Formula-F.And f g) = joined_whole e _ _ (form_of e f.0) (form_of e g.0) _ _ _ (and_extent (form_of e f.0) (form_of e g.0)) f.1 g.1
formula_step e (Formula-F.Or f g) = joined_whole e _ _ (form_of e f.0) (form_of e g.0) _ _ _ (or_extent (form_of e f.0) (form_of e g.0)) f.1 g.1
formula_step e (Formula-F.Imp f g) = joined_whole e _ _ (form_of e f.0) (form_of e g.0) _ _ _ (imp_extent (form_of e f.0) (form_of e g.0)) f.1 g.1
formula_step e (Formula-F.Iff f g) = joined_whole e _ _ (form_of e f.0) (form_of e g.0) _ _ _ (iff_extent (form_of e f.0) (form_of e g.0)) f.1 g.1

pub formula_weighed : (e : Table) (f : Formula) → IsFormulaWeighed e f
formula_weighed e = ind-Formula (IsFormulaWeighed e) (λ d k q. subst (λ (z : Formula-F Formula). IsFormulaWeighed e (roll-Formula z)) q (step k))
  where
    step : (k : Formula-F (KnownFormula e)) → IsFormulaWeighed e (roll-Formula (formulas_in e k))
    step k =
        let d = formulas_in e k in
        whole_moved e _ _ _ _ _ _ (fold-roll-Formula Measure formula_bound_level d) (fold-roll-Formula (List Term) formula_operations_level d) (fold-roll-Formula ZForm (form_level e) d) (formula_step e k)

pub measure_range : (c : Cmp) (v : ℕ) (k : ℤ) → greatest_in (forms.Atom c (zterms.Var v) (number k)) ≡ of_atom of_variable (of_literal (unsigned_abs k))
measure_range c v k = greatest_atom c (zterms.Var v) (number k) ∙ both_same of_atom _ _ _ _ (measure_variable v) (measure_number k)
