-- A defining condition holds exactly where its variable has the value of the operation.
use Rattle.std.specs.Prelude.{◌≡◌, ℕ, zero, suc, ◌<◌, ◌≤◌, ℤ, pos, negsuc, neg_ℤ, ◌+ℤ◌, ◌-ℤ◌, ◌*ℤ◌, ◌≤ℤ◌, ◌<ℤ◌, unsigned_abs, int_lt, int_le, Bool, true, false, not, ◌&&◌, ◌||◌, refl}
use Rattle.std.specs.Ordering.{int_eq}
use Rattle.std.specs.Int.{int_max, int_min}
use Rattle.std.proofs.Common.{ap, sym, ◌∙◌, subst, arith}
use Rattle.std.proofs.lemmas.Int.{ints}
use Rattle.std.proofs.lemmas.Bool.{and_parts}
use Rattle.mm_num.proofs.Ring.{neg_mul}
use Rattle.mm_num.proofs.QuotientLaws.{floor_below, floor_above, floor_unique}
use Rattle.goal_ast.specs.declared.term.Sort.{Sort}
use Rattle.goal_ast.specs.declared.term.Sort.TheVariants as sorts
use Rattle.goal_ast.specs.declared.term.Fn1.{Fn1}
use Rattle.goal_ast.specs.declared.term.Fn1.TheVariants.{ZSucc, ZPred, ZOpp, ZAbs, ZSgn, S, NatPred, NSucc, NPred, PosSucc, PosPred, OfNat, OfN, OfPos, ToNat, ToN}
use Rattle.goal_ast.specs.declared.term.Fn2.{Fn2}
use Rattle.goal_ast.specs.declared.term.Fn2.TheVariants.{ZMin, ZMax, NatMin, NatMax, NMin, NMax, PosMin, PosMax}
use Rattle.goal_ast.specs.declared.term.Term.TheOpen.{Term-F}
use Rattle.goal_ast.specs.declared.term.Term.TheFolds.{map-Term}
use Rattle.goal_ast.specs.declared.formula.Cmp.{Cmp}
use Rattle.goal_ast.specs.declared.formula.Cmp.TheVariants as cmps
use Rattle.goal_ast.specs.Truth.{Point, quotient, stopped, sign, call_1, call_2, compare, value_level}
use Rattle.goal_ast.specs.Divisors.{divisor_fits}
use Rattle.goal_ast.proofs.DivisionLaws.{divisor_other}
use Rattle.goal_ast.proofs.CountingLaws.{both_same}
use Rattle.zify.specs.declared.term.ZTerm.{ZTerm}
use Rattle.zify.specs.declared.term.ZTerm.TheVariants as zterms
use Rattle.zify.specs.declared.form.ZForm.TheVariants as forms
use Rattle.zify.specs.Truth.{z_value_of, z_truth_of}
use Rattle.zify.specs.Operations.{is_plain, has_variable}
use Rattle.zify.specs.Translation.{number, remainder_term, equals, cases, difference_condition, call_condition, call_2_condition, quotient_condition, condition_level}
use Rattle.zify.proofs.ValueLaws.{value_neg, value_sub, value_mul, value_number, truth_true, truth_atom, truth_and, truth_or}

-- ---- conditions as tests of values

abbrev pub case_value : Cmp → Cmp → ℤ → ℤ → ℤ → ℤ → ℤ → Bool
case_value c d a b z v w = (compare c a b && int_eq z v) || (compare d a b && int_eq z w)

-- a comparison of terms with known values
atom_is : (x : Point) (c : Cmp) (t u : ZTerm) (a b : ℤ) → z_value_of x t ≡ a → z_value_of x u ≡ b → z_truth_of x (forms.Atom c t u) ≡ compare c a b
atom_is x c t u a b e f = truth_atom x c t u ∙ both_same (compare c) _ _ _ _ e f

case_is : (x : Point) (c : Cmp) (t u z v : ZTerm) (a b w : ℤ) → z_value_of x t ≡ a → z_value_of x u ≡ b → z_value_of x v ≡ w
    → z_truth_of x (forms.And (forms.Atom c t u) (equals z v)) ≡ (compare c a b && int_eq (z_value_of x z) w)
case_is x c t u z v a b w e f g = truth_and x (forms.Atom c t u) (equals z v)
    ∙ both_same (λ p q. p && q) _ _ _ _ (atom_is x c t u a b e f) (atom_is x cmps.Eq z v (z_value_of x z) w refl g)

cases_are : (x : Point) (c d : Cmp) (t u z v w : ZTerm) (a b m n : ℤ) → z_value_of x t ≡ a → z_value_of x u ≡ b → z_value_of x v ≡ m → z_value_of x w ≡ n
    → z_truth_of x (cases c d t u z v w) ≡ case_value c d a b (z_value_of x z) m n
cases_are x c d t u z v w a b m n e f g h = truth_or x (forms.And (forms.Atom c t u) (equals z v)) (forms.And (forms.Atom d t u) (equals z w))
    ∙ both_same (λ p q. p || q) _ _ _ _ (case_is x c t u z v a b m e f g) (case_is x d t u z w a b n e f h)

-- whether a number is the difference, the value of a call and so on, as the conditions say it
abbrev pub meets_difference : Sort → ℤ → ℤ → ℤ → Bool
meets_difference sorts.Int a b z = true
meets_difference sorts.Bool a b z = true
meets_difference sorts.Bin a b z = case_value cmps.Ge cmps.Lt a b z (a -ℤ b) (pos 0)
meets_difference sorts.Nat a b z = case_value cmps.Ge cmps.Lt a b z (a -ℤ b) (pos 0)
meets_difference sorts.Pos a b z = case_value cmps.Gt cmps.Le a b z (a -ℤ b) (pos 1)

abbrev pub meets_call : Fn1 → ℤ → ℤ → Bool
meets_call ZSucc a z = true
meets_call ZPred a z = true
meets_call ZOpp a z = true
meets_call ZAbs a z = case_value cmps.Ge cmps.Lt a (pos 0) z a (neg_ℤ a)
meets_call ZSgn a z = (compare cmps.Gt a (pos 0) && int_eq z (pos 1)) || case_value cmps.Eq cmps.Lt a (pos 0) z (pos 0) (negsuc 0)
meets_call S a z = true
meets_call NatPred a z = case_value cmps.Ge cmps.Lt a (pos 1) z (a -ℤ pos 1) (pos 0)
meets_call NSucc a z = true
meets_call NPred a z = case_value cmps.Ge cmps.Lt a (pos 1) z (a -ℤ pos 1) (pos 0)
meets_call PosSucc a z = true
meets_call PosPred a z = case_value cmps.Ge cmps.Lt a (pos 2) z (a -ℤ pos 1) (pos 1)
meets_call OfNat a z = true
meets_call OfN a z = true
meets_call OfPos a z = true
meets_call ToNat a z = case_value cmps.Ge cmps.Lt a (pos 0) z a (pos 0)
meets_call ToN a z = case_value cmps.Ge cmps.Lt a (pos 0) z a (pos 0)

abbrev pub meets_call_2 : Fn2 → ℤ → ℤ → ℤ → Bool
meets_call_2 ZMin a b z = case_value cmps.Le cmps.Gt a b z a b
meets_call_2 ZMax a b z = case_value cmps.Ge cmps.Lt a b z a b
meets_call_2 NatMin a b z = case_value cmps.Le cmps.Gt a b z a b
meets_call_2 NatMax a b z = case_value cmps.Ge cmps.Lt a b z a b
meets_call_2 NMin a b z = case_value cmps.Le cmps.Gt a b z a b
meets_call_2 NMax a b z = case_value cmps.Ge cmps.Lt a b z a b
meets_call_2 PosMin a b z = case_value cmps.Le cmps.Gt a b z a b
meets_call_2 PosMax a b z = case_value cmps.Ge cmps.Lt a b z a b

abbrev pub meets_quotient : ℤ → ℤ → ℤ → Bool
meets_quotient a (pos n) z = compare cmps.Ge (a -ℤ pos n *ℤ z) (pos 0) && compare cmps.Lt (a -ℤ pos n *ℤ z) (pos n)
meets_quotient a (negsuc n) z = compare cmps.Le (a -ℤ negsuc n *ℤ z) (pos 0) && compare cmps.Gt (a -ℤ negsuc n *ℤ z) (negsuc n)

abbrev pub meets : Term-F ℤ → ℤ → Bool
meets (Term-F.Lit n) z = true
meets (Term-F.Var v) z = true
meets (Term-F.Neg a) z = true
meets (Term-F.Add a b) z = true
meets (Term-F.Sub s a b) z = meets_difference s a b z
meets (Term-F.Mul a b) z = true
meets (Term-F.Pow a k) z = true
meets (Term-F.Div a k) z = meets_quotient a k z
meets (Term-F.Rem a k) z = true
meets (Term-F.Call1 f a) z = meets_call f a z
meets (Term-F.Call2 f a b) z = meets_call_2 f a b z

difference_tests : (x : Point) (s : Sort) (a b z : ZTerm) → z_truth_of x (difference_condition s a b z) ≡ meets_difference s (z_value_of x a) (z_value_of x b) (z_value_of x z)
difference_tests x sorts.Int a b z = truth_true x
difference_tests x sorts.Bool a b z = truth_true x
difference_tests x sorts.Bin a b z = cases_are x cmps.Ge cmps.Lt a b z (zterms.Sub a b) (number (pos 0)) _ _ _ _ refl refl (value_sub x a b) (value_number x (pos 0))
difference_tests x sorts.Nat a b z = cases_are x cmps.Ge cmps.Lt a b z (zterms.Sub a b) (number (pos 0)) _ _ _ _ refl refl (value_sub x a b) (value_number x (pos 0))
difference_tests x sorts.Pos a b z = cases_are x cmps.Gt cmps.Le a b z (zterms.Sub a b) (number (pos 1)) _ _ _ _ refl refl (value_sub x a b) (value_number x (pos 1))

predecessor_tests : (x : Point) (n m : ℤ) (a z : ZTerm)
    → z_truth_of x (cases cmps.Ge cmps.Lt a (number n) z (zterms.Sub a (number (pos 1))) (number m)) ≡ case_value cmps.Ge cmps.Lt (z_value_of x a) n (z_value_of x z) (z_value_of x a -ℤ pos 1) m
predecessor_tests x n m a z = cases_are x cmps.Ge cmps.Lt a (number n) z (zterms.Sub a (number (pos 1))) (number m) _ _ _ _ refl (value_number x n)
    (value_sub x a (number (pos 1)) ∙ ap (λ k. z_value_of x a -ℤ k) (value_number x (pos 1))) (value_number x m)

sign_tests : (x : Point) (a z : ZTerm) → z_truth_of x (call_condition ZSgn a z) ≡ meets_call ZSgn (z_value_of x a) (z_value_of x z)
sign_tests x a z =
    let first = forms.And (forms.Atom cmps.Gt a (number (pos 0))) (equals z (number (pos 1))) in
    let rest = cases cmps.Eq cmps.Lt a (number (pos 0)) z (number (pos 0)) (number (negsuc 0)) in
    truth_or x first rest
    ∙ both_same (λ p q. p || q) _ _ _ _ (case_is x cmps.Gt a (number (pos 0)) z (number (pos 1)) _ _ _ refl (value_number x (pos 0)) (value_number x (pos 1)))
    (cases_are x cmps.Eq cmps.Lt a (number (pos 0)) z (number (pos 0)) (number (negsuc 0)) _ _ _ _ refl (value_number x (pos 0)) (value_number x (pos 0)) (value_number x (negsuc 0)))

call_tests : (x : Point) (f : Fn1) (a z : ZTerm) → z_truth_of x (call_condition f a z) ≡ meets_call f (z_value_of x a) (z_value_of x z)
call_tests x ZSucc a z = truth_true x
call_tests x ZPred a z = truth_true x
call_tests x ZOpp a z = truth_true x
call_tests x ZAbs a z = cases_are x cmps.Ge cmps.Lt a (number (pos 0)) z a (zterms.Neg a) _ _ _ _ refl (value_number x (pos 0)) refl (value_neg x a)
call_tests x ZSgn a z = sign_tests x a z
call_tests x S a z = truth_true x
call_tests x NatPred a z = predecessor_tests x (pos 1) (pos 0) a z
call_tests x NSucc a z = truth_true x
call_tests x NPred a z = predecessor_tests x (pos 1) (pos 0) a z
call_tests x PosSucc a z = truth_true x
call_tests x PosPred a z = predecessor_tests x (pos 2) (pos 1) a z
call_tests x OfNat a z = truth_true x
call_tests x OfN a z = truth_true x
call_tests x OfPos a z = truth_true x
call_tests x ToNat a z = cases_are x cmps.Ge cmps.Lt a (number (pos 0)) z a (number (pos 0)) _ _ _ _ refl (value_number x (pos 0)) refl (value_number x (pos 0))
call_tests x ToN a z = cases_are x cmps.Ge cmps.Lt a (number (pos 0)) z a (number (pos 0)) _ _ _ _ refl (value_number x (pos 0)) refl (value_number x (pos 0))

two_tests : (x : Point) (c d : Cmp) (a b z : ZTerm) → z_truth_of x (cases c d a b z a b) ≡ case_value c d (z_value_of x a) (z_value_of x b) (z_value_of x z) (z_value_of x a) (z_value_of x b)
two_tests x c d a b z = cases_are x c d a b z a b _ _ _ _ refl refl refl refl

call_2_tests : (x : Point) (f : Fn2) (a b z : ZTerm) → z_truth_of x (call_2_condition f a b z) ≡ meets_call_2 f (z_value_of x a) (z_value_of x b) (z_value_of x z)
call_2_tests x ZMin a b z = two_tests x cmps.Le cmps.Gt a b z
call_2_tests x ZMax a b z = two_tests x cmps.Ge cmps.Lt a b z
call_2_tests x NatMin a b z = two_tests x cmps.Le cmps.Gt a b z
call_2_tests x NatMax a b z = two_tests x cmps.Ge cmps.Lt a b z
call_2_tests x NMin a b z = two_tests x cmps.Le cmps.Gt a b z
call_2_tests x NMax a b z = two_tests x cmps.Ge cmps.Lt a b z
call_2_tests x PosMin a b z = two_tests x cmps.Le cmps.Gt a b z
call_2_tests x PosMax a b z = two_tests x cmps.Ge cmps.Lt a b z

pub remainder_value : (x : Point) (a : ZTerm) (k : ℤ) (z : ZTerm) → z_value_of x (remainder_term a k z) ≡ z_value_of x a -ℤ k *ℤ z_value_of x z
remainder_value x a k z = value_sub x a (zterms.Mul (number k) z)
    ∙ ap (λ r. z_value_of x a -ℤ r) (value_mul x (number k) z ∙ ap (λ r. r *ℤ z_value_of x z) (value_number x k))

quotient_tests : (x : Point) (a : ZTerm) (k : ℤ) (z : ZTerm) → z_truth_of x (quotient_condition a k z) ≡ meets_quotient (z_value_of x a) k (z_value_of x z)
quotient_tests x a (pos n) z =
    let r = remainder_term a (pos n) z in
    let e = remainder_value x a (pos n) z in
    truth_and x (forms.Atom cmps.Ge r (number (pos 0))) (forms.Atom cmps.Lt r (number (pos n)))
    ∙ both_same (λ p q. p && q) _ _ _ _ (atom_is x cmps.Ge r (number (pos 0)) _ _ e (value_number x (pos 0))) (atom_is x cmps.Lt r (number (pos n)) _ _ e (value_number x (pos n)))
quotient_tests x a (negsuc n) z =
    let r = remainder_term a (negsuc n) z in
    let e = remainder_value x a (negsuc n) z in
    truth_and x (forms.Atom cmps.Le r (number (pos 0))) (forms.Atom cmps.Gt r (number (negsuc n)))
    ∙ both_same (λ p q. p && q) _ _ _ _ (atom_is x cmps.Le r (number (pos 0)) _ _ e (value_number x (pos 0))) (atom_is x cmps.Gt r (number (negsuc n)) _ _ e (value_number x (negsuc n)))

-- a condition tests the values of the operands and of its variable
pub condition_tests : (x : Point) (d : Term-F ZTerm) (z : ZTerm) → z_truth_of x (condition_level d z) ≡ meets (map-Term ZTerm ℤ (z_value_of x) d) (z_value_of x z)
condition_tests x (Term-F.Lit n) z = truth_true x
condition_tests x (Term-F.Var v) z = truth_true x
condition_tests x (Term-F.Neg a) z = truth_true x
condition_tests x (Term-F.Add a b) z = truth_true x
condition_tests x (Term-F.Sub s a b) z = difference_tests x s a b z
condition_tests x (Term-F.Mul a b) z = truth_true x
condition_tests x (Term-F.Pow a k) z = truth_true x
condition_tests x (Term-F.Div a k) z = quotient_tests x a k z
condition_tests x (Term-F.Rem a k) z = truth_true x
condition_tests x (Term-F.Call1 f a) z = call_tests x f a z
condition_tests x (Term-F.Call2 f a b) z = call_2_tests x f a b z

-- ---- the tests are exact

abbrev pub Exactly : Bool → Type 0 → Type 0
Exactly b P = (b ≡ true → P) × (P → b ≡ true)

bin_is : (a b z : ℤ) → case_value cmps.Ge cmps.Lt a b z (a -ℤ b) (pos 0) ≡ true → z ≡ int_max (pos 0) (a -ℤ b)
bin_is a b z h = grind (arith, ints)

is_bin : (a b z : ℤ) → z ≡ int_max (pos 0) (a -ℤ b) → case_value cmps.Ge cmps.Lt a b z (a -ℤ b) (pos 0) ≡ true
is_bin a b z h = grind (arith, ints)

pos_is : (a b z : ℤ) → case_value cmps.Gt cmps.Le a b z (a -ℤ b) (pos 1) ≡ true → z ≡ int_max (pos 1) (a -ℤ b)
pos_is a b z h = grind (arith, ints)

is_pos : (a b z : ℤ) → z ≡ int_max (pos 1) (a -ℤ b) → case_value cmps.Gt cmps.Le a b z (a -ℤ b) (pos 1) ≡ true
is_pos a b z h = grind (arith, ints)

pred_is : (a z : ℤ) → case_value cmps.Ge cmps.Lt a (pos 1) z (a -ℤ pos 1) (pos 0) ≡ true → z ≡ int_max (pos 0) (a -ℤ pos 1)
pred_is a z h = grind (arith, ints)

is_pred : (a z : ℤ) → z ≡ int_max (pos 0) (a -ℤ pos 1) → case_value cmps.Ge cmps.Lt a (pos 1) z (a -ℤ pos 1) (pos 0) ≡ true
is_pred a z h = grind (arith, ints)

pos_pred_is : (a z : ℤ) → case_value cmps.Ge cmps.Lt a (pos 2) z (a -ℤ pos 1) (pos 1) ≡ true → z ≡ int_max (pos 1) (a -ℤ pos 1)
pos_pred_is a z h = grind (arith, ints)

is_pos_pred : (a z : ℤ) → z ≡ int_max (pos 1) (a -ℤ pos 1) → case_value cmps.Ge cmps.Lt a (pos 2) z (a -ℤ pos 1) (pos 1) ≡ true
is_pos_pred a z h = grind (arith, ints)

abs_is : (a z : ℤ) → case_value cmps.Ge cmps.Lt a (pos 0) z a (neg_ℤ a) ≡ true → z ≡ pos (unsigned_abs a)
abs_is a z h = grind (arith, ints)

is_abs : (a z : ℤ) → z ≡ pos (unsigned_abs a) → case_value cmps.Ge cmps.Lt a (pos 0) z a (neg_ℤ a) ≡ true
is_abs a z h = grind (arith, ints)

to_is : (a z : ℤ) → case_value cmps.Ge cmps.Lt a (pos 0) z a (pos 0) ≡ true → z ≡ int_max (pos 0) a
to_is a z h = grind (arith, ints)

is_to : (a z : ℤ) → z ≡ int_max (pos 0) a → case_value cmps.Ge cmps.Lt a (pos 0) z a (pos 0) ≡ true
is_to a z h = grind (arith, ints)

min_is : (a b z : ℤ) → case_value cmps.Le cmps.Gt a b z a b ≡ true → z ≡ int_min a b
min_is a b z h = grind (arith, ints)

is_min : (a b z : ℤ) → z ≡ int_min a b → case_value cmps.Le cmps.Gt a b z a b ≡ true
is_min a b z h = grind (arith, ints)

max_is : (a b z : ℤ) → case_value cmps.Ge cmps.Lt a b z a b ≡ true → z ≡ int_max a b
max_is a b z h = grind (arith, ints)

is_max : (a b z : ℤ) → z ≡ int_max a b → case_value cmps.Ge cmps.Lt a b z a b ≡ true
is_max a b z h = grind (arith, ints)

abbrev sign_test : ℤ → ℤ → Bool
sign_test a z = (compare cmps.Gt a (pos 0) && int_eq z (pos 1)) || case_value cmps.Eq cmps.Lt a (pos 0) z (pos 0) (negsuc 0)

sign_up : (a z : ℤ) → pos 0 <ℤ a → Exactly (sign_test a z) (z ≡ pos 1)
sign_up a z p = (λ h. up_is a z p h, λ h. is_up a z p h)
  where
    up_is : (a z : ℤ) → pos 0 <ℤ a → sign_test a z ≡ true → z ≡ pos 1
    up_is a z p h = grind (arith, ints)

    is_up : (a z : ℤ) → pos 0 <ℤ a → z ≡ pos 1 → sign_test a z ≡ true
    is_up a z p h = grind (arith, ints)

sign_none : (z : ℤ) → Exactly (sign_test (pos 0) z) (z ≡ pos 0)
sign_none z = (λ h. none_is z h, λ h. is_none z h)
  where
    none_is : (z : ℤ) → sign_test (pos 0) z ≡ true → z ≡ pos 0
    none_is z h = grind (arith, ints)

    is_none : (z : ℤ) → z ≡ pos 0 → sign_test (pos 0) z ≡ true
    is_none z h = grind (arith, ints)

sign_down : (a z : ℤ) → a <ℤ pos 0 → Exactly (sign_test a z) (z ≡ negsuc 0)
sign_down a z p = (λ h. down_is a z p h, λ h. is_down a z p h)
  where
    down_is : (a z : ℤ) → a <ℤ pos 0 → sign_test a z ≡ true → z ≡ negsuc 0
    down_is a z p h = grind (arith, ints)

    is_down : (a z : ℤ) → a <ℤ pos 0 → z ≡ negsuc 0 → sign_test a z ≡ true
    is_down a z p h = grind (arith, ints)

positive : (n : ℕ) → pos 0 <ℤ pos (suc n)
positive n = omega (arith, ints)

negative : (n : ℕ) → negsuc n <ℤ pos 0
negative n = omega (arith, ints)

sign_exactly : (a z : ℤ) → Exactly (sign_test a z) (z ≡ sign a)
sign_exactly (pos zero) z = sign_none z
sign_exactly (pos (suc n)) z = sign_up (pos (suc n)) z (positive n)
sign_exactly (negsuc n) z = sign_down (negsuc n) z (negative n)

-- there is one floor

quotient_up_is : (a z k r : ℤ) → r ≡ k *ℤ z → (int_le (pos 0) (a -ℤ r) && int_lt (a -ℤ r) k) ≡ true → (r ≤ℤ a) × (a <ℤ (r +ℤ k))
quotient_up_is a z k r e h = let p = and_parts _ _ h in (low a r p.0, high a r k p.1)
  where
    low : (a r : ℤ) → int_le (pos 0) (a -ℤ r) ≡ true → r ≤ℤ a
    low a r h = grind (arith, ints)

    high : (a r k : ℤ) → int_lt (a -ℤ r) k ≡ true → a <ℤ (r +ℤ k)
    high a r k h = grind (arith, ints)

quotient_up_test : (a r k : ℤ) → r ≤ℤ a → a <ℤ (r +ℤ k) → (int_le (pos 0) (a -ℤ r) && int_lt (a -ℤ r) k) ≡ true
quotient_up_test a r k h l = grind (arith, ints)

-- for a negative divisor, r is minus the multiple of its magnitude
quotient_down_is : (a r k : ℤ) → (int_le (a -ℤ r) (pos 0) && int_lt k (a -ℤ r)) ≡ true → (neg_ℤ r ≤ℤ neg_ℤ a) × (neg_ℤ a <ℤ (neg_ℤ r -ℤ k))
quotient_down_is a r k h = let p = and_parts _ _ h in (low a r p.0, high a r k p.1)
  where
    low : (a r : ℤ) → int_le (a -ℤ r) (pos 0) ≡ true → neg_ℤ r ≤ℤ neg_ℤ a
    low a r h = grind (arith, ints)

    high : (a r k : ℤ) → int_lt k (a -ℤ r) ≡ true → neg_ℤ a <ℤ (neg_ℤ r -ℤ k)
    high a r k h = grind (arith, ints)

quotient_down_test : (a r k : ℤ) → neg_ℤ r ≤ℤ neg_ℤ a → neg_ℤ a <ℤ (neg_ℤ r -ℤ k) → (int_le (a -ℤ r) (pos 0) && int_lt k (a -ℤ r)) ≡ true
quotient_down_test a r k h l = grind (arith, ints)

-- the multiple by a negative number
multiple_down : (n : ℕ) (z : ℤ) → neg_ℤ (negsuc n *ℤ z) ≡ pos (suc n) *ℤ z
multiple_down n z = let e : negsuc n *ℤ z ≡ neg_ℤ (pos (suc n) *ℤ z) = neg_mul (pos (suc n)) z in omega (arith, ints)

quotient_exactly : (a k z : ℤ) → divisor_fits k ≡ true → Exactly (meets_quotient a k z) (z ≡ quotient a k)
quotient_exactly a (pos zero) z f = absurd (divisor_other (pos zero) f refl)
quotient_exactly a (pos (suc n)) z f = (
  λ h. let p = quotient_up_is a z (pos (suc n)) (pos (suc n) *ℤ z) refl h in floor_unique a z (suc n) (omega arith) p.0 p.1,
  λ e. quotient_up_test a (pos (suc n) *ℤ z) (pos (suc n))
      (subst (λ (w : ℤ). (pos (suc n) *ℤ w) ≤ℤ a) (sym e) (floor_below a (suc n) (omega arith)))
      (subst (λ (w : ℤ). a <ℤ (pos (suc n) *ℤ w +ℤ pos (suc n))) (sym e) (floor_above a (suc n) (omega arith))),
)
quotient_exactly a (negsuc n) z f =
    let m = multiple_down n z in (
      λ h. let p = quotient_down_is a (negsuc n *ℤ z) (negsuc n) h in floor_unique (neg_ℤ a) z (suc n) (omega arith)
          (subst (λ (w : ℤ). w ≤ℤ neg_ℤ a) m p.0) (subst (λ (w : ℤ). neg_ℤ a <ℤ (w +ℤ pos (suc n))) m p.1),
      λ e. quotient_down_test a (negsuc n *ℤ z) (negsuc n)
          (subst (λ (w : ℤ). w ≤ℤ neg_ℤ a) (sym m) (subst (λ (w : ℤ). (pos (suc n) *ℤ w) ≤ℤ neg_ℤ a) (sym e) (floor_below (neg_ℤ a) (suc n) (omega arith))))
          (subst (λ (w : ℤ). neg_ℤ a <ℤ (w +ℤ pos (suc n))) (sym m) (subst (λ (w : ℤ). neg_ℤ a <ℤ (pos (suc n) *ℤ w +ℤ pos (suc n))) (sym e) (floor_above (neg_ℤ a) (suc n) (omega arith)))),
    )

-- ---- all operations

-- the nodes that have a variable of their own, with divisors other than 0
abbrev pub defined : {A : Type 0} → Term-F A → Bool
defined (Term-F.Lit n) = false
defined (Term-F.Var v) = false
defined (Term-F.Neg a) = false
defined (Term-F.Add a b) = false
defined (Term-F.Sub s a b) = not (is_plain s)
defined (Term-F.Mul a b) = false
defined (Term-F.Pow a k) = false
defined (Term-F.Div a k) = divisor_fits k
defined (Term-F.Rem a k) = false
defined (Term-F.Call1 f a) = has_variable f
defined (Term-F.Call2 f a b) = true

difference_exactly : (s : Sort) (a b z : ℤ) → not (is_plain s) ≡ true → Exactly (meets_difference s a b z) (z ≡ stopped s (a -ℤ b))
difference_exactly sorts.Int a b z p = absurd (cc)
difference_exactly sorts.Bool a b z p = absurd (cc)
difference_exactly sorts.Bin a b z p = (bin_is a b z, is_bin a b z)
difference_exactly sorts.Nat a b z p = (bin_is a b z, is_bin a b z)
difference_exactly sorts.Pos a b z p = (pos_is a b z, is_pos a b z)

call_exactly : (f : Fn1) (a z : ℤ) → has_variable f ≡ true → Exactly (meets_call f a z) (z ≡ call_1 f a)
call_exactly ZSucc a z p = absurd (cc)
call_exactly ZPred a z p = absurd (cc)
call_exactly ZOpp a z p = absurd (cc)
call_exactly ZAbs a z p = (abs_is a z, is_abs a z)
call_exactly ZSgn a z p = sign_exactly a z
call_exactly S a z p = absurd (cc)
call_exactly NatPred a z p = (pred_is a z, is_pred a z)
call_exactly NSucc a z p = absurd (cc)
call_exactly NPred a z p = (pred_is a z, is_pred a z)
call_exactly PosSucc a z p = absurd (cc)
call_exactly PosPred a z p = (pos_pred_is a z, is_pos_pred a z)
call_exactly OfNat a z p = absurd (cc)
call_exactly OfN a z p = absurd (cc)
call_exactly OfPos a z p = absurd (cc)
call_exactly ToNat a z p = (to_is a z, is_to a z)
call_exactly ToN a z p = (to_is a z, is_to a z)

call_2_exactly : (f : Fn2) (a b z : ℤ) → Exactly (meets_call_2 f a b z) (z ≡ call_2 f a b)
call_2_exactly ZMin a b z = (min_is a b z, is_min a b z)
call_2_exactly ZMax a b z = (max_is a b z, is_max a b z)
call_2_exactly NatMin a b z = (min_is a b z, is_min a b z)
call_2_exactly NatMax a b z = (max_is a b z, is_max a b z)
call_2_exactly NMin a b z = (min_is a b z, is_min a b z)
call_2_exactly NMax a b z = (max_is a b z, is_max a b z)
call_2_exactly PosMin a b z = (min_is a b z, is_min a b z)
call_2_exactly PosMax a b z = (max_is a b z, is_max a b z)

pub meets_exactly : (x : Point) (d : Term-F ℤ) (z : ℤ) → defined d ≡ true → Exactly (meets d z) (z ≡ value_level x d)
meets_exactly x (Term-F.Lit n) z p = absurd (cc)
meets_exactly x (Term-F.Var v) z p = absurd (cc)
meets_exactly x (Term-F.Neg a) z p = absurd (cc)
meets_exactly x (Term-F.Add a b) z p = absurd (cc)
meets_exactly x (Term-F.Sub s a b) z p = difference_exactly s a b z p
meets_exactly x (Term-F.Mul a b) z p = absurd (cc)
meets_exactly x (Term-F.Pow a k) z p = absurd (cc)
meets_exactly x (Term-F.Div a k) z p = quotient_exactly a k z p
meets_exactly x (Term-F.Rem a k) z p = absurd (cc)
meets_exactly x (Term-F.Call1 f a) z p = call_exactly f a z p
meets_exactly x (Term-F.Call2 f a b) z p = call_2_exactly f a b z
