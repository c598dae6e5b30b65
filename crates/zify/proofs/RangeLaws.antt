-- The ranges among the hypotheses say that each bound variable has a number of its sort.
use Rattle.std.specs.Prelude.{◌≡◌, ℕ, zero, suc, ◌+◌, ℤ, pos, ◌≤ℤ◌, int_le, List, [], ◌∷◌, refl, Some, slice_get}
use Rattle.std.specs.List.{AllByRecursion}
use Rattle.std.proofs.Common.{sym, ◌∙◌, subst, arith}
use Rattle.std.proofs.lemmas.Option.{same_Some}
use Rattle.goal_ast.specs.declared.term.Sort.{Sort}
use Rattle.goal_ast.specs.declared.term.Sort.TheVariants as sorts
use Rattle.goal_ast.specs.declared.formula.Cmp.TheVariants as cmps
use Rattle.goal_ast.specs.Truth.{Point, compare}
use Rattle.goal_ast.specs.Range.{IsInSort}
use Rattle.goal_ast.proofs.CountingLaws.{both_same}
use Rattle.goal_ast.proofs.FittingLaws.{at_least, at_least_test}
use Rattle.zify.specs.declared.term.ZTerm.TheVariants as zterms
use Rattle.zify.specs.declared.form.ZForm.TheVariants as forms
use Rattle.zify.specs.Truth.{z_truth_of, HoldsTranslated}
use Rattle.zify.specs.Translation.{number, range_of, ranges_from}
use Rattle.zify.proofs.ValueLaws.{value_variable, value_number, truth_atom}
use Rattle.mm_num.proofs.ListLaws.{all_join, all_split}

lower : (y : Point) (v : ℕ) (k : ℤ) → z_truth_of y (forms.Atom cmps.Ge (zterms.Var v) (number k)) ≡ int_le k (y v)
lower y v k = truth_atom y cmps.Ge (zterms.Var v) (number k) ∙ both_same (compare cmps.Ge) _ _ _ _ (value_variable y v) (value_number y k)

upper : (y : Point) (v : ℕ) (k : ℤ) → z_truth_of y (forms.Atom cmps.Le (zterms.Var v) (number k)) ≡ int_le (y v) k
upper y v k = truth_atom y cmps.Le (zterms.Var v) (number k) ∙ both_same (compare cmps.Le) _ _ _ _ (value_variable y v) (value_number y k)

lower_holds : (y : Point) (v : ℕ) (k : ℤ) → k ≤ℤ y v → HoldsTranslated y (forms.Atom cmps.Ge (zterms.Var v) (number k))
lower_holds y v k h = lower y v k ∙ at_least_test k (y v) h

lower_says : (y : Point) (v : ℕ) (k : ℤ) → HoldsTranslated y (forms.Atom cmps.Ge (zterms.Var v) (number k)) → k ≤ℤ y v
lower_says y v k h = at_least k (y v) (sym (lower y v k) ∙ h)

range_holds : (y : Point) (v : ℕ) (s : Sort) → IsInSort s (y v) → AllByRecursion (HoldsTranslated y) (range_of v s)
range_holds y v sorts.Int h = tt
range_holds y v sorts.Bin h = (lower_holds y v (pos 0) h, tt)
range_holds y v sorts.Nat h = (lower_holds y v (pos 0) h, tt)
range_holds y v sorts.Pos h = (lower_holds y v (pos 1) h, tt)
range_holds y v sorts.Bool h = (lower_holds y v (pos 0) h.0, (upper y v (pos 1) ∙ at_least_test (y v) (pos 1) h.1, tt))

range_says : (y : Point) (v : ℕ) (s : Sort) → AllByRecursion (HoldsTranslated y) (range_of v s) → IsInSort s (y v)
range_says y v sorts.Int h = tt
range_says y v sorts.Bin h = lower_says y v (pos 0) h.0
range_says y v sorts.Nat h = lower_says y v (pos 0) h.0
range_says y v sorts.Pos h = lower_says y v (pos 1) h.0
range_says y v sorts.Bool h = (lower_says y v (pos 0) h.0, at_least (y v) (pos 1) (sym (upper y v (pos 1)) ∙ h.1.0))

-- the variables from v on have numbers of these sorts
abbrev pub SuitsFrom : Point → ℕ → List Sort → Type 0
SuitsFrom y v ss = (i : ℕ) (s : Sort) → slice_get ss i ≡ Some s → IsInSort s (y (v + i))

first_place : (v : ℕ) → v + 0 ≡ v
first_place v = omega arith

next_place : (v i : ℕ) → v + suc i ≡ (v + 1) + i
next_place v i = omega arith

pub ranges_hold : (y : Point) (v : ℕ) (ss : List Sort) → SuitsFrom y v ss → AllByRecursion (HoldsTranslated y) (ranges_from v ss)
ranges_hold y v [] h = tt
ranges_hold y v (s ∷ ss) h =
    all_join (HoldsTranslated y) (range_of v s) (ranges_from (v + 1) ss) (range_holds y v s (subst (λ n. IsInSort s (y n)) (first_place v) (h 0 s refl)))
    (ranges_hold y (v + 1) ss (λ i t e. subst (λ n. IsInSort t (y n)) (next_place v i) (h (suc i) t e)))

pub ranges_say : (y : Point) (v : ℕ) (ss : List Sort) → AllByRecursion (HoldsTranslated y) (ranges_from v ss) → SuitsFrom y v ss
ranges_say y v [] h i t e = absurd (cc)
ranges_say y v (s ∷ ss) h zero t e =
    let p = all_split (HoldsTranslated y) (range_of v s) (ranges_from (v + 1) ss) h in
    subst (λ n. IsInSort t (y n)) (sym (first_place v)) (subst (λ (u : Sort). IsInSort u (y v)) (same_Some s t e) (range_says y v s p.0))
ranges_say y v (s ∷ ss) h (suc i) t e =
    let p = all_split (HoldsTranslated y) (range_of v s) (ranges_from (v + 1) ss) h in
    subst (λ n. IsInSort t (y n)) (sym (next_place v i)) (ranges_say y (v + 1) ss p.1 i t e)
