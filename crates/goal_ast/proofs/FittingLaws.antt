-- The test of an assignment says that it is in range.
use Rattle.std.specs.Prelude.{◌≡◌, zero, suc, ℤ, int_le, ◌≤ℤ◌, List, [], ◌∷◌, length, true, refl, Some}
use Rattle.std.proofs.Common.{subst, arith}
use Rattle.std.proofs.lemmas.Int.{ints}
use Rattle.std.specs.List.{AllByRecursion}
use Rattle.std.proofs.lemmas.Option.{same_Some}
use Rattle.std.proofs.lemmas.Bool.{and_parts, and_from}
use Rattle.mm_num.specs.Small.{IsSmall}
use Rattle.goal_ast.specs.declared.term.Sort.{Sort}
use Rattle.goal_ast.specs.declared.term.Sort.TheVariants as sorts
use Rattle.goal_ast.specs.declared.goal.Bound.{Bound}
use Rattle.goal_ast.specs.declared.goal.Goal.{Goal}
use Rattle.goal_ast.specs.declared.goal.Assignment.{Assignment}
use Rattle.goal_ast.specs.Range.{IsInSort, sorts_of, SuitsSorts, point_of, IsInRange}
use Rattle.goal_ast.specs.Fitting.{is_in_sort, all_fit}
use Rattle.goal_ast.proofs.DivisionLaws.{small_is, small_test}

pub at_least : (a b : ℤ) → int_le a b ≡ true → a ≤ℤ b
at_least a b h = grind (arith, ints)

pub at_least_test : (a b : ℤ) → a ≤ℤ b → int_le a b ≡ true
at_least_test a b h = grind (arith, ints)

pub in_sort_is : (s : Sort) (z : ℤ) → is_in_sort s z ≡ true → IsInSort s z
in_sort_is sorts.Int z h = tt
in_sort_is sorts.Bin z h = at_least _ _ h
in_sort_is sorts.Nat z h = at_least _ _ h
in_sort_is sorts.Pos z h = at_least _ _ h
in_sort_is sorts.Bool z h = let p = and_parts _ _ h in (at_least _ _ p.0, at_least _ _ p.1)

pub in_sort_test : (s : Sort) (z : ℤ) → IsInSort s z → is_in_sort s z ≡ true
in_sort_test sorts.Int z h = refl
in_sort_test sorts.Bin z h = at_least_test _ _ h
in_sort_test sorts.Nat z h = at_least_test _ _ h
in_sort_test sorts.Pos z h = at_least_test _ _ h
in_sort_test sorts.Bool z h = and_from _ _ (at_least_test _ _ h.0) (at_least_test _ _ h.1)

abbrev Fit : List Bound → List ℤ → Type 0
Fit vars values = AllByRecursion IsSmall values × SuitsSorts (point_of values) (sorts_of vars)

fit_is : (vars : List Bound) (values : List ℤ) → length values ≡ length vars → all_fit vars values ≡ true → Fit vars values
fit_is [] [] e h = (tt, λ v s p. absurd (cc))
fit_is [] (z ∷ values) e h = absurd (omega arith)
fit_is (b ∷ vars) [] e h = absurd (omega arith)
fit_is (b ∷ vars) (z ∷ values) e h =
    let p = and_parts _ _ h in
    let q = and_parts _ _ p.0 in
    let rest = fit_is vars values (omega arith) p.1 in
    ((small_is z q.0, rest.0), suits (in_sort_is b.sort z q.1) rest.1)
  where
    suits : IsInSort b.sort z → SuitsSorts (point_of values) (sorts_of vars) → SuitsSorts (point_of (z ∷ values)) (sorts_of (b ∷ vars))
    suits first rest zero s p = subst (λ (t : Sort). IsInSort t z) (same_Some b.sort s p) first
    suits first rest (suc v) s p = rest v s p

fit_test : (vars : List Bound) (values : List ℤ) → Fit vars values → all_fit vars values ≡ true
fit_test [] values h = refl
fit_test (b ∷ vars) [] h = refl
fit_test (b ∷ vars) (z ∷ values) h =
    and_from _ _ (and_from _ _ (small_test z h.0.0) (in_sort_test b.sort z (h.1 0 b.sort refl)))
    (fit_test vars values (h.0.1, λ v s p. h.1 (suc v) s p))

pub in_range_is : (goal : Goal) (a : Assignment) → length a.values ≡ length goal.vars → all_fit goal.vars a.values ≡ true → IsInRange goal a
in_range_is goal a e h = let p = fit_is goal.vars a.values e h in record { one_each = e; small = p.0; suits = p.1 }

pub in_range_test : (goal : Goal) (a : Assignment) → IsInRange goal a → all_fit goal.vars a.values ≡ true
in_range_test goal a h = fit_test goal.vars a.values (h.small, h.suits)
