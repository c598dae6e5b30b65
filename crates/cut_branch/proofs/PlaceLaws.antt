-- The place of a variable among rising ones, and what a monomial counts for by it.
use Rattle.std.specs.Prelude.{◌≡◌, ℕ, zero, suc, ◌+◌, ◌<◌, ◌≤◌, ℤ, pos, List, [], ◌∷◌, length, Bool, false, cond, not, nat_eq, slice_index_or, slice_get, Some, Ok}
use Rattle.std.proofs.Common.{ap, sym, ◌∙◌, subst, arith, get_or}
use Rattle.std.specs.List.{AllByRecursion}
use Rattle.std.specs.List.Sorted.{IsStrictlySortedBy, IsBinarySearchResult}
use Rattle.std.proofs.lemmas.List.Sorted.{searched}
use Rattle.std.specs.Ordering.{nat_cmp}
use Rattle.std.specs.Cmp.{nat_cmp_total}
use Rattle.std.specs.declared.cmp.Ordering.TheVariants.{Less}
use Rattle.mm_poly.proofs.FactorLaws.{less_is}
use Rattle.cert_kit.specs.declared.row.PRow.{PRow}
use Rattle.cert_kit.specs.Variables.{place_of, point_over, variables_of, row_variables}
use Rattle.cert_kit.proofs.OrderedLaws.{in_order_rises}
use Rattle.cert_kit.proofs.VariableLaws.{any_self}
use Rattle.cut_branch.specs.Points.{weight_over}

pub variables_rise : (rows : List PRow) → IsStrictlySortedBy nat_cmp (variables_of rows)
variables_rise rows = in_order_rises nat_cmp nat_cmp_total (row_variables rows)

after_all : (u : ℕ) (vars : List ℕ) (i : ℕ) → AllByRecursion (λ w. nat_cmp u w ≡ Less) vars → i < length vars → u < get_or vars i 0
after_all u [] i a h = absurd (omega arith)
after_all u (w ∷ vars) zero a h = less_is u w a.0
after_all u (w ∷ vars) (suc i) a h = after_all u vars i a.1 (omega arith)

rising_at : (vars : List ℕ) → IsStrictlySortedBy nat_cmp vars → (i j : ℕ) → i ≤ j → j < length vars → get_or vars i 0 ≤ get_or vars j 0
unfolding IsStrictlySortedBy
rising_at [] s i j l h = absurd (omega arith)
rising_at (v ∷ vars) s zero zero l h = omega arith
rising_at (v ∷ vars) s zero (suc j) l h = let a = after_all v vars j s.0 (omega arith) in omega (arith, a)
rising_at (v ∷ vars) s (suc i) zero l h = absurd (omega arith)
rising_at (v ∷ vars) s (suc i) (suc j) l h = rising_at vars s.1 i j (omega arith) (omega arith)

-- a rising list has an element at one place alone
pub place_is : (vars : List ℕ) (v i : ℕ) → IsStrictlySortedBy nat_cmp vars → i < length vars → get_or vars i 0 ≡ v → place_of vars v ≡ i
unfolding IsStrictlySortedBy
place_is [] v i s h e = absurd (omega arith)
place_is (u ∷ vars) v zero s h e = subst (λ w. place_of (u ∷ vars) w ≡ 0) e (ap (λ (c : Bool). cond (not c) (1 + place_of vars u) 0) (any_self u))
place_is (u ∷ vars) v (suc i) s h e =
    let l : u < get_or vars i 0 = after_all u vars i s.0 (omega arith) in
    let n : nat_eq v u ≡ false = other v u (omega (arith, l, e)) in
    let k : place_of vars v ≡ i = place_is vars v i s.1 (omega arith) e in
    ap (λ (c : Bool). cond (not c) (1 + place_of vars v) 0) n ∙ (let m : 1 + place_of vars v ≡ suc i = omega (arith, k) in m)
  where
    other : (v u : ℕ) → u < v → nat_eq v u ≡ false
    other v u l = grind arith

-- what a search finds is the place
pub found_place : (vars : List ℕ) (v i : ℕ) → IsStrictlySortedBy nat_cmp vars → IsBinarySearchResult (λ y. nat_cmp y v) vars (Ok i)
    → (i < length vars) × (place_of vars v ≡ i)
found_place vars v i s b =
    let p : (i < length vars) × (get_or vars i 0 ≡ v) = searched vars v (Ok i) b (λ j k l h. rising_at vars s j k l h) in
    (p.0, place_is vars v i s p.0 p.1)

-- a monomial counts for its first variable's numerator
pub first_weight : (vars : List ℕ) (den : ℤ) (nums : List ℤ) (m : List (ℕ × ℕ)) (f : ℕ × ℕ) → slice_get m 0 ≡ Some f
    → weight_over vars den nums m ≡ point_over vars nums f.0
first_weight vars den nums [] f e = absurd cc
first_weight vars den nums (g ∷ gs) f e = let h : g ≡ f = cc in ap (λ (k : ℕ × ℕ). point_over vars nums k.0) h

pub weight_found : (vars : List ℕ) (den : ℤ) (nums : List ℤ) (m : List (ℕ × ℕ)) (f : ℕ × ℕ) (i : ℕ) → IsStrictlySortedBy nat_cmp vars
    → IsBinarySearchResult (λ y. nat_cmp y f.0) vars (Ok i)
    → slice_get m 0 ≡ Some f → slice_index_or nums i (pos 0) ≡ weight_over vars den nums m
weight_found vars den nums m f i s b e = let p = found_place vars f.0 i s b in sym (first_weight vars den nums m f e ∙ ap (λ (k : ℕ). slice_index_or nums k (pos 0)) p.1)
