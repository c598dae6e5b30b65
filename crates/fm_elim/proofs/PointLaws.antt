-- The values of a point solve the rows.
use Rattle.std.specs.Prelude.{◌≡◌, ℕ, suc, ℤ, pos, negsuc, ◌+ℤ◌, ◌*ℤ◌, ◌≤ℤ◌, neg_ℤ, List, [], ◌∷◌, map, take, drop, true, refl}
use Rattle.std.proofs.Common.{ap, sym, ◌∙◌, subst, arith}
use Rattle.std.proofs.lemmas.Int.{ints}
use Rattle.std.proofs.Math.IntN.{*ℤ_comm}
use Rattle.std.specs.List.{AllByRecursion, remove}
use Rattle.std.specs.Ordering.{int_eq}
use Rattle.mm_num.proofs.Ring.{assoc, neg_mul, mul_neg, mul_zero}
use Rattle.mm_poly.specs.declared.term.Term.{Term}
use Rattle.mm_poly.specs.Poly.{IsPoly, coeff_of, linear_value, with_weight, plus, scaled}
use Rattle.mm_poly.proofs.CaseLaws.{by_if, by_same}
use Rattle.mm_poly.proofs.ValueLaws.{zero_mul, one_mul, sum_zero, zero_sum}
use Rattle.mm_poly.proofs.LinearLaws.{linear_plus, linear_scaled, linear_set}
use Rattle.mm_poly.proofs.CoeffLaws.{coeff_plus}
use Rattle.mm_poly.proofs.FiniteLaws.{coeff_scaled}
use Rattle.mm_poly.proofs.PolyLaws.{poly_plus, poly_scaled}
use Rattle.cert_kit.specs.declared.row.Op.{Op}
use Rattle.cert_kit.specs.declared.row.Op.TheVariants.{Ge, Eq}
use Rattle.cert_kit.specs.declared.row.PRow.{PRow}
use Rattle.cert_kit.specs.Row.{Compares}
use Rattle.cert_kit.specs.Meaning.{at_least_0}
use Rattle.fm_elim.specs.declared.removal.Removal.TheVariants.{Solved}
use Rattle.fm_elim.specs.Unknowns.{coeff_in}
use Rattle.fm_elim.specs.Steps.{poly_at, substituted, halved}
use Rattle.fm_elim.specs.Points.{Values, rest_of, value_after, HoldsBy}
use Rattle.fm_elim.proofs.ListLaws.{all_first, all_second, all_at, all_around, all_unmap, all_zip}
use Rattle.fm_elim.proofs.TidyLaws.{IsPolyRow}
use Rattle.fm_elim.proofs.RuleLaws.{IsUnknown, IsEqualityAt, IsGivenAt}
use Rattle.fm_elim.proofs.PolyRowLaws.{poly_at_poly, remove_all}
use Rattle.fm_elim.proofs.ContraLaws.{poly_at_is}

-- a value that is changed

same_weight : (v : Values) (u m : List (ℕ × ℕ)) → with_weight v u (v u) m ≡ v m
same_weight v u m = by_same m u (v u) (v m) (λ z. z ≡ v m) (λ e. ap v (sym e)) refl

pub linear_same : (v w : Values) (ts : List Term) → ((m : List (ℕ × ℕ)) → v m ≡ w m) → linear_value v ts ≡ linear_value w ts
linear_same v w [] f = refl
linear_same v w (t ∷ ts) f = ap (λ z. t.coeff *ℤ z +ℤ linear_value v ts) (f t.mono) ∙ ap (λ z. t.coeff *ℤ w t.mono +ℤ z) (linear_same v w ts f)

no_coefficient : (c z l : ℤ) → c ≡ pos 0 → c *ℤ z +ℤ l ≡ l
no_coefficient c z l e = ap (λ k. k *ℤ z +ℤ l) e ∙ ap (λ k. k +ℤ l) (zero_mul z) ∙ zero_sum l

-- an unknown that doesn't occur changes nothing
pub unchanged : (v : Values) (u : List (ℕ × ℕ)) (z : ℤ) (p : List Term) → IsPoly p → coeff_of p u ≡ pos 0 → linear_value (with_weight v u z) p ≡ linear_value v p
unchanged v u z p h e =
    linear_set v u z p h
    ∙ no_coefficient (coeff_of p u) z _ e
    ∙ sym (no_coefficient (coeff_of p u) (v u) _ e)
    ∙ sym (linear_set v u (v u) p h)
    ∙ linear_same (with_weight v u (v u)) v p (same_weight v u)

-- nor does one change the constant's value
pub constant_stays : (v : Values) (u : List (ℕ × ℕ)) (z : ℤ) → IsUnknown u → v [] ≡ pos 1 → with_weight v u z [] ≡ pos 1
constant_stays v [] z n o = absurd cc
constant_stays v (f ∷ fs) z n o = by_same [] (f ∷ fs) z (v []) (λ k. k ≡ pos 1) (λ e. absurd (differ e)) o
  where
    differ : {f : ℕ × ℕ} {fs : List (ℕ × ℕ)} → [] ≡ f ∷ fs → ⊥
    differ e = cc

-- what an equality gives

cancels : (s l : ℤ) → s *ℤ s ≡ pos 1 → s *ℤ neg_ℤ (s *ℤ l) +ℤ l ≡ pos 0
cancels s l e =
    let a : s *ℤ neg_ℤ (s *ℤ l) ≡ neg_ℤ l = mul_neg s (s *ℤ l) ∙ ap neg_ℤ (sym (assoc s s l) ∙ ap (λ k. k *ℤ l) e ∙ one_mul l) in
    ap (λ k. k +ℤ l) a ∙ opposite l
  where
    opposite : (l : ℤ) → neg_ℤ l +ℤ l ≡ pos 0
    opposite l = omega (arith, ints)

given_value : (v : Values) (u : List (ℕ × ℕ)) (p : List Term) → IsPoly p → coeff_of p u *ℤ coeff_of p u ≡ pos 1
    → linear_value (with_weight v u (neg_ℤ (coeff_of p u *ℤ rest_of u v p))) p ≡ pos 0
given_value v u p h e = linear_set v u (neg_ℤ (coeff_of p u *ℤ rest_of u v p)) p h ∙ cancels (coeff_of p u) (rest_of u v p) e

pub taken_out : (c s : ℤ) → s *ℤ s ≡ pos 1 → c +ℤ neg_ℤ (c *ℤ s) *ℤ s ≡ pos 0
taken_out c s e =
    ap (λ z. c +ℤ z) (neg_mul (c *ℤ s) s ∙ ap neg_ℤ (assoc c s s ∙ ap (λ z. c *ℤ z) e ∙ *ℤ_comm c (pos 1) ∙ one_mul c)) ∙ opposite c
  where
    opposite : (c : ℤ) → c +ℤ neg_ℤ c ≡ pos 0
    opposite c = omega (arith, ints)

same_linear : (w : Values) (q p : List Term) (k : ℤ) → linear_value w p ≡ pos 0 → linear_value w (plus q (scaled k p)) ≡ linear_value w q
same_linear w q p k e =
    linear_plus w q (scaled k p)
    ∙ ap (λ z. linear_value w q +ℤ z) (linear_scaled w k p ∙ ap (λ z. k *ℤ z) e ∙ mul_zero k)
    ∙ sum_zero (linear_value w q)

is_zero : (c : ℤ) → int_eq c (pos 0) ≡ true → c ≡ pos 0
is_zero c e = grind (arith, ints)

substituted_back : (v : Values) (u : List (ℕ × ℕ)) (p : List Term) (r : PRow) → IsPoly p → IsPolyRow r → coeff_of p u *ℤ coeff_of p u ≡ pos 1
    → HoldsBy v (substituted u p r) → HoldsBy (with_weight v u (neg_ℤ (coeff_of p u *ℤ rest_of u v p))) r
substituted_back v u p r h k e =
    let z = neg_ℤ (coeff_of p u *ℤ rest_of u v p) in
    let n = neg_ℤ (coeff_of r.poly u *ℤ coeff_of p u) in
    by_if (int_eq (coeff_in u r) (pos 0)) r (record { poly = plus r.poly (scaled (neg_ℤ (coeff_of r.poly u *ℤ coeff_of p u)) p); op = r.op })
    (λ q. HoldsBy v q → HoldsBy (with_weight v u (neg_ℤ (coeff_of p u *ℤ rest_of u v p))) r)
    (λ b g. subst (Compares r.op) (sym (unchanged v u z r.poly k (is_zero _ b))) g)
    (λ b g.
    let gone : coeff_of (plus r.poly (scaled n p)) u ≡ pos 0 =
    coeff_plus r.poly (scaled n p) u k (poly_scaled n p h) ∙ ap (λ y. coeff_of r.poly u +ℤ y) (coeff_scaled n p u h) ∙ taken_out (coeff_of r.poly u) (coeff_of p u) e in
    subst (Compares r.op)
    (sym (unchanged v u z (plus r.poly (scaled n p)) (poly_plus r.poly (scaled n p) k (poly_scaled n p h)) gone)
    ∙ same_linear (with_weight v u z) r.poly p n (given_value v u p h e)) g)

-- the rows before an equality is solved hold with its unknown's value
equality_holds : (o : Op) (z : ℤ) → o ≡ Eq → z ≡ pos 0 → Compares o z
equality_holds Ge z e h = absurd cc
equality_holds Eq z e h = h

pub solved_back : (v : Values) (rows : List PRow) (k : ℕ) (u : List (ℕ × ℕ)) → AllByRecursion IsPolyRow rows → IsGivenAt rows k u
    → AllByRecursion (HoldsBy v) (map (substituted u (poly_at k rows)) (remove rows k))
    → AllByRecursion (HoldsBy (with_weight v u (value_after v (Solved u (poly_at k rows))))) rows
solved_back v rows k u a g b =
    let p = poly_at k rows in
    let h : IsPoly (poly_at k rows) = poly_at_poly rows k a in
    let row = all_at IsPolyRow rows k g.row g.here a in
    let e : coeff_of (poly_at k rows) u *ℤ coeff_of (poly_at k rows) u ≡ pos 1 =
    subst (λ (q : List Term). coeff_of q u *ℤ coeff_of q u ≡ pos 1) (sym (poly_at_is rows k g.row g.here)) (g.unit row).square in
    let w = with_weight v u (neg_ℤ (coeff_of p u *ℤ rest_of u v p)) in
    let c : AllByRecursion (HoldsBy (with_weight v u (neg_ℤ (coeff_of (poly_at k rows) u *ℤ rest_of u v (poly_at k rows))))) (remove rows k) =
    all_zip IsPolyRow (λ r. HoldsBy v (substituted u p r)) (HoldsBy w) (remove rows k) (λ r i j. substituted_back v u p r h i e j) (remove_all IsPolyRow rows k a)
    (all_unmap (HoldsBy v) (substituted u p) (remove rows k) b) in
    all_around (HoldsBy w) rows k g.row g.here
    (equality_holds g.row.op _ g.equality (ap (linear_value w) (sym (poly_at_is rows k g.row g.here)) ∙ given_value v u p h e))
    (all_first (HoldsBy w) (take k rows) (drop (suc k) rows) c) (all_second (HoldsBy w) (take k rows) (drop (suc k) rows) c)

-- the equality that became two inequalities holds

both_ways : (z m : ℤ) → m ≡ negsuc 0 *ℤ z → pos 0 ≤ℤ z → pos 0 ≤ℤ m → z ≡ pos 0
both_ways z m e h k = omega (arith, ints)

pub halved_back : (v : Values) (rows : List PRow) (k : ℕ) → IsEqualityAt rows k → AllByRecursion (HoldsBy v) (halved k rows) → AllByRecursion (HoldsBy v) rows
halved_back v rows k g b =
    let p = poly_at k rows in
    let c = all_second (HoldsBy v) (take k rows) (at_least_0 (poly_at k rows) ∷ at_least_0 (scaled (negsuc 0) (poly_at k rows)) ∷ drop (suc k) rows) b in
    all_around (HoldsBy v) rows k g.row g.here
    (equality_holds g.row.op _ g.equality
    (ap (linear_value v) (sym (poly_at_is rows k g.row g.here)) ∙ both_ways (linear_value v p) (linear_value v (scaled (negsuc 0) p)) (linear_scaled v (negsuc 0) p) c.0 c.1.0))
    (all_first (HoldsBy v) (take k rows) (at_least_0 (poly_at k rows) ∷ at_least_0 (scaled (negsuc 0) (poly_at k rows)) ∷ drop (suc k) rows) b) c.1.1
