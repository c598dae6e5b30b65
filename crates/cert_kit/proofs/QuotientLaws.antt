-- A polynomial divided by its content term by term.
use Rattle.std.specs.Prelude.{◌≡◌, ℕ, ◌<◌, ℤ, pos, ◌+ℤ◌, List, [], ◌∷◌, cond, refl}
use Rattle.std.proofs.Common.{ap, sym, ◌∙◌, subst, arith}
use Rattle.std.proofs.lemmas.Int.{ints}
use Rattle.std.specs.declared.cmp.Ordering.TheVariants.{Less}
use Rattle.std.specs.Ordering.{int_cmp}
use Rattle.mm_num.specs.Quotient.{floor_by}
use Rattle.mm_poly.specs.declared.term.Term.{Term}
use Rattle.mm_poly.specs.Mono.{mono_cmp, is_constant}
use Rattle.mm_poly.specs.Poly.{AllAfter, IsPoly, with_coeff, plus, constant_of, constant_part, without_constant, floor_divided}
use Rattle.mm_poly.proofs.OrderLaws.{mono_not_self}
use Rattle.mm_poly.proofs.CaseLaws.{by_cases}
use Rattle.mm_poly.proofs.SumLaws as sums
use Rattle.mm_poly.proofs.SumLaws.{add_first, plus_nil}
use Rattle.mm_poly.proofs.CutBoundLaws.{after_divided, poly_divided, zero_divided}
use Rattle.cert_kit.specs.Cut.{divided}

-- no constant comes after the constant monomial
after_constant : (m : List (ℕ × ℕ)) (ts : List Term) → m ≡ [] → AllAfter m ts → (without_constant ts ≡ ts) × (constant_part ts ≡ pos 0)
after_constant m [] e a = (refl, refl)
after_constant m (t ∷ ts) e a = by_mono t.mono refl (after_constant m ts e a.1)
  where
    by_mono : (k : List (ℕ × ℕ)) → t.mono ≡ k → (without_constant ts ≡ ts) × (constant_part ts ≡ pos 0)
        → (without_constant (t ∷ ts) ≡ t ∷ ts) × (constant_part (t ∷ ts) ≡ pos 0)
    by_mono [] q rest = absurd (mono_not_self [] (subst (λ k. mono_cmp k [] ≡ Less) e (subst (λ k. mono_cmp m k ≡ Less) q a.0)))
    by_mono (f ∷ fs) q rest = (
      ap (λ (k : List (ℕ × ℕ)). cond (is_constant k) (without_constant ts) (t ∷ without_constant ts)) q ∙ ap (λ (us : List Term). t ∷ us) rest.0,
      ap (λ (k : List (ℕ × ℕ)). cond (is_constant k) (t.coeff +ℤ constant_part ts) (constant_part ts)) q ∙ rest.1,
    )

-- a term before all others is put in front of them
plus_front : (p : List Term) (u : Term) → IsPoly p → AllAfter u.mono p → plus p (u ∷ []) ≡ u ∷ p
plus_front p u b a = sums.plus_front p u [] a ∙ ap (λ (r : List Term). u ∷ r) (plus_nil p b)

-- a constant before all other terms
with_last : (c : ℤ) (ts : List Term) → IsPoly ts → AllAfter [] ts → with_coeff c [] ts ≡ plus ts (constant_of c)
with_last c ts b a = by_cases (int_cmp c (pos 0))
    (λ h. rw (h, with_coeff) (sym (plus_front ts (record { coeff = c; mono = [] }) b a)))
    (λ h. rw (h, with_coeff) (sym (plus_nil ts b)))
    (λ h. rw (h, with_coeff) (sym (plus_front ts (record { coeff = c; mono = [] }) b a)))

with_sum : (c : ℤ) (m : List (ℕ × ℕ)) (p q : List Term) → AllAfter m (plus p q) → with_coeff c m (plus p q) ≡ plus (with_coeff c m p) q
with_sum c m p q a = by_cases (int_cmp c (pos 0))
    (λ h. rw (h, with_coeff) (sym (add_first (record { coeff = c; mono = m }) (plus p q) a)))
    (λ h. rw (h, with_coeff) refl)
    (λ h. rw (h, with_coeff) (sym (add_first (record { coeff = c; mono = m }) (plus p q) a)))

sum_zero : (c k : ℤ) → k ≡ pos 0 → c +ℤ k ≡ c
sum_zero c k e = omega (arith, ints)

divided_step : (g : ℕ) (c : ℤ) (m : List (ℕ × ℕ)) (ts : List Term) → IsPoly ts → AllAfter m ts → floor_divided g ts ≡ divided g ts
    → floor_divided g (record { coeff = c; mono = m } ∷ ts) ≡ divided g (record { coeff = c; mono = m } ∷ ts)
divided_step g c [] ts p a e =
    let k = after_constant [] ts refl a in
    with_last (floor_by c g) (floor_divided g ts) (poly_divided g ts p) (after_divided [] g ts a)
    ∙ ap (λ (us : List Term). plus (floor_divided g us) (constant_of (floor_by c g))) (sym k.0)
    ∙ ap (λ (z : ℤ). plus (floor_divided g (without_constant ts)) (constant_of (floor_by z g))) (sym (sum_zero c (constant_part ts) k.1))
divided_step g c (f ∷ fs) ts p a e =
    let after : AllAfter (f ∷ fs) (divided g ts) = subst (λ us. AllAfter (f ∷ fs) us) e (after_divided (f ∷ fs) g ts a) in
    ap (λ (us : List Term). with_coeff (floor_by c g) (f ∷ fs) us) e
    ∙ with_sum (floor_by c g) (f ∷ fs) (floor_divided g (without_constant ts)) (constant_of (floor_by (constant_part ts) g)) after

-- each coefficient rounded down is the polynomial divided
pub divided_is : (g : ℕ) (p : List Term) → 0 < g → IsPoly p → floor_divided g p ≡ divided g p
divided_is g [] h a = sym (ap (λ (n : ℕ). constant_of (pos n)) (zero_divided g h))
divided_is g (t ∷ ts) h a = divided_step g t.coeff t.mono ts a.2 a.1 (divided_is g ts h a.2)
