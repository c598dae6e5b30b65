-- A polynomial is told by its coefficients, and a sum has the sums of the coefficients.
use Rattle.std.specs.Prelude.{◌≡◌, ◌≢◌, ℕ, ℤ, pos, ◌+ℤ◌, List, [], ◌∷◌, refl}
use Rattle.std.proofs.Common.{ap, sym, ◌∙◌, subst, arith}
use Rattle.std.proofs.lemmas.Int.{ints}
use Rattle.std.specs.declared.cmp.Ordering.TheVariants.{Less}
use Rattle.mm_poly.specs.declared.term.Term.{Term}
use Rattle.mm_poly.specs.Mono.{mono_cmp}
use Rattle.mm_poly.specs.Poly.{coeff_of, AllAfter, IsPoly, with_coeff, add_term, plus}
use Rattle.mm_poly.proofs.OrderLaws.{mono_exact, mono_back, mono_same, mono_not_self}
use Rattle.mm_poly.proofs.CaseLaws.{by_cases, by_coeff, by_order, by_same}
use Rattle.mm_poly.proofs.ValueLaws.{zero_sum, sum_zero, sum_assoc, sum_swap}
use Rattle.mm_poly.proofs.PolyLaws.{after_through, after_add_term, poly_plus}

-- what comes after a monomial doesn't have it
pub coeff_after : (m : List (ℕ × ℕ)) (ts : List Term) → AllAfter m ts → coeff_of ts m ≡ pos 0
coeff_after m [] a = refl
coeff_after m (t ∷ ts) a = by_same t.mono m t.coeff (coeff_of ts m) (λ r. r ≡ pos 0)
    (λ e. absurd (mono_not_self m (subst (λ k. mono_cmp m k ≡ Less) e a.0)))
    (coeff_after m ts a.1)

pub coeff_first : (t : Term) (us : List Term) (m : List (ℕ × ℕ)) → AllAfter t.mono us → coeff_of (t ∷ us) m ≡ coeff_of (t ∷ []) m +ℤ coeff_of us m
coeff_first t us m a = by_cases (mono_cmp t.mono m)
    (λ h. rw h (sym (zero_sum (coeff_of us m))))
    (λ h.
    let z : coeff_of us m ≡ pos 0 = subst (λ k. coeff_of us k ≡ pos 0) (mono_exact t.mono m h) (coeff_after t.mono us a) in
    rw h (sym (sum_zero t.coeff) ∙ ap (λ v. t.coeff +ℤ v) (sym z)))
    (λ h. rw h (sym (zero_sum (coeff_of us m))))

no_coeff : (k m : List (ℕ × ℕ)) (c : ℤ) → c ≡ pos 0 → coeff_of (record { coeff = c; mono = k } ∷ []) m ≡ pos 0
no_coeff k m c e = by_same k m c (pos 0) (λ r. r ≡ pos 0) (λ s. e) refl

both_coeffs : (k m : List (ℕ × ℕ)) (a b : ℤ) → coeff_of (record { coeff = a +ℤ b; mono = k } ∷ []) m
    ≡ coeff_of (record { coeff = a; mono = k } ∷ []) m +ℤ coeff_of (record { coeff = b; mono = k } ∷ []) m
both_coeffs k m a b = by_cases (mono_cmp k m) (λ h. rw h refl) (λ h. rw h refl) (λ h. rw h refl)

pub coeff_with : (c : ℤ) (k : List (ℕ × ℕ)) (us : List Term) (m : List (ℕ × ℕ)) → AllAfter k us
    → coeff_of (with_coeff c k us) m ≡ coeff_of (record { coeff = c; mono = k } ∷ []) m +ℤ coeff_of us m
coeff_with c k us m a = by_coeff c k us (λ r. coeff_of r m ≡ coeff_of (record { coeff = c; mono = k } ∷ []) m +ℤ coeff_of us m)
    (λ e. sym (zero_sum (coeff_of us m)) ∙ ap (λ v. v +ℤ coeff_of us m) (sym (no_coeff k m c e)))
    (λ n. coeff_first (record { coeff = c; mono = k }) us m a)

pub coeff_add_term : (t : Term) (us : List Term) (m : List (ℕ × ℕ)) → IsPoly us → coeff_of (add_term t us) m ≡ coeff_of (t ∷ []) m +ℤ coeff_of us m
coeff_add_term t [] m p = sym (sum_zero (coeff_of (t ∷ []) m))
coeff_add_term t (u ∷ us) m p = by_order t u us (λ r. coeff_of r m ≡ coeff_of (t ∷ []) m +ℤ coeff_of (u ∷ us) m)
    (λ e. coeff_first t (u ∷ us) m (e, after_through t.mono u.mono us e p.1))
    (λ e. coeff_with (t.coeff +ℤ u.coeff) u.mono us m p.1
    ∙ ap (λ v. v +ℤ coeff_of us m) (both_coeffs u.mono m t.coeff u.coeff)
    ∙ sym (sum_assoc (coeff_of (record { coeff = t.coeff; mono = u.mono } ∷ []) m) (coeff_of (u ∷ []) m) (coeff_of us m))
    ∙ ap (λ k. coeff_of (record { coeff = t.coeff; mono = k } ∷ []) m +ℤ (coeff_of (u ∷ []) m +ℤ coeff_of us m)) (sym (mono_exact t.mono u.mono e))
    ∙ ap (λ v. coeff_of (t ∷ []) m +ℤ v) (sym (coeff_first u us m p.1)))
    (λ e. coeff_first u (add_term t us) m (after_add_term u.mono t us (mono_back t.mono u.mono e) p.1)
    ∙ ap (λ v. coeff_of (u ∷ []) m +ℤ v) (coeff_add_term t us m p.2)
    ∙ sum_swap (coeff_of (u ∷ []) m) (coeff_of (t ∷ []) m) (coeff_of us m)
    ∙ ap (λ v. coeff_of (t ∷ []) m +ℤ v) (sym (coeff_first u us m p.1)))

-- the sum's coefficients
pub coeff_plus : (p q : List Term) (m : List (ℕ × ℕ)) → IsPoly p → IsPoly q → coeff_of (plus p q) m ≡ coeff_of p m +ℤ coeff_of q m
coeff_plus [] q m a b = sym (zero_sum (coeff_of q m))
coeff_plus (t ∷ p) q m a b =
    coeff_add_term t (plus p q) m (poly_plus p q a.2 b)
    ∙ ap (λ v. coeff_of (t ∷ []) m +ℤ v) (coeff_plus p q m a.2 b)
    ∙ sum_assoc (coeff_of (t ∷ []) m) (coeff_of p m) (coeff_of q m)
    ∙ ap (λ v. v +ℤ coeff_of q m) (sym (coeff_first t p m a.1))

coeff_itself : (t : Term) (ts : List Term) → coeff_of (t ∷ ts) t.mono ≡ t.coeff
coeff_itself t ts = rw (mono_same t.mono) refl

pub term_same : (t u : Term) → t.coeff ≡ u.coeff → t.mono ≡ u.mono → t ≡ u
term_same t u c m = ap (λ (a : ℤ). let r : Term = record { coeff = a; mono = t.mono } in r) c ∙ ap (λ (k : List (ℕ × ℕ)). let r : Term = record { coeff = u.coeff; mono = k } in r) m

not_first : (t : Term) (ts us : List Term) → t.coeff ≢ pos 0 → AllAfter t.mono us → coeff_of (t ∷ ts) t.mono ≡ coeff_of us t.mono → ⊥
not_first t ts us n a h = n (sym (coeff_itself t ts) ∙ h ∙ coeff_after t.mono us a)

cancelled : (a v w : ℤ) → a +ℤ v ≡ a +ℤ w → v ≡ w
cancelled a v w h = omega (arith, ints)

-- two polynomials with the same coefficients are the same
pub unique : (p q : List Term) → IsPoly p → IsPoly q → ((m : List (ℕ × ℕ)) → coeff_of p m ≡ coeff_of q m) → p ≡ q
unique [] [] a b h = refl
unique [] (u ∷ us) a b h = absurd (not_first u us [] b.0 tt (sym (h u.mono)))
unique (t ∷ ts) [] a b h = absurd (not_first t ts [] a.0 tt (h t.mono))
unique (t ∷ ts) (u ∷ us) a b h = by_cases (mono_cmp t.mono u.mono)
    (λ e. absurd (not_first t ts (u ∷ us) a.0 (e, after_through t.mono u.mono us e b.1) (h t.mono)))
    (λ e.
    let m : t.mono ≡ u.mono = mono_exact t.mono u.mono e in
    let c : t.coeff ≡ u.coeff = sym (coeff_itself t ts) ∙ h t.mono ∙ ap (λ k. coeff_of (u ∷ us) k) m ∙ coeff_itself u us in
    let same : t ≡ u = term_same t u c m in
    let rest : ts ≡ us = unique ts us a.2 b.2 (λ k. cancelled (coeff_of (t ∷ []) k) (coeff_of ts k) (coeff_of us k)
    (sym (coeff_first t ts k a.1) ∙ h k ∙ coeff_first u us k b.1 ∙ ap (λ (r : Term). coeff_of (r ∷ []) k +ℤ coeff_of us k) (sym same))) in
    ap (λ (r : Term). r ∷ ts) same ∙ ap (λ (rs : List Term). u ∷ rs) rest)
    (λ e. let back = mono_back t.mono u.mono e in
    absurd (not_first u us (t ∷ ts) b.0 (back, after_through u.mono t.mono ts back a.1) (sym (h u.mono))))
