-- Bounds on the norm, the spread and the degree of a sum, a multiple and a product.
use Rattle.std.specs.Prelude.{◌≡◌, ℕ, ◌+◌, ◌*◌, ◌≤◌, max, ℤ, ◌+ℤ◌, ◌*ℤ◌, unsigned_abs, List, [], ◌∷◌, refl}
use Rattle.std.proofs.Common.{arith}
use Rattle.std.proofs.lemmas.Int.{ints, unsigned_abs-mul}
use Rattle.mm_poly.specs.declared.term.Term.{Term}
use Rattle.mm_poly.specs.Mono.{mono_degree, mono_times, times_factor}
use Rattle.mm_poly.specs.Poly.{norm, spread, degree, with_coeff, add_term, plus, scaled, times_term, times}
use Rattle.mm_poly.proofs.CaseLaws.{by_coeff, by_order, by_factor}

pub abs_sum : (a b : ℤ) → unsigned_abs (a +ℤ b) ≤ unsigned_abs a + unsigned_abs b
abs_sum a b = omega (arith, ints)

pub norm_with : (c : ℤ) (m : List (ℕ × ℕ)) (ts : List Term) → norm (with_coeff c m ts) ≤ unsigned_abs c + norm ts
norm_with c m ts = by_coeff c m ts (λ r. norm r ≤ unsigned_abs c + norm ts) (λ e. omega arith) (λ n. omega arith)

norm_add_term : (t : Term) (us : List Term) → norm (add_term t us) ≤ unsigned_abs t.coeff + norm us
norm_add_term t [] = omega arith
norm_add_term t (u ∷ us) = by_order t u us (λ r. norm r ≤ unsigned_abs t.coeff + (unsigned_abs u.coeff + norm us))
    (λ e. omega arith)
    (λ e. omega (arith, norm_with (t.coeff +ℤ u.coeff) u.mono us, abs_sum t.coeff u.coeff))
    (λ e. omega (arith, norm_add_term t us))

pub norm_plus : (p q : List Term) → norm (plus p q) ≤ norm p + norm q
norm_plus [] q = omega arith
norm_plus (t ∷ p) q = omega (arith, norm_add_term t (plus p q), norm_plus p q)

pub norm_scaled : (c : ℤ) (ts : List Term) → norm (scaled c ts) ≤ unsigned_abs c * norm ts
norm_scaled c [] = omega arith
norm_scaled c (t ∷ ts) = omega (arith, norm_with (c *ℤ t.coeff) t.mono (scaled c ts), unsigned_abs-mul c t.coeff, norm_scaled c ts)

norm_times_term : (t : Term) (us : List Term) → norm (times_term t us) ≤ unsigned_abs t.coeff * norm us
norm_times_term t [] = omega arith
norm_times_term t (u ∷ us) = omega (
  arith,
  norm_add_term (record { coeff = t.coeff *ℤ u.coeff; mono = mono_times t.mono u.mono }) (times_term t us),
  unsigned_abs-mul t.coeff u.coeff,
  norm_times_term t us,
)

pub norm_times : (p q : List Term) → norm (times p q) ≤ norm p * norm q
norm_times [] q = omega arith
norm_times (t ∷ p) q = omega (arith, norm_plus (times_term t q) (times p q), norm_times_term t q, norm_times p q)

pub spread_with : (c : ℤ) (m : List (ℕ × ℕ)) (ts : List Term) → spread (with_coeff c m ts) ≤ 1 + spread ts
spread_with c m ts = by_coeff c m ts (λ r. spread r ≤ 1 + spread ts) (λ e. omega arith) (λ n. omega arith)

spread_add_term : (t : Term) (us : List Term) → spread (add_term t us) ≤ 1 + spread us
spread_add_term t [] = omega arith
spread_add_term t (u ∷ us) = by_order t u us (λ r. spread r ≤ 1 + spread (u ∷ us))
    (λ e. omega arith)
    (λ e. omega (arith, spread_with (t.coeff +ℤ u.coeff) u.mono us))
    (λ e. omega (arith, spread_add_term t us))

pub spread_plus : (p q : List Term) → spread (plus p q) ≤ spread p + spread q
spread_plus [] q = omega arith
spread_plus (t ∷ p) q = omega (arith, spread_add_term t (plus p q), spread_plus p q)

pub spread_scaled : (c : ℤ) (ts : List Term) → spread (scaled c ts) ≤ spread ts
spread_scaled c [] = omega arith
spread_scaled c (t ∷ ts) = omega (arith, spread_with (c *ℤ t.coeff) t.mono (scaled c ts), spread_scaled c ts)

spread_times_term : (t : Term) (us : List Term) → spread (times_term t us) ≤ spread us
spread_times_term t [] = omega arith
spread_times_term t (u ∷ us) = omega (
  arith,
  spread_add_term (record { coeff = t.coeff *ℤ u.coeff; mono = mono_times t.mono u.mono }) (times_term t us),
  spread_times_term t us,
)

pub spread_times : (p q : List Term) → spread (times p q) ≤ spread p * spread q
spread_times [] q = omega arith
spread_times (t ∷ p) q = omega (arith, spread_plus (times_term t q) (times p q), spread_times_term t q, spread_times p q)

pub degree_with : (c : ℤ) (m : List (ℕ × ℕ)) (ts : List Term) → degree (with_coeff c m ts) ≤ max (mono_degree m) (degree ts)
degree_with c m ts = by_coeff c m ts (λ r. degree r ≤ max (mono_degree m) (degree ts)) (λ e. omega arith) (λ n. omega arith)

degree_add_term : (t : Term) (us : List Term) → degree (add_term t us) ≤ max (mono_degree t.mono) (degree us)
degree_add_term t [] = omega arith
degree_add_term t (u ∷ us) = by_order t u us (λ r. degree r ≤ max (mono_degree t.mono) (max (mono_degree u.mono) (degree us)))
    (λ e. omega arith)
    (λ e. omega (arith, degree_with (t.coeff +ℤ u.coeff) u.mono us))
    (λ e. omega (arith, degree_add_term t us))

pub degree_plus : (p q : List Term) → degree (plus p q) ≤ max (degree p) (degree q)
degree_plus [] q = omega arith
degree_plus (t ∷ p) q = omega (arith, degree_add_term t (plus p q), degree_plus p q)

pub degree_scaled : (c : ℤ) (ts : List Term) → degree (scaled c ts) ≤ degree ts
degree_scaled c [] = omega arith
degree_scaled c (t ∷ ts) = omega (arith, degree_with (c *ℤ t.coeff) t.mono (scaled c ts), degree_scaled c ts)

pub degree_times_factor : (f : ℕ × ℕ) (gs : List (ℕ × ℕ)) → mono_degree (times_factor f gs) ≡ f.1 + mono_degree gs
degree_times_factor f [] = refl
degree_times_factor f (g ∷ gs) = by_factor f g gs (λ r. mono_degree r ≡ f.1 + (g.1 + mono_degree gs))
    (λ e. refl) (λ e. omega arith) (λ e. omega (arith, degree_times_factor f gs))

pub degree_mono_times : (a b : List (ℕ × ℕ)) → mono_degree (mono_times a b) ≡ mono_degree a + mono_degree b
degree_mono_times [] b = omega arith
degree_mono_times (f ∷ fs) b = omega (arith, degree_times_factor f (mono_times fs b), degree_mono_times fs b)

degree_times_term : (t : Term) (us : List Term) → degree (times_term t us) ≤ mono_degree t.mono + degree us
degree_times_term t [] = omega arith
degree_times_term t (u ∷ us) = omega (
  arith,
  degree_add_term (record { coeff = t.coeff *ℤ u.coeff; mono = mono_times t.mono u.mono }) (times_term t us),
  degree_mono_times t.mono u.mono,
  degree_times_term t us,
)

pub degree_times : (p q : List Term) → degree (times p q) ≤ degree p + degree q
degree_times [] q = omega arith
degree_times (t ∷ p) q = omega (arith, degree_plus (times_term t q) (times p q), degree_times_term t q, degree_times p q)
