-- Sums, multiples and products of polynomials are polynomials, within bounds.
use Rattle.std.specs.Prelude.{◌≡◌, ◌≢◌, ℕ, ◌+◌, ◌*◌, ◌^◌, ◌<◌, ◌≤◌, ℤ, pos, ◌+ℤ◌, ◌*ℤ◌, unsigned_abs, List, [], ◌∷◌}
use Rattle.std.proofs.Common.{ap, sym, ◌∙◌, arith}
use Rattle.std.proofs.lemmas.Int.{ints, unsigned_abs-mul}
use Rattle.std.specs.declared.cmp.Ordering.TheVariants.{Less}
use Rattle.mm_poly.specs.declared.term.Term.{Term}
use Rattle.mm_poly.specs.Mono.{mono_cmp, mono_times, IsMono, VarsBelow}
use Rattle.mm_poly.specs.Poly.{norm, spread, AllAfter, IsPoly, Fits, with_coeff, add_term, plus, scaled, times_term, times}
use Rattle.mm_poly.proofs.OrderLaws.{mono_back, mono_through}
use Rattle.mm_poly.proofs.CaseLaws.{by_coeff, by_order}
use Rattle.mm_poly.proofs.EachLaws.{each_plus, each_scaled}
use Rattle.mm_poly.proofs.BoundLaws.{norm_plus, norm_scaled, spread_plus, spread_scaled, degree_plus, degree_scaled}

pub after_through : (m k : List (ℕ × ℕ)) (ts : List Term) → mono_cmp m k ≡ Less → AllAfter k ts → AllAfter m ts
after_through m k [] h a = tt
after_through m k (t ∷ ts) h a = (mono_through m k t.mono h a.0, after_through m k ts h a.1)

pub after_with : (m : List (ℕ × ℕ)) (c : ℤ) (k : List (ℕ × ℕ)) (ts : List Term) → mono_cmp m k ≡ Less → AllAfter m ts → AllAfter m (with_coeff c k ts)
after_with m c k ts h a = by_coeff c k ts (λ r. AllAfter m r) (λ e. a) (λ n. (h, a))

pub after_add_term : (m : List (ℕ × ℕ)) (t : Term) (us : List Term) → mono_cmp m t.mono ≡ Less → AllAfter m us → AllAfter m (add_term t us)
after_add_term m t [] h a = (h, tt)
after_add_term m t (u ∷ us) h a = by_order t u us (λ r. AllAfter m r)
    (λ e. (h, a))
    (λ e. after_with m (t.coeff +ℤ u.coeff) u.mono us a.0 a.1)
    (λ e. (a.0, after_add_term m t us h a.1))

pub after_plus : (m : List (ℕ × ℕ)) (p q : List Term) → AllAfter m p → AllAfter m q → AllAfter m (plus p q)
after_plus m [] q a b = b
after_plus m (t ∷ p) q a b = after_add_term m t (plus p q) a.0 (after_plus m p q a.1 b)

pub after_scaled : (m : List (ℕ × ℕ)) (c : ℤ) (ts : List Term) → AllAfter m ts → AllAfter m (scaled c ts)
after_scaled m c [] a = tt
after_scaled m c (t ∷ ts) a = after_with m (c *ℤ t.coeff) t.mono (scaled c ts) a.0 (after_scaled m c ts a.1)

pub poly_with : (c : ℤ) (m : List (ℕ × ℕ)) (ts : List Term) → AllAfter m ts → IsPoly ts → IsPoly (with_coeff c m ts)
poly_with c m ts a p = by_coeff c m ts (λ r. IsPoly r) (λ e. p) (λ n. (n, a, p))

pub poly_add_term : (t : Term) (us : List Term) → t.coeff ≢ pos 0 → IsPoly us → IsPoly (add_term t us)
poly_add_term t [] n p = (n, tt, tt)
poly_add_term t (u ∷ us) n p = by_order t u us (λ r. IsPoly r)
    (λ e. (n, (e, after_through t.mono u.mono us e p.1), p))
    (λ e. poly_with (t.coeff +ℤ u.coeff) u.mono us p.1 p.2)
    (λ e. (p.0, after_add_term u.mono t us (mono_back t.mono u.mono e) p.1, poly_add_term t us n p.2))

pub poly_plus : (p q : List Term) → IsPoly p → IsPoly q → IsPoly (plus p q)
poly_plus [] q a b = b
poly_plus (t ∷ p) q a b = poly_add_term t (plus p q) a.0 (poly_plus p q a.2 b)

pub poly_scaled : (c : ℤ) (ts : List Term) → IsPoly ts → IsPoly (scaled c ts)
poly_scaled c [] p = tt
poly_scaled c (t ∷ ts) p = poly_with (c *ℤ t.coeff) t.mono (scaled c ts) (after_scaled t.mono c ts p.1) (poly_scaled c ts p.2)

abs_zero : (a : ℤ) → unsigned_abs a ≡ 0 → a ≡ pos 0
abs_zero a h = omega (arith, ints)

abs_nonzero : (a : ℤ) → a ≢ pos 0 → 1 ≤ unsigned_abs a
abs_nonzero a h = omega (arith, ints)

times_positive : (m n : ℕ) → 1 ≤ m → 1 ≤ n → 1 ≤ m * n
times_positive m n h k = grind arith

pub product_nonzero : (a b : ℤ) → a ≢ pos 0 → b ≢ pos 0 → a *ℤ b ≢ pos 0
product_nonzero a b h k e =
    let p : unsigned_abs (a *ℤ b) ≡ 0 = ap unsigned_abs e in
    omega (arith, sym (unsigned_abs-mul a b) ∙ p, times_positive (unsigned_abs a) (unsigned_abs b) (abs_nonzero a h) (abs_nonzero b k))

pub poly_times_term : (t : Term) (us : List Term) → t.coeff ≢ pos 0 → IsPoly us → IsPoly (times_term t us)
poly_times_term t [] n p = tt
poly_times_term t (u ∷ us) n p = poly_add_term (record { coeff = t.coeff *ℤ u.coeff; mono = mono_times t.mono u.mono }) (times_term t us)
    (product_nonzero t.coeff u.coeff n p.0) (poly_times_term t us n p.2)

pub poly_times : (p q : List Term) → IsPoly p → IsPoly q → IsPoly (times p q)
poly_times [] q a b = tt
poly_times (t ∷ p) q a b = poly_plus (times_term t q) (times p q) (poly_times_term t q a.0 b) (poly_times p q a.2 b)

pub fits_plus : (p q : List Term) → Fits p → Fits q → norm p + norm q < 2 ^ 126 → spread p + spread q ≤ 65536 → Fits (plus p q)
fits_plus p q a b n s = record {
  order = poly_plus p q a.order b.order;
  monos = each_plus IsMono p q a.monos b.monos;
  room = each_plus (VarsBelow (2 ^ 32)) p q a.room b.room;
  norm = omega (arith, norm_plus p q, n);
  spread = omega (arith, spread_plus p q, s);
  degree = omega (arith, degree_plus p q, a.degree, b.degree);
}

pub fits_scaled : (c : ℤ) (p : List Term) → Fits p → norm p * unsigned_abs c < 2 ^ 126 → Fits (scaled c p)
fits_scaled c p a n = record {
  order = poly_scaled c p a.order;
  monos = each_scaled IsMono c p a.monos;
  room = each_scaled (VarsBelow (2 ^ 32)) c p a.room;
  norm = omega (arith, norm_scaled c p, n);
  spread = omega (arith, spread_scaled c p, a.spread);
  degree = omega (arith, degree_scaled c p, a.degree);
}
