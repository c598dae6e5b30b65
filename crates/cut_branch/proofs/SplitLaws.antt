-- A split between the whole numbers around a value that isn't whole.
use Rattle.std.specs.Prelude.{◌≡◌, ◌≢◌, ℕ, zero, suc, ◌+◌, ◌*◌, ◌<◌, ◌≤◌, ◌^◌, ℤ, pos, negsuc, ◌+ℤ◌, ◌-ℤ◌, ◌*ℤ◌, neg_ℤ, ◌<ℤ◌, ◌≤ℤ◌, unsigned_abs, List, [], ◌∷◌, refl}
use Rattle.std.proofs.Common.{ap, sym, ◌∙◌, subst, arith, mul-one}
use Rattle.std.proofs.lemmas.Int.{ints, unsigned_abs-mul}
use Rattle.std.proofs.Math.IntN.{*ℤ_comm}
use Rattle.std.specs.Int.{◌∣◌}
use Rattle.std.proofs.Math.Nat.{dvd-mul_right, eq-one_of_dvd-one}
use Rattle.mm_num.specs.Quotient.{IsFloor}
use Rattle.mm_num.specs.Frac.{IsFraction}
use Rattle.mm_num.proofs.FracLaws.{divides_other}
use Rattle.mm_num.proofs.Ring.{dist_r, assoc, neg_mul, product_positive}
use Rattle.mm_poly.specs.Poly.{linear_value, norm, spread, degree, scaled, variable_of, constant_of}
use Rattle.mm_poly.proofs.LinearLaws.{linear_plus, linear_scaled, linear_constant}
use Rattle.mm_poly.proofs.BoundLaws.{norm_with, norm_plus, norm_scaled, spread_with, spread_plus, spread_scaled, degree_with, degree_plus, degree_scaled}
use Rattle.cert_kit.specs.Meaning.{own_bounds}
use Rattle.cert_kit.specs.Acceptance.{below_bounds}
use Rattle.cert_kit.proofs.BoundedLaws.{within_limits}
use Rattle.cut_branch.specs.Picking.{FitsSplit}
use Rattle.cut_branch.specs.machine.Scaling.{shifted, IsSplitAt}

-- ---- the value is between whole numbers

-- in lowest terms a multiple of the denominator has the denominator 1
whole_value : (x : ℤ × ℤ) (q : ℤ) → IsFraction x → x.1 *ℤ q ≡ x.0 → x.1 ≡ pos 1
whole_value x q f e =
    let a : unsigned_abs x.1 * unsigned_abs q ≡ unsigned_abs x.0 = sym (unsigned_abs-mul x.1 q) ∙ ap unsigned_abs e in
    let d : unsigned_abs x.1 ∣ unsigned_abs x.0 = subst (λ n. unsigned_abs x.1 ∣ n) a (dvd-mul_right (unsigned_abs x.1) (unsigned_abs q)) in
    let one : unsigned_abs x.1 ∣ 1 =
    divides_other (unsigned_abs x.0) (unsigned_abs x.1) 1 f.lowest (subst (λ n. unsigned_abs x.1 ∣ n) (sym (mul-one (unsigned_abs x.0))) d) in
    let n : unsigned_abs x.1 ≡ 1 = eq-one_of_dvd-one one in
    let p = f.positive in
    omega (arith, ints, n, p)

not_at : (a b : ℤ) → a ≤ℤ b → (a ≡ b → ⊥) → a <ℤ b
not_at a b h n = by_difference (b -ℤ a) refl
  where
    by_difference : (d : ℤ) → d ≡ b -ℤ a → a <ℤ b
    by_difference (pos zero) e = absurd (n (omega (arith, ints, e)))
    by_difference (pos (suc k)) e = omega (arith, ints, e)
    by_difference (negsuc k) e = absurd (omega (arith, ints, e, h))

pub above_floor : (x : ℤ × ℤ) (q : ℤ) → IsFraction x → IsFloor x.0 x.1 q → x.1 ≢ pos 1 → (x.1 *ℤ q) <ℤ x.0
above_floor x q f l n = not_at (x.1 *ℤ q) x.0 l.below (λ e. n (whole_value x q f e))

-- ---- and so is the polynomial's

shifted_value : (w : List (ℕ × ℕ) → ℤ) (s : ℤ) (v : ℕ) (k : ℤ) → linear_value w (shifted s v k) ≡ s *ℤ w ((v, 1) ∷ []) +ℤ k *ℤ w []
shifted_value w s v k =
    linear_plus w (scaled s (variable_of v)) (constant_of k)
    ∙ ap (λ z. z +ℤ linear_value w (constant_of k)) (linear_scaled w s (variable_of v) ∙ ap (λ z. s *ℤ z) (one_term (w ((v, 1) ∷ []))))
    ∙ ap (λ z. s *ℤ w ((v, 1) ∷ []) +ℤ z) (linear_constant w k)
  where
    one_term : (z : ℤ) → pos 1 *ℤ z +ℤ pos 0 ≡ z
    one_term (pos n) = omega (arith, ints)
    one_term (negsuc n) = omega (arith, ints)

less_product : (a b d : ℤ) → pos 0 <ℤ d → (a *ℤ d) <ℤ (b *ℤ d) → a <ℤ b
less_product a b d h l = by_difference (b -ℤ a) refl
  where
    by_difference : (c : ℤ) → c ≡ b -ℤ a → a <ℤ b
    by_difference (pos zero) e =
        let s : b ≡ a = omega (arith, ints, e) in
        let t : b *ℤ d ≡ a *ℤ d = ap (λ z. z *ℤ d) s in
        absurd (omega (arith, ints, t, l))
    by_difference (pos (suc k)) e = omega (arith, ints, e)
    by_difference (negsuc k) e =
        let s : a ≡ b +ℤ pos (suc k) = omega (arith, ints, e) in
        let t : a *ℤ d ≡ b *ℤ d +ℤ pos (suc k) *ℤ d = ap (λ z. z *ℤ d) s ∙ dist_r b (pos (suc k)) d in
        let p : pos 0 <ℤ (pos (suc k) *ℤ d) = product_positive (pos (suc k)) d (omega (arith, ints)) h in
        absurd (omega (arith, ints, t, l, p))

more_product : (a b d : ℤ) → pos 0 <ℤ d → a <ℤ b → (a *ℤ d) <ℤ (b *ℤ d)
more_product a b d h l =
    let p : pos 0 <ℤ ((b +ℤ neg_ℤ a) *ℤ d) = product_positive (b +ℤ neg_ℤ a) d (omega (arith, ints, l)) h in
    let t = dist_r b (neg_ℤ a) d in
    let n = neg_mul a d in
    omega (arith, ints, p, t, n)

-- n over d is the fraction a over b, which is between q and q + 1
between : (n d a b q : ℤ) → pos 0 <ℤ d → pos 0 <ℤ b → n *ℤ b ≡ a *ℤ d → (b *ℤ q) <ℤ a → a <ℤ (b *ℤ q +ℤ b) → ((q *ℤ d) <ℤ n) × (n <ℤ (q *ℤ d +ℤ d))
between n d a b q pd pb e low high =
    let l : ((b *ℤ q) *ℤ d) <ℤ (a *ℤ d) = more_product (b *ℤ q) a d pd low in
    let h : (a *ℤ d) <ℤ ((b *ℤ q +ℤ b) *ℤ d) = more_product a (b *ℤ q +ℤ b) d pd high in
    let s : (q *ℤ d) *ℤ b ≡ (b *ℤ q) *ℤ d = *ℤ_comm (q *ℤ d) b ∙ sym (assoc b q d) in
    let t : (q *ℤ d +ℤ d) *ℤ b ≡ (q *ℤ d) *ℤ b +ℤ d *ℤ b = dist_r (q *ℤ d) d b in
    let u : (b *ℤ q +ℤ b) *ℤ d ≡ (b *ℤ q) *ℤ d +ℤ b *ℤ d = dist_r (b *ℤ q) b d in
    let c : d *ℤ b ≡ b *ℤ d = *ℤ_comm d b in (
      less_product (q *ℤ d) n b pb (omega (arith, ints, l, s, e)),
      less_product n (q *ℤ d +ℤ d) b pb (omega (arith, ints, h, s, t, u, c, e)),
    )

rising : (n d q : ℤ) → (q *ℤ d) <ℤ n → n <ℤ (q *ℤ d +ℤ d) → (neg_ℤ d <ℤ (pos 1 *ℤ n +ℤ (neg_ℤ q -ℤ pos 1) *ℤ d)) × ((pos 1 *ℤ n +ℤ (neg_ℤ q -ℤ pos 1) *ℤ d) <ℤ pos 0)
rising n d q l h =
    let a : pos 1 *ℤ n ≡ n = one n in
    let b : (neg_ℤ q -ℤ pos 1) *ℤ d ≡ neg_ℤ (q *ℤ d) +ℤ neg_ℤ d =
    (let s : neg_ℤ q -ℤ pos 1 ≡ neg_ℤ q +ℤ negsuc 0 = omega (arith, ints) in
    let t = dist_r (neg_ℤ q) (negsuc 0) d in let u = neg_mul q d in let v = neg_mul (pos 1) d in let w = one d in
    let r : (neg_ℤ q -ℤ pos 1) *ℤ d ≡ (neg_ℤ q +ℤ negsuc 0) *ℤ d = ap (λ z. z *ℤ d) s in omega (arith, ints, r, t, u, v, w)) in
    (omega (arith, ints, a, b, l, h), omega (arith, ints, a, b, l, h))
  where
    one : (z : ℤ) → pos 1 *ℤ z ≡ z
    one (pos n) = omega (arith, ints)
    one (negsuc n) = omega (arith, ints)

falling : (n d q : ℤ) → (q *ℤ d) <ℤ n → n <ℤ (q *ℤ d +ℤ d) → (neg_ℤ d <ℤ (negsuc 0 *ℤ n +ℤ q *ℤ d)) × ((negsuc 0 *ℤ n +ℤ q *ℤ d) <ℤ pos 0)
falling n d q l h = let a : negsuc 0 *ℤ n ≡ neg_ℤ n = minus n in (omega (arith, ints, a, l, h), omega (arith, ints, a, l, h))
  where
    minus : (z : ℤ) → negsuc 0 *ℤ z ≡ neg_ℤ z
    minus (pos n) = omega (arith, ints)
    minus (negsuc n) = omega (arith, ints)

-- ---- within the bounds

pub shifted_norm : (s : ℤ) (v : ℕ) (k : ℤ) → unsigned_abs s ≡ 1 → norm (shifted s v k) ≤ 1 + unsigned_abs k
shifted_norm s v k e =
    let a = norm_plus (scaled s (variable_of v)) (constant_of k) in
    let b = norm_scaled s (variable_of v) in
    let c = norm_with k [] [] in
    omega (arith, a, b, c, e)

pub shifted_spread : (s : ℤ) (v : ℕ) (k : ℤ) → spread (shifted s v k) ≤ 2
shifted_spread s v k =
    let a = spread_plus (scaled s (variable_of v)) (constant_of k) in
    let b = spread_scaled s (variable_of v) in
    let c = spread_with k [] [] in
    omega (arith, a, b, c)

pub shifted_degree : (s : ℤ) (v : ℕ) (k : ℤ) → degree (shifted s v k) ≤ 1
shifted_degree s v k =
    let a = degree_plus (scaled s (variable_of v)) (constant_of k) in
    let b = degree_scaled s (variable_of v) in
    let c = degree_with k [] [] in
    omega (arith, a, b, c)

pub shifted_fits : (s : ℤ) (v : ℕ) (k : ℤ) → unsigned_abs s ≡ 1 → unsigned_abs k + 2 < 2 ^ 126 → FitsSplit (shifted s v k)
shifted_fits s v k e l =
    let n = shifted_norm s v k e in
    let m = shifted_spread s v k in
    let d = shifted_degree s v k in
    record {
      linear = d;
      own = within_limits (own_bounds (shifted s v k)) (omega (arith, n, l)) (omega (arith, m)) (omega (arith, d));
      opposite = within_limits (below_bounds (shifted s v k)) (omega (arith, n, l)) (omega (arith, m)) (omega (arith, d));
    }

-- ---- both sides

-- a value that isn't whole has a denominator from 2 on, so its floor is far from the limit
pub floor_half : (x : ℤ × ℤ) (q : ℤ) → IsFraction x → IsFloor x.0 x.1 q → x.1 ≢ pos 1 → unsigned_abs q + 4 < 2 ^ 126
floor_half x q f l n = by_size x.0 x.1 q f.positive n f.small_num l.below l.above
  where
    by_size : (a b q : ℤ) → pos 0 <ℤ b → b ≢ pos 1 → unsigned_abs a < 2 ^ 126 → (b *ℤ q) ≤ℤ a → a <ℤ (b *ℤ q +ℤ b) → unsigned_abs q + 4 < 2 ^ 126
    by_size a (pos zero) q p n s l h = absurd (omega (arith, ints, p))
    by_size a (pos (suc zero)) q p n s l h = absurd (n refl)
    by_size a (pos (suc (suc b))) (pos q) p n s l h = grind (arith, ints)
    by_size a (pos (suc (suc b))) (negsuc q) p n s l h = grind (arith, ints)
    by_size a (negsuc b) q p n s l h = absurd (omega (arith, ints, p))

pub splits_rising : (v : ℕ) (x : ℤ × ℤ) (q : ℤ) → IsFraction x → IsFloor x.0 x.1 q → x.1 ≢ pos 1 → IsSplitAt v x (shifted (pos 1) v (neg_ℤ q -ℤ pos 1))
splits_rising v x q f l n = record {
  between = λ w p e.
      let b = between (w ((v, 1) ∷ [])) (w []) x.0 x.1 q p f.positive e (above_floor x q f l n) l.above in
      let r = rising (w ((v, 1) ∷ [])) (w []) q b.0 b.1 in
      let s = shifted_value w (pos 1) v (neg_ℤ q -ℤ pos 1) in
      (subst (λ z. neg_ℤ (w []) <ℤ z) (sym s) r.0, subst (λ z. z <ℤ pos 0) (sym s) r.1);
  fits = (let h = floor_half x q f l n in shifted_fits (pos 1) v (neg_ℤ q -ℤ pos 1) refl (omega (arith, ints, h)));
}

pub splits_falling : (v : ℕ) (x : ℤ × ℤ) (q : ℤ) → IsFraction x → IsFloor x.0 x.1 q → x.1 ≢ pos 1 → IsSplitAt v x (shifted (negsuc 0) v q)
splits_falling v x q f l n = record {
  between = λ w p e.
      let b = between (w ((v, 1) ∷ [])) (w []) x.0 x.1 q p f.positive e (above_floor x q f l n) l.above in
      let r = falling (w ((v, 1) ∷ [])) (w []) q b.0 b.1 in
      let s = shifted_value w (negsuc 0) v q in
      (subst (λ z. neg_ℤ (w []) <ℤ z) (sym s) r.0, subst (λ z. z <ℤ pos 0) (sym s) r.1);
  fits = (let h = floor_half x q f l n in shifted_fits (negsuc 0) v q refl (omega (arith, ints, h)));
}
