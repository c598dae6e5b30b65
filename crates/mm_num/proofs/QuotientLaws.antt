-- The floor of a quotient is what it should be.
use Rattle.std.specs.Prelude.{◌≡◌, ℕ, zero, suc, ◌+◌, ◌*◌, ◌/◌, ◌<◌, ◌≤◌, ℤ, pos, negsuc, ◌+ℤ◌, ◌-ℤ◌, ◌*ℤ◌, ◌≤ℤ◌, ◌<ℤ◌, neg_ℤ, unsigned_abs, refl}
use Rattle.std.proofs.Common.{ap, ◌∙◌, subst, arith}
use Rattle.mm_num.proofs.Ring.{dist, mul_neg}
use Rattle.std.proofs.Math.IntN.{*ℤ_comm}
use Rattle.std.proofs.lemmas.Int.{ints}
use Rattle.mm_num.specs.Quotient.{floor_by, floor_quotient, IsFloor, IsCeiling}

-- d * (n / d) ≤ n < d * (n / d) + d
pub quotient_below : (n d : ℕ) → 0 < d → d * (n / d) ≤ n
quotient_below n d h = omega arith

pub quotient_above : (n d : ℕ) → 0 < d → n < d * (n / d) + d
quotient_above n d h = omega arith

pub floor_below : (a : ℤ) (d : ℕ) → 0 < d → (pos d *ℤ floor_by a d) ≤ℤ a
floor_below (pos n) d h = omega (arith, ints, quotient_below n d h)
floor_below (negsuc n) d h = omega (arith, ints, quotient_above n d h)

pub floor_above : (a : ℤ) (d : ℕ) → 0 < d → a <ℤ (pos d *ℤ floor_by a d +ℤ pos d)
floor_above (pos n) d h = omega (arith, ints, quotient_above n d h)
floor_above (negsuc n) d h = omega (arith, ints, quotient_below n d h)

pub floor_small : (a : ℤ) (d m : ℕ) → 0 < d → unsigned_abs a < m → unsigned_abs (floor_by a d) < m
floor_small (pos n) d m h s = grind arith
floor_small (negsuc n) d m h s = grind arith

-- a divisor of at least 1 is a natural number
zero_of : (d : ℕ) → pos 0 *ℤ pos d ≡ pos 0
zero_of d = omega (arith, ints)

one_of : (d : ℕ) → pos 1 *ℤ pos d ≡ pos d
one_of d = omega (arith, ints)

below_zero : (d n : ℕ) → 0 < d → (pos d *ℤ negsuc n) <ℤ pos 0
below_zero d n h = grind (arith, ints)

pub positive_is : (b : ℤ) → pos 1 ≤ℤ b → (pos (unsigned_abs b) ≡ b) × (0 < unsigned_abs b)
positive_is (pos n) h = (refl, omega (arith, ints))
positive_is (negsuc n) h = absurd (omega (arith, ints))

pub floor_is : (a b q : ℤ) → pos 1 ≤ℤ b → q ≡ floor_quotient a b → IsFloor a b q
floor_is a b q h e =
    let p = positive_is b h in
    let low : (pos (unsigned_abs b) *ℤ floor_by a (unsigned_abs b)) ≤ℤ a = floor_below a (unsigned_abs b) p.1 in
    let high : a <ℤ (pos (unsigned_abs b) *ℤ floor_by a (unsigned_abs b) +ℤ pos (unsigned_abs b)) = floor_above a (unsigned_abs b) p.1 in
    record {
      below = rw (e) (subst (λ (d : ℤ). (d *ℤ floor_by a (unsigned_abs b)) ≤ℤ a) p.0 low);
      above = rw (e) (subst (λ (d : ℤ). a <ℤ (d *ℤ floor_by a (unsigned_abs b) +ℤ d)) p.0 high);
    }

pub ceiling_is : (a b q : ℤ) → pos 1 ≤ℤ b → q ≡ floor_quotient (neg_ℤ a) b → IsCeiling a b (neg_ℤ q)
ceiling_is a b q h e =
    let f = floor_is (neg_ℤ a) b q h e in
    let m : b *ℤ neg_ℤ q ≡ neg_ℤ (b *ℤ q) = mul_neg b q in
    record { above = rw (m) (omega (arith, ints, f.below)); below = rw (m) (omega (arith, ints, f.above)) }

-- the quotient is the one number between its bounds
less_factor : (d : ℕ) (a b : ℤ) → 0 < d → (pos d *ℤ a) <ℤ (pos d *ℤ b) → a <ℤ b
less_factor d a b h l = by_order (b -ℤ a) refl
  where
    difference : (c : ℤ) → c ≡ b -ℤ a → pos d *ℤ b ≡ pos d *ℤ a +ℤ pos d *ℤ c
    difference c e = let s : b ≡ a +ℤ c = omega (arith, ints) in ap (λ z. pos d *ℤ z) s ∙ dist (pos d) a c

    by_order : (c : ℤ) → c ≡ b -ℤ a → a <ℤ b
    by_order (pos zero) e = let p = difference (pos zero) e in let z : pos d *ℤ pos 0 ≡ pos 0 = *ℤ_comm (pos d) (pos 0) ∙ zero_of d in absurd (omega (arith, ints))
    by_order (pos (suc n)) e = omega (arith, ints)
    by_order (negsuc n) e = let p = difference (negsuc n) e in let z = below_zero d n h in absurd (omega (arith, ints))

pub floor_unique : (a z : ℤ) (d : ℕ) → 0 < d → (pos d *ℤ z) ≤ℤ a → a <ℤ (pos d *ℤ z +ℤ pos d) → z ≡ floor_by a d
floor_unique a z d h low high =
    let f = floor_by a d in
    let below = floor_below a d h in
    let above = floor_above a d h in
    let next : (y : ℤ) → pos d *ℤ (y +ℤ pos 1) ≡ pos d *ℤ y +ℤ pos d = λ y. dist (pos d) y (pos 1) ∙ ap (λ k. pos d *ℤ y +ℤ k) (*ℤ_comm (pos d) (pos 1) ∙ one_of d) in
    let p : z <ℤ (f +ℤ pos 1) = less_factor d z (f +ℤ pos 1) h (let n = next f in omega (arith, ints)) in
    let q : f <ℤ (z +ℤ pos 1) = less_factor d f (z +ℤ pos 1) h (let n = next z in omega (arith, ints)) in
    omega (arith, ints)

-- divided by 1, a number stays
pub by_one : (a : ℤ) → floor_by a 1 ≡ a
by_one (pos n) = let e : n / 1 ≡ n = grind arith in ap pos e
by_one (negsuc n) = let e : n / 1 ≡ n = grind arith in ap negsuc e
