-- A fraction in lowest terms is made by dividing by the greatest common divisor, and its value determines it.
use Rattle.std.specs.Prelude.{◌≡◌, ℕ, zero, suc, ◌+◌, ◌-◌, ◌*◌, ◌/◌, ◌%◌, ◌<◌, ◌≤◌, ℤ, pos, negsuc, ◌*ℤ◌, ◌≤ℤ◌, ◌<ℤ◌, unsigned_abs, refl}
use Rattle.std.proofs.Common.{to_z, of_z, ap, sym, ◌∙◌, subst, arith, mul-one, one-mul}
use Rattle.std.proofs.lemmas.Int.{ints, unsigned_abs-mul}
use Rattle.std.specs.Int.{IsGcd, ◌∣◌, w128}
use Rattle.std.proofs.lemmas.Nat.Gcd.{mod-eq-zero_of_dvd, dvd_antisymm, IsGcd-from_zero, IsGcd-from_mod}
use Rattle.std.proofs.Math.Nat.{div-mul_cancel, dvd-mul_left, dvd-mul_right, mul-dvd-mul_left, dvd_of_mul-dvd-mul_left, one-dvd, pos_of_dvd_of_pos, dvd-sub, dvd-mul_left_of_dvd}
use Rattle.mm_num.specs.Small.{IsSmall}
use Rattle.mm_num.specs.Divisor.{gcd_of}
use Rattle.mm_num.specs.Quotient.{floor_by, floor_quotient}
use Rattle.mm_num.specs.Frac.{IsFraction, HasValue}
use Rattle.mm_num.proofs.Ring.{assoc, swap}
use Rattle.mm_num.proofs.QuotientLaws.{positive_is}
use Rattle.mm_num.proofs.DivisorLaws.{gcd_is}

-- a small number is what its bits stand for
pub wide : (z : ℤ) → IsSmall z → to_z w128 (of_z w128 z) ≡ z
wide z h = omega (arith, ints)

-- a multiple of d just above n is the next after d * (n / d)
next_multiple : (n d q : ℕ) → 0 < d → d * q ≡ suc n → suc (n / d) ≡ q
next_multiple n d q h e =
    let low : d * (n / d) ≤ n = omega arith in
    let high : n < d * (n / d) + d = omega arith in
    grind arith

-- a quotient by a divisor is exact
pub floor_exact : (a : ℤ) (d : ℕ) → 0 < d → d ∣ unsigned_abs a → pos d *ℤ floor_by a d ≡ a
floor_exact (pos n) d h k = let e = mod-eq-zero_of_dvd d k in omega (arith, ints, e)
floor_exact (negsuc n) d h k =
    let e : suc n / d * d ≡ suc n = div-mul_cancel d k in
    let q : suc (n / d) ≡ suc n / d = next_multiple n d (suc n / d) h (omega arith) in
    omega (arith, ints, ap (λ m. d * m) q)

pub exact_is : (a b q : ℤ) → pos 1 ≤ℤ b → unsigned_abs b ∣ unsigned_abs a → q ≡ floor_quotient a b → b *ℤ q ≡ a
exact_is a b q h k e =
    let p = positive_is b h in
    ap (λ n. b *ℤ n) e ∙ ap (λ n. n *ℤ floor_by a (unsigned_abs b)) (sym p.0) ∙ floor_exact a (unsigned_abs b) p.1 k

-- what is left of two numbers after their greatest common divisor has no common divisor
pub divided_lowest : (a b g : ℕ) → 0 < g → IsGcd (g * a) (g * b) g → gcd_of a b ≡ 1
divided_lowest a b g h k =
    let only : (d : ℕ) → d ∣ a → d ∣ b → d ∣ 1 = λ d p q.
    dvd_of_mul-dvd-mul_left {k = g} d h
    (subst (λ (m : ℕ). g * d ∣ m) (sym (mul-one g)) (k.2 (g * d) (mul-dvd-mul_left d g p) (mul-dvd-mul_left d g q))) in
    gcd_is a b 1 (one-dvd a, one-dvd b, only)

-- a remainder's multiple by c
remainder_of : (a b c : ℕ) → 0 < b → a * c - (a / b) * (b * c) ≡ a % b * c
remainder_of a b c h =
    let e : b * (a / b) + a % b ≡ a = omega arith in
    let f : (b * (a / b) + a % b) * c ≡ a * c = ap (λ n. n * c) e in
    omega (arith, f)

-- a common divisor of the multiples by c divides the multiple of the greatest common divisor
scaled : (n a b c d : ℕ) → b ≤ n → d ∣ a * c → d ∣ b * c → (g : ℕ) × IsGcd a b g × (d ∣ g * c)
scaled n a zero c d h p q = (a, IsGcd-from_zero a zero refl, p)
scaled zero a (suc b) c d h p q = absurd (omega arith)
scaled (suc n) a (suc b) c d h p q =
    let less : a % suc b < suc b = omega arith in
    let split : a * c - (a / suc b) * (suc b * c) ≡ a % suc b * c = remainder_of a (suc b) c (omega arith) in
    let rest : d ∣ a % suc b * c = subst (λ (m : ℕ). d ∣ m) split (dvd-sub d p (dvd-mul_left_of_dvd d q (a / suc b))) in
    let found : (g : ℕ) × IsGcd (suc b) (a % suc b) g × (d ∣ g * c) = scaled n (suc b) (a % suc b) c d (omega arith) q rest in
    (found.0, IsGcd-from_mod a (suc b) found.0 found.1, found.2)

-- so a divisor of a multiple that has nothing in common with one factor divides the other
pub divides_other : (a b c : ℕ) → gcd_of a b ≡ 1 → b ∣ a * c → b ∣ c
divides_other a b c e p =
    let found : (g : ℕ) × IsGcd a b g × (b ∣ g * c) = scaled b a b c b (omega arith) p (dvd-mul_right b c) in
    let one : found.0 ≡ 1 = sym (gcd_is a b found.0 found.1) ∙ e in
    subst (λ (m : ℕ). b ∣ m) (ap (λ g. g * c) one ∙ one-mul c) found.2

-- equal multiples of a number that isn't 0 are of equal numbers
equal_multiples : (a b d : ℕ) → 0 < d → a * d ≡ b * d → a ≡ b
equal_multiples a b d h e = grind arith

-- numerators of equal values over one denominator are equal
same_numerator : (a b : ℤ) (d : ℕ) → 0 < d → a *ℤ pos d ≡ b *ℤ pos d → a ≡ b
same_numerator (pos a) (pos b) d h e = ap pos (equal_multiples a b d h (omega (arith, ints, e)))
same_numerator (pos a) (negsuc b) d h e = absurd (omega (arith, ints, e, equal_multiples 0 (suc b) d h))
same_numerator (negsuc a) (pos b) d h e = absurd (omega (arith, ints, e))
same_numerator (negsuc a) (negsuc b) d h e = omega (arith, ints, e, equal_multiples (suc a) (suc b) d h (omega (arith, ints, e)))

-- each denominator divides the other
denominator_divides : (f g : ℤ × ℤ) → IsFraction f → HasValue f g.0 g.1 → unsigned_abs f.1 ∣ unsigned_abs g.1
denominator_divides f g p e =
    let crossed : unsigned_abs f.0 * unsigned_abs g.1 ≡ unsigned_abs g.0 * unsigned_abs f.1 =
    sym (unsigned_abs-mul f.0 g.1) ∙ ap unsigned_abs e ∙ unsigned_abs-mul g.0 f.1 in
    divides_other (unsigned_abs f.0) (unsigned_abs f.1) (unsigned_abs g.1) p.lowest
    (subst (λ (m : ℕ). unsigned_abs f.1 ∣ m) (sym crossed) (dvd-mul_left (unsigned_abs f.1) (unsigned_abs g.0)))

positive_abs : (a : ℤ) → pos 0 <ℤ a → pos (unsigned_abs a) ≡ a
positive_abs a h = omega (arith, ints)

-- a fraction is determined by its value
pub same_fraction : (f g : ℤ × ℤ) → IsFraction f → IsFraction g → HasValue f g.0 g.1 → f ≡ g
same_fraction f g p q e =
    let magnitude : unsigned_abs f.1 ≡ unsigned_abs g.1 =
    dvd_antisymm (denominator_divides f g p e) (denominator_divides g f q (sym e)) in
    let below : f.1 ≡ g.1 = sym (positive_abs f.1 p.positive) ∙ ap pos magnitude ∙ positive_abs g.1 q.positive in
    let d : g.1 ≡ pos (unsigned_abs g.1) = sym (positive_abs g.1 q.positive) in
    let positive : pos 0 <ℤ g.1 = q.positive in
    let above : f.0 ≡ g.0 =
    same_numerator f.0 g.0 (unsigned_abs g.1) (omega (arith, ints))
    (ap (λ n. f.0 *ℤ n) (sym d) ∙ e ∙ ap (λ n. g.0 *ℤ n) (below ∙ d)) in
    ap (λ a. (a, f.1)) above ∙ ap (λ b. (g.0, b)) below

-- the greatest common divisor with a positive denominator
pub divisor_positive : (a b g : ℤ) → IsGcd (unsigned_abs a) (unsigned_abs b) (unsigned_abs g) → g ≡ pos (gcd_of (unsigned_abs a) (unsigned_abs b)) → pos 1 ≤ℤ b → pos 1 ≤ℤ g
divisor_positive a (pos zero) g h e k = absurd (omega (arith, ints))
divisor_positive a (pos (suc b)) g h e k =
    let p : 0 < gcd_of (unsigned_abs a) (suc b) = pos_of_dvd_of_pos (subst (λ (m : ℕ). m ∣ suc b) (ap unsigned_abs e) h.1) (omega arith) in
    omega (arith, ints, e)
divisor_positive a (negsuc b) g h e k = absurd (omega (arith, ints))

-- a quotient of a positive number is positive
positive_part : (g d : ℤ) → pos 1 ≤ℤ g → pos 1 ≤ℤ (g *ℤ d) → pos 0 <ℤ d
positive_part (pos g) (pos zero) h k = absurd (omega (arith, ints))
positive_part (pos g) (pos (suc d)) h k = omega (arith, ints)
positive_part (pos g) (negsuc d) h k = absurd (omega (arith, ints))
positive_part (negsuc g) d h k = absurd (omega (arith, ints))

-- a numerator and a positive denominator, both divided by their greatest common divisor
pub reduced : (a b g n d : ℤ) → IsSmall n → IsSmall d → pos 1 ≤ℤ b → pos 1 ≤ℤ g → IsGcd (unsigned_abs a) (unsigned_abs b) (unsigned_abs g)
    → g *ℤ n ≡ a → g *ℤ d ≡ b → IsFraction (n, d) × HasValue (n, d) a b
reduced a b g n d sn sd hb hg k ea eb =
    let parts : IsGcd (unsigned_abs g * unsigned_abs n) (unsigned_abs g * unsigned_abs d) (unsigned_abs g) =
    subst (λ (m : ℕ). IsGcd (unsigned_abs g * unsigned_abs n) m (unsigned_abs g)) (sym (ap unsigned_abs eb) ∙ unsigned_abs-mul g d)
    (subst (λ (m : ℕ). IsGcd m (unsigned_abs b) (unsigned_abs g)) (sym (ap unsigned_abs ea) ∙ unsigned_abs-mul g n) k) in (
      record {
        positive = positive_part g d hg (subst (λ (z : ℤ). pos 1 ≤ℤ z) (sym eb) hb);
        lowest = divided_lowest (unsigned_abs n) (unsigned_abs d) (unsigned_abs g) (omega (arith, ints, positive_is g hg)) parts;
        small_num = sn;
        small_den = sd;
      },
      ap (λ z. n *ℤ z) (sym eb) ∙ swap n g d ∙ sym (assoc g n d) ∙ ap (λ z. z *ℤ d) ea,
    )
