-- Bounds on values at a point.
use Rattle.std.specs.Prelude.{ℕ, zero, suc, ◌+◌, ◌*◌, ◌^◌, ◌<◌, ◌≤◌, ℤ, ◌*ℤ◌, unsigned_abs, List, [], ◌∷◌}
use Rattle.std.proofs.Common.{ap, arith}
use Rattle.std.proofs.Math.Nat.{mul-le-mul, mul-le-mul_left, mul-le-mul_right, pow-zero, pow-succ', pow-le-pow_left, pow-le-pow_right, one-le-pow}
use Rattle.std.proofs.lemmas.Nat.{pow-add}
use Rattle.std.proofs.lemmas.Int.{unsigned_abs-mul}
use Rattle.mm_num.specs.Power.{power}
use Rattle.mm_poly.specs.declared.term.Term.{Term}
use Rattle.mm_poly.specs.Mono.{mono_value, mono_degree}
use Rattle.mm_poly.specs.Poly.{term_value}
use Rattle.mm_poly.specs.Point.{point_of, greatest_magnitude}

-- no place has a greater magnitude than the greatest
pub place_small : (point : List ℤ) (v : ℕ) → unsigned_abs (point_of point v) ≤ greatest_magnitude point
place_small [] v = omega arith
place_small (z ∷ zs) zero = omega arith
place_small (z ∷ zs) (suc v) = omega (arith, place_small zs v)

pub power_small : (z : ℤ) (m n : ℕ) → unsigned_abs z ≤ m → unsigned_abs (power z n) ≤ m ^ n
power_small z m zero h = omega (arith, pow-zero m)
power_small z m (suc n) h =
    omega (arith, unsigned_abs-mul z (power z n), mul-le-mul h (power_small z m n h), pow-succ' m n)

pub mono_small : (point : List ℤ) (m : ℕ) (fs : List (ℕ × ℕ)) → greatest_magnitude point ≤ m
    → unsigned_abs (mono_value (point_of point) fs) ≤ m ^ mono_degree fs
mono_small point m [] h = omega (arith, pow-zero m)
mono_small point m (f ∷ fs) h =
    let base : unsigned_abs (point_of point f.0) ≤ m = omega (arith, place_small point f.0) in
    omega (
      arith,
      unsigned_abs-mul (power (point_of point f.0) f.1) (mono_value (point_of point) fs),
      mul-le-mul (power_small (point_of point f.0) m f.1 base) (mono_small point m fs h),
      pow-add m f.1 (mono_degree fs),
    )

power_grows : (m i j : ℕ) → 1 ≤ m → i ≤ j → m ^ i ≤ m ^ j
power_grows m i j h k = let p : 0 < m = omega arith in pow-le-pow_right p k

-- a term of at most this degree
pub term_small : (point : List ℤ) (m d : ℕ) (t : Term) → greatest_magnitude point ≤ m → 1 ≤ m → mono_degree t.mono ≤ d
    → unsigned_abs (term_value (point_of point) t) ≤ unsigned_abs t.coeff * m ^ d
term_small point m d t h k l = omega (
  arith,
  unsigned_abs-mul t.coeff (mono_value (point_of point) t.mono),
  mul-le-mul_left (unsigned_abs t.coeff) (mono_small point m t.mono h),
  mul-le-mul_left (unsigned_abs t.coeff) (power_grows m (mono_degree t.mono) d k l),
)

pub part_of_power : (c m i j : ℕ) → 1 ≤ m → i ≤ j → c * m ^ i ≤ c * m ^ j
part_of_power c m i j h k = mul-le-mul_left c (power_grows m i j h k)

-- a factor taken from a power
pub raised : (p b : ℤ) (m k l : ℕ) → unsigned_abs b ≤ m → unsigned_abs p * m ^ suc k < l → unsigned_abs (p *ℤ b) * m ^ k < l
raised p b m k l h s = omega (
  arith,
  ap (λ n. n * m ^ k) (unsigned_abs-mul p b),
  mul-le-mul_right (m ^ k) (mul-le-mul_left (unsigned_abs p) h),
  ap (λ n. unsigned_abs p * n) (pow-succ' m k),
)

pub below_power : (a m k l : ℕ) → 1 ≤ m → a * m ^ k < l → a < l
below_power a m k l h s =
    let p : 0 < m = omega arith in
    let one : 1 ≤ m ^ k = one-le-pow k m p in
    let more : a * 1 ≤ a * m ^ k = mul-le-mul_left a one in
    omega arith

-- a power taken from a higher one
pub powers : (p z : ℤ) (m e k l : ℕ) → unsigned_abs z ≤ m → unsigned_abs p * m ^ (e + k) < l → unsigned_abs (p *ℤ power z e) * m ^ k < l
powers p z m e k l h s = omega (
  arith,
  ap (λ n. n * m ^ k) (unsigned_abs-mul p (power z e)),
  mul-le-mul_right (m ^ k) (mul-le-mul_left (unsigned_abs p) (power_small z m e h)),
  ap (λ n. unsigned_abs p * n) (pow-add m e k),
)

pub smaller_base : (a b m e l : ℕ) → b ≤ m → a * m ^ e < l → a * b ^ e < l
smaller_base a b m e l h s = omega (arith, mul-le-mul_left a (pow-le-pow_left h e))
