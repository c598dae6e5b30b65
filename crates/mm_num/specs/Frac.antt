-- Fractions, each a numerator and a denominator.
use Rattle.std.specs.Prelude.{◌≡◌, ◌≢◌, ℤ, pos, ◌+ℤ◌, ◌*ℤ◌, ◌<ℤ◌, unsigned_abs}
use Rattle.mm_num.specs.Small.{IsSmall}
use Rattle.mm_num.specs.Divisor.{gcd_of}

-- a denominator of at least 1, no common divisor, and both small
pub record IsFraction (f : ℤ × ℤ) : Type 0 where
  pub positive : pos 0 <ℤ f.1
  pub lowest : gcd_of (unsigned_abs f.0) (unsigned_abs f.1) ≡ 1
  pub small_num : IsSmall f.0
  pub small_den : IsSmall f.1

-- the fraction's value is a / b
abbrev pub HasValue : ℤ × ℤ → ℤ → ℤ → Type 0
HasValue f a b = f.0 *ℤ b ≡ a *ℤ f.1

-- the products crosswise: f is to g as the one is to the other
abbrev pub left_cross : ℤ × ℤ → ℤ × ℤ → ℤ
left_cross f g = f.0 *ℤ g.1

abbrev pub right_cross : ℤ × ℤ → ℤ × ℤ → ℤ
right_cross f g = g.0 *ℤ f.1

abbrev pub AreCrossSmall : ℤ × ℤ → ℤ × ℤ → Type 0
AreCrossSmall f g = IsSmall (left_cross f g) × IsSmall (right_cross f g)

-- where a sum, a product and a quotient are answered
abbrev pub CanAdd : ℤ × ℤ → ℤ × ℤ → Type 0
CanAdd f g =
    IsSmall (left_cross f g) × IsSmall (right_cross f g) × IsSmall (left_cross f g +ℤ right_cross f g) × IsSmall (f.1 *ℤ g.1)

abbrev pub CanMultiply : ℤ × ℤ → ℤ × ℤ → Type 0
CanMultiply f g = IsSmall (f.0 *ℤ g.0) × IsSmall (f.1 *ℤ g.1)

abbrev pub CanDivide : ℤ × ℤ → ℤ × ℤ → Type 0
CanDivide f g = (g.0 ≢ pos 0) × IsSmall (left_cross f g) × IsSmall (right_cross f g)
