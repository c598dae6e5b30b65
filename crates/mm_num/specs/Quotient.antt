-- Quotients that round down or up.
use Rattle.std.specs.Prelude.{ℕ, ◌/◌, ℤ, pos, negsuc, ◌*ℤ◌, ◌+ℤ◌, ◌-ℤ◌, ◌≤ℤ◌, ◌<ℤ◌, unsigned_abs, neg_ℤ}

-- the greatest whole number that is at most a / d, for d from 1
abbrev pub floor_by : ℤ → ℕ → ℤ
floor_by (pos n) d = pos (n / d)
floor_by (negsuc n) d = negsuc (n / d)

abbrev pub floor_quotient : ℤ → ℤ → ℤ
floor_quotient a b = floor_by a (unsigned_abs b)

-- the least whole number that is at least a / b
abbrev pub ceil_quotient : ℤ → ℤ → ℤ
ceil_quotient a b = neg_ℤ (floor_quotient (neg_ℤ a) b)

-- b * q is at most a, and b * (q + 1) is above it
pub record IsFloor (a b q : ℤ) : Type 0 where
  pub below : (b *ℤ q) ≤ℤ a
  pub above : a <ℤ (b *ℤ q +ℤ b)

-- b * q is at least a, and b * (q - 1) is below it
pub record IsCeiling (a b q : ℤ) : Type 0 where
  pub above : a ≤ℤ (b *ℤ q)
  pub below : (b *ℤ q -ℤ b) <ℤ a
