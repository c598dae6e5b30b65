-- The greatest common divisor.
use Rattle.std.specs.Prelude.{ℕ, zero, suc, ◌%◌, max, Bool, ◌==◌, ◌&&◌, if◌then◌else◌}

-- whether d divides both
abbrev pub divides_both : ℕ → ℕ → ℕ → Bool
divides_both d a b = (a % d == 0) && (b % d == 0)

-- the greatest number from 1 to `most` that divides both, or 0 where `most` is 0
unfoldable pub greatest_common : ℕ → ℕ → ℕ → ℕ
greatest_common zero a b = 0
greatest_common (suc most) a b = if divides_both (suc most) a b then suc most else greatest_common most a b

-- the greatest common divisor, 0 for two zeros: no common divisor is above the greater of the two
unfoldable pub gcd_of : ℕ → ℕ → ℕ
gcd_of a b = greatest_common (max a b) a b
