-- Powers of integers.
use Rattle.std.specs.Prelude.{ℕ, zero, suc, ℤ, pos, ◌*ℤ◌}

abbrev pub power : ℤ → ℕ → ℤ
power z zero = pos 1
power z (suc n) = z *ℤ power z n
