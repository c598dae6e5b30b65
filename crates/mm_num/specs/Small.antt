-- Numbers whose sums and differences fit 128 bits.
use Rattle.std.specs.Prelude.{◌<◌, ◌^◌, ℤ, unsigned_abs}

-- of magnitude below 2^126
abbrev pub IsSmall : ℤ → Type 0
IsSmall z = unsigned_abs z < 2 ^ 126
