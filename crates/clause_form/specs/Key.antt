-- Names of keys.
use Rattle.std.specs.Prelude.{ℕ, ◌+◌, ◌/◌, ◌%◌, ◌==◌, nat_lt, List, slice_index, if◌then◌else◌}

-- a digit below 16, its letters in lower case
abbrev pub hex_digit : ℕ → ℕ
hex_digit n = if nat_lt n 10 then 48 + n else 87 + n

-- the digit at a place of bytes written in hexadecimal: two digits a byte, the upper one first
abbrev pub hex_digit_at : List ℕ → ℕ → ℕ
hex_digit_at bytes k = if k % 2 == 0 then hex_digit (slice_index bytes (k / 2) / 16) else hex_digit (slice_index bytes (k / 2) % 16)
