use Rattle.std.proofs.Common.{◌≡◌, ℕ, ◌<◌, get_or, length}
use Rattle.clause_form.specs.Key.{hex_digit_at}
use Rattle.clause_form.proofs.keys.first_digits.Given as goal

abbrev pub invariant-loop-place : goal.invariant-loop-place
invariant-loop-place l = record { size : length l.name ≡ 16; digits : (k : ℕ) → k < l.place → get_or l.name k 0 ≡ hex_digit_at l.bytes k }
