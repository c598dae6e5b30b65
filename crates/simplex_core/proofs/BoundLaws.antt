-- Bounds on the numbers of a form.
use Rattle.std.specs.Prelude.{ℕ, ◌*◌, ◌^◌, ◌<◌, ℤ, ◌*ℤ◌, unsigned_abs}
use Rattle.std.proofs.Common.{sym, subst, arith}
use Rattle.std.proofs.lemmas.Int.{unsigned_abs-mul}

product_below : (a b : ℕ) → a < 2 ^ 30 → b < 2 ^ 30 → a * b < 2 ^ 60
product_below a b h k = grind arith

pub product_bound : (a b : ℤ) → unsigned_abs a < 2 ^ 30 → unsigned_abs b < 2 ^ 30 → unsigned_abs (a *ℤ b) < 2 ^ 60
product_bound a b h k = subst (λ (n : ℕ). n < 2 ^ 60) (sym (unsigned_abs-mul a b)) (product_below (unsigned_abs a) (unsigned_abs b) h k)
