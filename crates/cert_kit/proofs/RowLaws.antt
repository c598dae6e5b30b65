-- What rows of one value do.
use Rattle.std.specs.Prelude.{◌≡◌, ℤ, pos, ◌+ℤ◌, ◌*ℤ◌, true}
use Rattle.std.proofs.Common.{arith}
use Rattle.std.proofs.lemmas.Int.{ints}
use Rattle.mm_num.proofs.Ring.{product_nonneg}
use Rattle.cert_kit.specs.declared.row.Op.{Op}
use Rattle.cert_kit.specs.declared.row.Op.TheVariants.{Ge, Eq}
use Rattle.cert_kit.specs.Row.{Compares, is_false_constant}
use Rattle.cert_kit.specs.Meaning.{product_op, sum_op}

-- the sum of two values compares as its operation says
pub sum_compares : (o p : Op) (a b : ℤ) → Compares o a → Compares p b → Compares (sum_op o p) (a +ℤ b)
sum_compares Ge Ge a b h k = omega (arith, ints)
sum_compares Ge Eq a b h k = omega (arith, ints)
sum_compares Eq Ge a b h k = omega (arith, ints)
sum_compares Eq Eq a b h k = omega (arith, ints)

zero_times : (a b : ℤ) → a ≡ pos 0 → a *ℤ b ≡ pos 0
zero_times a b h = rw (h) (omega (arith, ints))

times_zero : (a b : ℤ) → b ≡ pos 0 → a *ℤ b ≡ pos 0
times_zero a b h = rw (h) (omega (arith, ints))

-- the product does too
pub product_compares : (o p : Op) (a b : ℤ) → Compares o a → Compares p b → Compares (product_op o p) (a *ℤ b)
product_compares Ge Ge a b h k = product_nonneg a b h k
product_compares Ge Eq a b h k = times_zero a b k
product_compares Eq Ge a b h k = zero_times a b h
product_compares Eq Eq a b h k = zero_times a b h

-- a multiple of 0 is 0
pub multiple_is_0 : (a b : ℤ) → b ≡ pos 0 → a *ℤ b ≡ pos 0
multiple_is_0 a b h = times_zero a b h

-- a false constant doesn't compare
pub false_constant : (o : Op) (k : ℤ) → is_false_constant o k ≡ true → Compares o k → ⊥
false_constant Ge k h c = grind (arith, ints)
false_constant Eq k h c = grind (arith, ints)
