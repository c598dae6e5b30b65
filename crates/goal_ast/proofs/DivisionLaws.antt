-- Quotients and remainders by a negative divisor are those of the negated numbers.
use Rattle.std.specs.Prelude.{◌≡◌, ℤ, pos, negsuc, Bool, true, false, not, ◌&&◌, ◌≢◌, neg_ℤ, ◌-ℤ◌, ◌*ℤ◌, ◌≤ℤ◌, ◌<ℤ◌, refl}
use Rattle.std.proofs.Common.{arith}
use Rattle.std.proofs.lemmas.Int.{ints}
use Rattle.std.specs.Ordering.{int_eq}
use Rattle.std.proofs.lemmas.Bool.{and_parts}
use Rattle.mm_num.specs.Quotient.{floor_quotient}
use Rattle.mm_num.proofs.Ring.{neg_mul}
use Rattle.mm_num.specs.Small.{IsSmall}
use Rattle.goal_ast.specs.Truth.{quotient, remainder}
use Rattle.goal_ast.specs.Sorted.{is_small}
use Rattle.goal_ast.specs.Divisors.{divisor_fits}

pub quotient_up : (a k : ℤ) → pos 1 ≤ℤ k → quotient a k ≡ floor_quotient a k
quotient_up a (pos n) h = refl
quotient_up a (negsuc n) h = absurd (omega (arith, ints))

pub quotient_down : (a k : ℤ) → k <ℤ pos 0 → quotient a k ≡ floor_quotient (neg_ℤ a) (neg_ℤ k)
quotient_down a (pos n) h = absurd (omega (arith, ints))
quotient_down a (negsuc n) h = refl

negated : (a k q : ℤ) → a -ℤ k *ℤ q ≡ neg_ℤ (neg_ℤ a -ℤ neg_ℤ k *ℤ q)
negated a k q = omega (arith, ints, neg_mul k q)

pub remainder_down : (a k : ℤ) → k <ℤ pos 0 → remainder a k ≡ neg_ℤ (remainder (neg_ℤ a) (neg_ℤ k))
remainder_down a (pos n) h = absurd (omega (arith, ints))
remainder_down a (negsuc n) h = negated a (negsuc n) (quotient a (negsuc n))

pub small_is : (z : ℤ) → is_small z ≡ true → IsSmall z
small_is z h = grind arith

pub small_test : (z : ℤ) → IsSmall z → is_small z ≡ true
small_test z h = grind arith

pub divisor_small : (k : ℤ) → divisor_fits k ≡ true → IsSmall k
unfolding divisor_fits
divisor_small k h = small_is k (and_parts _ _ h).0

other : (k : ℤ) → not (int_eq k (pos 0)) ≡ true → k ≢ pos 0
other k h = λ e. grind (arith, ints)

pub divisor_other : (k : ℤ) → divisor_fits k ≡ true → k ≢ pos 0
unfolding divisor_fits
divisor_other k h = other k (and_parts _ _ h).1
