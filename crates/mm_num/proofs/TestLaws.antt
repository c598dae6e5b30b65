-- Tests of numbers, and what they say.
use Rattle.std.specs.Prelude.{◌≡◌, ◌≢◌, ℕ, zero, suc, ◌+◌, ◌<◌, nat_lt, ◌==◌, ℤ, pos, negsuc, ◌<ℤ◌, ◌≤ℤ◌, true, false, refl}
use Rattle.std.proofs.Common.{◌⊎◌, inl, inr, arith}
use Rattle.std.proofs.lemmas.Int.{ints}
use Rattle.std.specs.Ordering.{int_eq}

pub is_below : (n k : ℕ) → nat_lt n k ≡ true → n < k
is_below n k h = grind arith

pub below_test : (n k : ℕ) → n < k → nat_lt n k ≡ true
below_test n k h = grind arith

pub past_test : (n k : ℕ) → nat_lt (n + k) n ≡ false
past_test n k = grind arith

pub is_number : (n k : ℕ) → (n == k) ≡ true → n ≡ k
is_number n k h = grind arith

pub number_test : (n k : ℕ) → n ≡ k → (n == k) ≡ true
number_test n k h = grind arith

pub is_int : (a b : ℤ) → int_eq a b ≡ true → a ≡ b
is_int a b h = grind (arith, ints)

-- a number is below 0 or not
pub sign_cases : (z : ℤ) → (z <ℤ pos 0) ⊎ (pos 0 ≤ℤ z)
sign_cases (pos n) = inr (omega (arith, ints))
sign_cases (negsuc n) = inl (omega (arith, ints))

-- and where it is neither below 0 nor 0, it is above
pub positive : (z : ℤ) → pos 0 ≤ℤ z → z ≢ pos 0 → pos 0 <ℤ z
positive (pos zero) h d = absurd (d refl)
positive (pos (suc n)) h d = omega (arith, ints)
positive (negsuc n) h d = absurd (omega (arith, ints))
