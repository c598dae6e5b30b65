-- The greatest number that divides both is divided by each that does.
use Rattle.std.specs.Prelude.{◌≡◌, ℕ, zero, suc, ◌%◌, ◌<◌, ◌≤◌, max, Bool, true, false, cond, refl}
use Rattle.std.proofs.Common.{ap, sym, ◌∙◌, inl, inr, arith}
use Rattle.std.proofs.Math.Nat.{eq-zero_of_zero-dvd, eq-or-lt_of_le}
use Rattle.std.specs.Int.{IsGcd, ◌∣◌}
use Rattle.std.proofs.lemmas.Nat.Gcd.{IsGcd-from_zero, IsGcd-from_mod, le_from_IsGcd, dvd_of_mod-eq-zero, mod-eq-zero_of_dvd, le_of_dvd, dvd-zero}
use Rattle.mm_num.proofs.BoolLaws.{never}
use Rattle.mm_num.specs.Divisor.{divides_both, greatest_common, gcd_of}

-- Euclid's algorithm shows that there is one
pub has_gcd : (n a b : ℕ) → b ≤ n → (g : ℕ) × IsGcd a b g
has_gcd n a zero h = (a, IsGcd-from_zero a zero refl)
has_gcd zero a (suc b) h = absurd (omega arith)
has_gcd (suc n) a (suc b) h =
    let less : a % suc b < suc b = omega arith in
    let found : (g : ℕ) × IsGcd (suc b) (a % suc b) g = has_gcd n (suc b) (a % suc b) (omega arith) in
    (found.0, IsGcd-from_mod a (suc b) found.0 found.1)

-- the test says that both remainders are 0
pub divides_both_is : (d a b : ℕ) → divides_both d a b ≡ true → (a % d ≡ 0) × (b % d ≡ 0)
divides_both_is d a b h = grind arith

pub divides_both_when : (d a b : ℕ) → a % d ≡ 0 → b % d ≡ 0 → divides_both d a b ≡ true
divides_both_when d a b h k = grind arith

-- one step of the search, by the test
chosen : (P : ℕ → Type 0) (t : Bool) (x y : ℕ) → (t ≡ true → P x) → (t ≡ false → P y) → P (cond t x y)
chosen P true x y here there = here refl
chosen P false x y here there = there refl

-- what is found divides both
pub found_divides : (m a b : ℕ) → 0 < greatest_common m a b → (greatest_common m a b ∣ a) × (greatest_common m a b ∣ b)
unfolding greatest_common
found_divides zero a b h = absurd (omega arith)
found_divides (suc m) a b h =
    let P : ℕ → Type 0 = λ g. 0 < g → (g ∣ a) × (g ∣ b) in
    chosen P (divides_both (suc m) a b) (suc m) (greatest_common m a b)
    (λ e _. let p = divides_both_is (suc m) a b e in (dvd_of_mod-eq-zero (suc m) p.0, dvd_of_mod-eq-zero (suc m) p.1))
    (λ e k. found_divides m a b k) h

-- a common divisor that isn't suc m is below it
below : (m a b d : ℕ) → d ≤ suc m → a % d ≡ 0 → b % d ≡ 0 → divides_both (suc m) a b ≡ false → d ≤ m
below m a b d le p q e = elim (eq-or-lt_of_le le) as (λ _. d ≤ m) [
  | inl same ↦ never (sym e ∙ ap (λ k. divides_both k a b) (sym same) ∙ divides_both_when d a b p q)
  | inr less ↦ omega arith
]

-- no common divisor within the bound is above it
pub found_greatest : (m a b d : ℕ) → d ≤ m → a % d ≡ 0 → b % d ≡ 0 → d ≤ greatest_common m a b
unfolding greatest_common
found_greatest zero a b d le p q = omega arith
found_greatest (suc m) a b d le p q =
    chosen (λ g. d ≤ g) (divides_both (suc m) a b) (suc m) (greatest_common m a b) (λ e. le)
    (λ e. found_greatest m a b d (below m a b d le p q e) p q)

-- a divisor of a number that isn't 0 isn't 0
some_divisor : (a b g : ℕ) → IsGcd a b g → 0 < max a b → 0 < g
some_divisor a b zero h k = let p = eq-zero_of_zero-dvd h.0 in let q = eq-zero_of_zero-dvd h.1 in omega arith
some_divisor a b (suc g) h k = omega arith

within : (a b g : ℕ) → IsGcd a b g → 0 < max a b → g ≤ max a b
within zero b g h k = let q : 0 < b = omega arith in let r = le_of_dvd q h.1 in omega arith
within (suc a) b g h k = let q : 0 < suc a = omega arith in let r = le_of_dvd q h.0 in omega arith

-- two zeros
nothing : (a b g : ℕ) → IsGcd a b g → a ≡ 0 → b ≡ 0 → greatest_common (max a b) a b ≡ g
unfolding greatest_common
nothing zero zero g h p q = sym (eq-zero_of_zero-dvd (h.2 0 (dvd-zero 0) (dvd-zero 0)))
nothing (suc a) b g h p q = absurd (omega arith)
nothing zero (suc b) g h p q = absurd (omega arith)

-- what is found from the greater of the two on is the greatest common divisor
pub gcd_is : (a b g : ℕ) → IsGcd a b g → gcd_of a b ≡ g
unfolding gcd_of
gcd_is a b g h = elim (eq-or-lt_of_le {n = 0} {m = max a b} (omega arith)) as (λ _. greatest_common (max a b) a b ≡ g) [
  | inl zeros ↦ nothing a b g h (omega arith) (omega arith)
  | inr above ↦
      let least = found_greatest (max a b) a b g (within a b g h above) (mod-eq-zero_of_dvd g h.0) (mod-eq-zero_of_dvd g h.1) in
      let positive = some_divisor a b g h above in
      let both = found_divides (max a b) a b (omega arith) in
      let most = le_from_IsGcd a b g (greatest_common (max a b) a b) h positive both.0 both.1 in
      omega arith
]

-- so it is divided by each number that divides both
pub gcd_divides : (a b : ℕ) → IsGcd a b (gcd_of a b)
gcd_divides a b = let found : (g : ℕ) × IsGcd a b g = has_gcd b a b (omega arith) in rw (gcd_is a b found.0 found.1) found.1
