-- The identities of a ring over the integers, stated once. Close an identity over variables by `simp ring`.
use Rattle.std.specs.Prelude.{◌≡◌, ℕ, zero, suc, ◌*◌, ◌<◌, ℤ, pos, negsuc, ◌+ℤ◌, ◌*ℤ◌, ◌≤ℤ◌, ◌<ℤ◌, neg_ℤ, refl}
use Rattle.std.proofs.Common.{ap, sym, ◌∙◌, arith}
use Rattle.std.proofs.lemmas.Int.{ints}
use borrow.Author.Differences.{up, down, sum_is_lem, product_is, neg_is}
use Rattle.std.proofs.Math.IntN.{*ℤ_comm}

pub dist : (a b c : ℤ) → a *ℤ (b +ℤ c) ≡ a *ℤ b +ℤ a *ℤ c
dist a b c = let s = sum_is_lem b c in omega (arith, ints, ap (λ n. up a * n) s, ap (λ n. down a * n) s)

pub dist_r : (a b c : ℤ) → (a +ℤ b) *ℤ c ≡ a *ℤ c +ℤ b *ℤ c
dist_r a b c = rw (*ℤ_comm (a +ℤ b) c, *ℤ_comm a c, *ℤ_comm b c) (dist c a b)

pub assoc : (a b c : ℤ) → (a *ℤ b) *ℤ c ≡ a *ℤ (b *ℤ c)
assoc a b c =
    let s = product_is a b in
    let t = product_is b c in
    omega (
      arith,
      ints,
      ap (λ n. n * up c) s.0,
      ap (λ n. n * up c) s.1,
      ap (λ n. n * down c) s.0,
      ap (λ n. n * down c) s.1,
      ap (λ n. up a * n) t.0,
      ap (λ n. up a * n) t.1,
      ap (λ n. down a * n) t.0,
      ap (λ n. down a * n) t.1,
    )

pub swap : (a b c : ℤ) → a *ℤ (b *ℤ c) ≡ b *ℤ (a *ℤ c)
swap a b c = sym (assoc a b c) ∙ ap (λ x. x *ℤ c) (*ℤ_comm a b) ∙ assoc b a c

pub neg_mul : (a b : ℤ) → neg_ℤ a *ℤ b ≡ neg_ℤ (a *ℤ b)
neg_mul a b =
    let n = neg_is a in
    omega (arith, ints, ap (λ k. k * up b) n.0, ap (λ k. k * down b) n.0, ap (λ k. k * up b) n.1, ap (λ k. k * down b) n.1)

pub mul_neg : (a b : ℤ) → a *ℤ neg_ℤ b ≡ neg_ℤ (a *ℤ b)
mul_neg a b = *ℤ_comm a (neg_ℤ b) ∙ neg_mul b a ∙ ap neg_ℤ (*ℤ_comm b a)

pub ruleset ring = (dist, dist_r, assoc, swap, *ℤ_comm, neg_mul, mul_neg)

pub mul_zero : (a : ℤ) → a *ℤ pos 0 ≡ pos 0
mul_zero (pos n) = omega (arith, ints)
mul_zero (negsuc n) = omega (arith, ints)

pub minus_one : (a : ℤ) → negsuc 0 *ℤ a ≡ neg_ℤ a
minus_one (pos n) = omega (arith, ints)
minus_one (negsuc n) = omega (arith, ints)

-- a square is at least 0
pub square_nonneg : (a : ℤ) → pos 0 ≤ℤ (a *ℤ a)
square_nonneg (pos n) = omega (arith, ints)
square_nonneg (negsuc n) = omega (arith, ints)

-- a product of two numbers of at least 0 is at least 0
pub product_nonneg : (a b : ℤ) → pos 0 ≤ℤ a → pos 0 ≤ℤ b → pos 0 ≤ℤ (a *ℤ b)
product_nonneg a b h k = grind (arith, ints)

-- and a product of two numbers above 0 is above 0
pub product_positive : (a b : ℤ) → pos 0 <ℤ a → pos 0 <ℤ b → pos 0 <ℤ (a *ℤ b)
product_positive (pos (suc a)) (pos (suc b)) h k = omega (arith, ints)
product_positive (pos zero) b h k = absurd (omega (arith, ints))
product_positive (negsuc a) b h k = absurd (omega (arith, ints))
product_positive (pos (suc a)) (pos zero) h k = absurd (omega (arith, ints))
product_positive (pos (suc a)) (negsuc b) h k = absurd (omega (arith, ints))

-- a product with a number above 0 is 0 only where the other is
pub product_zero : (a b : ℤ) → pos 0 <ℤ b → a *ℤ b ≡ pos 0 → a ≡ pos 0
product_zero (pos zero) b h e = refl
product_zero (pos (suc a)) b h e = let p : pos 0 <ℤ (pos (suc a) *ℤ b) = product_positive (pos (suc a)) b (omega (arith, ints)) h in absurd (omega (arith, ints, e))
product_zero (negsuc a) b h e =
    let p : pos 0 <ℤ (pos (suc a) *ℤ b) = product_positive (pos (suc a)) b (omega (arith, ints)) h in
    absurd (omega (arith, ints, e, neg_mul (pos (suc a)) b))

-- a multiple by a number from 1 is 0 only where the number is
pub zero_factor : (g : ℕ) (z : ℤ) → 0 < g → pos g *ℤ z ≡ pos 0 → z ≡ pos 0
zero_factor zero z h e = absurd (omega arith)
zero_factor (suc g) (pos zero) h e = refl
zero_factor (suc g) (pos (suc n)) h e = absurd (omega (arith, ints, e))
zero_factor (suc g) (negsuc n) h e = absurd (omega (arith, ints, e))

-- and above 0 only where the number is
pub positive_factor : (g : ℕ) (z : ℤ) → pos 0 <ℤ (pos g *ℤ z) → pos 0 <ℤ z
positive_factor zero z h = absurd (omega (arith, ints, h))
positive_factor (suc g) (pos zero) h = absurd (omega (arith, ints, h))
positive_factor (suc g) (pos (suc n)) h = omega (arith, ints)
positive_factor (suc g) (negsuc n) h = absurd (omega (arith, ints, h))
