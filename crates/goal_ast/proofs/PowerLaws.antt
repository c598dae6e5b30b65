-- Powers: once one isn't small no later one is.
use Rattle.std.specs.Prelude.{◌≡◌, ℕ, zero, suc, ◌+◌, ◌-◌, ◌*◌, ◌%◌, ◌^◌, ◌<◌, ◌≤◌, ℤ, pos, negsuc, ◌*ℤ◌, unsigned_abs, Bool, true, false, refl, None}
use Rattle.std.proofs.Common.{ap, sym, ◌∙◌, subst, arith}
use Rattle.std.proofs.lemmas.Int.{ints, unsigned_abs-mul}
use Rattle.mm_num.specs.Power.{power}
use Rattle.goal_ast.specs.Sorted.{is_small}
use Rattle.goal_ast.specs.Evaluation.{only_if, checked}

none_is : (b : Bool) (z : ℤ) → only_if b z ≡ None → b ≡ false
none_is true z e = absurd (cc)
none_is false z e = refl

big_is : (z : ℤ) → is_small z ≡ false → 2 ^ 126 ≤ unsigned_abs z
big_is z e = grind arith

big_test : (z : ℤ) → 2 ^ 126 ≤ unsigned_abs z → is_small z ≡ false
big_test z e = grind arith

pub not_small : (z : ℤ) → checked z ≡ None → 2 ^ 126 ≤ unsigned_abs z
not_small z e = big_is z (none_is _ z e)

pub when_not_small : (z : ℤ) → 2 ^ 126 ≤ unsigned_abs z → checked z ≡ None
when_not_small z h = ap (λ b. only_if b z) (big_test z h)

times_some : (a b : ℕ) → 2 ≤ a → b ≤ a * b
times_some (suc (suc a)) b h = omega arith
times_some (suc zero) b h = absurd (omega arith)
times_some zero b h = absurd (omega arith)

next_rises : (b : ℤ) (n : ℕ) → 2 ≤ unsigned_abs b → unsigned_abs (power b n) ≤ unsigned_abs (power b (suc n))
next_rises b n h = rw (unsigned_abs-mul b (power b n)) (times_some _ _ h)

rises : (b : ℤ) (i d : ℕ) → 2 ≤ unsigned_abs b → unsigned_abs (power b i) ≤ unsigned_abs (power b (i + d))
rises b i zero h = let e : i + 0 ≡ i = omega arith in rw (e) (omega arith)
rises b i (suc d) h = let e : i + suc d ≡ suc (i + d) = omega arith in rw (e) (omega (arith, rises b i d h, next_rises b (i + d) h))

pub power_stops : (b : ℤ) (i e : ℕ) → 2 ≤ unsigned_abs b → i ≤ e → checked (power b i) ≡ None → checked (power b e) ≡ None
power_stops b i e h le n =
    let d : i + (e - i) ≡ e = omega arith in
    let r : unsigned_abs (power b i) ≤ unsigned_abs (power b e) = subst (λ k. unsigned_abs (power b i) ≤ unsigned_abs (power b k)) d (rises b i (e - i) h) in
    when_not_small (power b e) (omega (arith, not_small (power b i) n, r))

-- where the next power isn't small, no later one is
pub power_ends : (b v : ℤ) (i e : ℕ) → 2 ≤ unsigned_abs b → v ≡ power b i → i < e → None ≡ checked (b *ℤ v) → None ≡ checked (power b e)
power_ends b v i e h p le n = sym (power_stops b (suc i) e h (omega arith) (ap (λ z. checked (b *ℤ z)) (sym p) ∙ sym n))

pub power_of_one : (n : ℕ) → power (pos 1) n ≡ pos 1
power_of_one zero = refl
power_of_one (suc n) = rw (power_of_one n) refl

pub power_of_none : (n : ℕ) → 1 ≤ n → power (pos 0) n ≡ pos 0
power_of_none zero h = absurd (omega arith)
power_of_none (suc n) h = grind (arith, ints)

abbrev pub HasSign : ℕ → Type 0
HasSign n = (n % 2 ≡ 0 → power (negsuc 0) n ≡ pos 1) × (n % 2 ≡ 1 → power (negsuc 0) n ≡ negsuc 0)

pub power_of_minus_one : (n : ℕ) → HasSign n
power_of_minus_one zero = (λ e. refl, λ e. absurd (omega arith))
power_of_minus_one (suc n) =
    let before = power_of_minus_one n in
    (λ e. rw (before.1 (omega arith)) refl, λ e. rw (before.0 (omega arith)) refl)
