-- Where a tableau is left out, there are more candidate bases than turns.
use Rattle.std.specs.Prelude.{◌≡◌, ◌⊎◌, ℕ, ◌+◌, ◌*◌, ◌≤◌, ◌<◌, max, Bool, false, IsTrue}
use Rattle.std.proofs.Common.{sym, ◌∙◌, subst, inl, inr, arith}
use Rattle.mm_num.proofs.BoolLaws.{never}
use Rattle.simplex_core.specs.Walk.{choose}
use Rattle.relaxation.proofs.ChooseLaws.{by_rows, by_unknowns}

half : (k t c : ℕ) → 2 * t < (k + 1) * (k + 2) → (k + 1) * (k + 2) ≤ 2 * c → c ≤ t → ⊥
half k t c h l m = omega (arith, h, l, m)

-- k is the greater of both
pub out_of_reach : (n m k t : ℕ) → 2 ≤ n → 2 ≤ m → (n ≤ m → k ≡ m) → (m ≤ n → k ≡ n) → 2 * t < (k + 1) * (k + 2) → choose (n + m) m ≤ t → ⊥
out_of_reach n m k t a b e f h c = by_order (n_or_m n m)
  where
    n_or_m : (n m : ℕ) → (n ≤ m) ⊎ (m ≤ n)
    n_or_m n m = grind arith

    by_order : (n ≤ m) ⊎ (m ≤ n) → ⊥
    by_order (inl l) = half m t (choose (n + m) m) (subst (λ (x : ℕ). 2 * t < (x + 1) * (x + 2)) (e l) h) (by_rows n m a) c
    by_order (inr l) = half n t (choose (n + m) m) (subst (λ (x : ℕ). 2 * t < (x + 1) * (x + 2)) (f l) h) (by_unknowns n m b) c

-- as the code tells it
pub in_reach : (n m k t : ℕ) (small few : Bool) → small ≡ false → IsTrue small ⊎ ((2 ≤ n) × (2 ≤ m)) → k ≡ max n m → ((k + 1) * (k + 2) ≤ 2 * t → IsTrue few) → choose (n + m) m ≤ t → IsTrue few
in_reach n m k t small few e (inl s) g f h = absurd (never (sym e ∙ s))
in_reach n m k t small few e (inr b) g f h = by_test (less_or_not ((k + 1) * (k + 2)) (2 * t))
  where
    less_or_not : (a b : ℕ) → (a ≤ b) ⊎ (b < a)
    less_or_not a b = grind arith

    by_test : ((k + 1) * (k + 2) ≤ 2 * t) ⊎ (2 * t < (k + 1) * (k + 2)) → IsTrue few
    by_test (inl l) = f l
    by_test (inr l) = absurd (out_of_reach n m k t b.0 b.1 (λ q. omega (arith, g, q)) (λ q. omega (arith, g, q)) l h)
