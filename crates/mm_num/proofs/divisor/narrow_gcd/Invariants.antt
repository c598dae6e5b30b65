use Rattle.std.proofs.Common.{ℕ, ◌≤◌, max}
use Rattle.std.specs.Int.{IsGcd}
use Rattle.mm_num.proofs.divisor.narrow_gcd.Given as goal

-- a divisor that is the greatest of what is left is that of the two numbers
abbrev pub invariant-loop-b : goal.invariant-loop-b
invariant-loop-b l = record {
  divisor : (g : ℕ) → IsGcd l.a l.b g → IsGcd l.fn.a l.fn.b g;
  within : max l.a l.b ≤ max l.fn.a l.fn.b;
}

abbrev pub decreases-loop-b : goal.decreases-loop-b
decreases-loop-b l = l.b
