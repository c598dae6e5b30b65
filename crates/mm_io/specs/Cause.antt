-- What the counts of faults of a device say of the calls that failed.
use Rattle.std.specs.Prelude.{ℕ, ◌+◌, ◌-◌, ◌^◌, ◌≤◌, min, Result, OnErr}

-- The count rose. A count that is at the last value of a 64-bit counter stays there.
abbrev pub HasRisen : ℕ → ℕ → Type 0
HasRisen before now = min (before + 1) (2 ^ 64 - 1) ≤ now

-- A call that failed counted a fault, and no call takes one back.
pub record HasCause {X E : Type 0} (before now : ℕ) (result : Result X E) : Type 0 where
  pub kept : before ≤ now
  pub risen : OnErr result (HasRisen before now)
