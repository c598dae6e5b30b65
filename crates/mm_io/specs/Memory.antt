-- What the devices in memory are, as contracts see them.
use Rattle.std.specs.Prelude.{ℕ, ◌+◌, ◌-◌, ◌^◌, ◌≤◌, ◌⊎◌, min, List, length, take, drop, ◌++◌, Contains, Option, IsSomeAnd}

-- a source: the bytes that it has left, the numbers of the calls that fail, and its two counters
pub record Feed : Type 0 where
  pub left : List ℕ
  pub fails : List ℕ
  pub calls : ℕ
  pub faults : ℕ

-- a sink: the bytes that were written to it, the numbers of the calls that fail, and its two counters
pub record Tape : Type 0 where
  pub written : List ℕ
  pub fails : List ℕ
  pub calls : ℕ
  pub faults : ℕ

-- a disk: its bytes, the numbers of the calls that fail, the number from which on all do, and its two counters
pub record Platter : Type 0 where
  pub bytes : List ℕ
  pub fails : List ℕ
  pub stop : Option ℕ
  pub calls : ℕ
  pub faults : ℕ

-- one more, up to the last value of a 64-bit counter
abbrev pub next_count : ℕ → ℕ
next_count n = min (n + 1) (2 ^ 64 - 1)

-- whether the next call of a disk is one that fails
abbrev pub IsFailing : Platter → Type 0
IsFailing d = Contains d.fails d.calls ⊎ IsSomeAnd d.stop (λ first. first ≤ d.calls)

-- the disk after a call that did its work, and after one that failed
abbrev pub called : Platter → Platter
called d = record d { calls = next_count d.calls }

abbrev pub failed : Platter → Platter
failed d = record d { calls = next_count d.calls; faults = next_count d.faults }

-- old bytes with a piece written over them from a place on; the piece may reach past their end
abbrev pub overwritten : List ℕ → ℕ → List ℕ → List ℕ
overwritten old at piece = take at old ++ piece ++ drop (at + length piece) old
