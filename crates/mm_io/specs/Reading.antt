-- What is said of a source that tells the bytes that it has left.
use Rattle.std.specs.Prelude.{ℕ, ◌<◌, ◌≤◌, List, length, ⊤, Option, Some, None}
use Rattle.std.specs.Io.KnownBytes.{Consumes}

-- more known bytes than this are left
abbrev pub HasMoreThan : ℕ → Option (List ℕ) → Type 0
HasMoreThan limit None = ⊤
HasMoreThan limit (Some bytes) = limit < length bytes

-- of known bytes some were taken from the front, at most this many
abbrev pub TakesAtMost : ℕ → Option (List ℕ) → Option (List ℕ) → Type 0
TakesAtMost most old new = (taken : List ℕ) × Consumes old new taken × (length taken ≤ most)
