-- Tables that give variables their numbers.
use Rattle.std.specs.Prelude.{◌≡◌, ◌≢◌, ℕ, ◌<◌, ◌≤◌, List, length, slice_index}

-- a list that has a number at a place, and the others as they were
pub record IsSetAt (old new : List ℕ) (at n : ℕ) : Type 0 where
  pub longer : length old ≤ length new
  pub within : at < length new
  pub here : slice_index new at ≡ n
  pub others : (k : ℕ) → k < length old → k ≢ at → slice_index new k ≡ slice_index old k

-- at the place of each of the first variables a table has its place among them
pub record Numbers (table vars : List ℕ) (count : ℕ) : Type 0 where
  pub within : (j : ℕ) → j < count → slice_index vars j < length table
  pub number : (j : ℕ) → j < count → slice_index table (slice_index vars j) ≡ j
