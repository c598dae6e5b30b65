-- The sources that the last row of a log needs, with other numbers for their rows.
use Rattle.std.specs.Prelude.{◌≡◌, ℕ, ◌+◌, ◌-◌, ◌<◌, ◌≤◌, List, [], ◌∷◌, ◌++◌, length, Bool, true, nat_lt, Option, Some, None, slice_get, if◌then◌else◌}
use Rattle.std.specs.List.{AllByRecursion}
use Rattle.std.specs.Option.{option_map_or}
use Rattle.mm_num.specs.Option.{◌>>=◌}
use Rattle.cert_kit.specs.declared.row.PRow.{PRow}
use Rattle.fm_elim.specs.declared.source.Source.{Source}
use Rattle.fm_elim.specs.declared.source.Combination.{Combination}
use Rattle.fm_elim.specs.declared.source.Combination.TheVariants.{Given, Sum, Pair, Half, OtherHalf}
use Rattle.fm_elim.specs.declared.log.Log.{Log}
use Rattle.fm_elim.specs.declared.pruned.Pruned.{Pruned}
use Rattle.fm_elim.specs.machine.Logging.{made_row, rows_made, all_rows, AreSound, Derives}

-- a row's new number, where it is kept: given rows keep theirs
abbrev pub new_number : ℕ → List (Option ℕ) → ℕ → Option ℕ
new_number given places n = if nat_lt n given then Some n else option_map_or (λ (o : Option ℕ). o) (slice_get places (n - given)) None

-- the combination over new numbers, where each of its rows has one
abbrev pub renumbered : (ℕ → Option ℕ) → Combination → Option Combination
renumbered f (Given n) = do
  m ← f n
  Some (Given m)
renumbered f (Sum n k p) = do
  m ← f n
  q ← f p
  Some (Sum m k q)
renumbered f (Pair a l b h) = do
  m ← f l
  q ← f h
  Some (Pair a m b q)
renumbered f (Half n) = do
  m ← f n
  Some (Half m)
renumbered f (OtherHalf n) = do
  m ← f n
  Some (OtherHalf m)

-- a row among two lists of rows, with its number in each
pub record IsBoth (all out : List PRow) (n m : ℕ) : Type 0 where
  pub row : PRow
  pub before : slice_get all n ≡ Some row
  pub after : slice_get out m ≡ Some row

-- the sources make their rows, and each row that has a new number stands there
pub record IsPruning (log : Log) (p : Pruned) : Type 0 where
  pub sound : AreSound log.given.now p.sources.items
  pub kept : (n m : ℕ) → new_number (length log.given.now) p.places.items n ≡ Some m → IsBoth (all_rows log) (rows_made log.given.now p.sources.items) n m

-- the source makes the row of this number after the given ones
pub record IsMade (log : Log) (s : Source) (k : ℕ) : Type 0 where
  pub row : PRow
  pub derives : Derives (all_rows log) s.combination row
  pub here : slice_get (all_rows log) (length log.given.now + k) ≡ Some (made_row s row)

-- the rows that a combination names
abbrev pub names_of : Combination → List ℕ
names_of (Given n) = n ∷ []
names_of (Sum n k m) = n ∷ m ∷ []
names_of (Pair a l b h) = l ∷ h ∷ []
names_of (Half n) = n ∷ []
names_of (OtherHalf n) = n ∷ []

abbrev pub AreBelow : ℕ → List ℕ → Type 0
AreBelow k ns = AllByRecursion (λ n. n < k) ns

-- a row that was made is marked
abbrev pub IsMarked : ℕ → List Bool → ℕ → Type 0
IsMarked given marks n = given ≤ n → slice_get marks (n - given) ≡ Some true

-- the rows that marked sources name are marked, from the source at k on
abbrev pub AreClosed : ℕ → List Source → List Bool → ℕ → Type 0
AreClosed given sources marks k = (j : ℕ) (s : Source) → k ≤ j → slice_get marks j ≡ Some true → slice_get sources j ≡ Some s → AllByRecursion (IsMarked given marks) (names_of s.combination)

-- what marking rows does: nothing from k on, where they are below it
pub record Marks (given : ℕ) (names : List ℕ) (before after : List Bool) : Type 0 where
  pub count : length after ≡ length before
  pub grows : (j : ℕ) → slice_get before j ≡ Some true → slice_get after j ≡ Some true
  pub only : (k : ℕ) → AreBelow (given + k) names → (j : ℕ) → k ≤ j → slice_get after j ≡ Some true → slice_get before j ≡ Some true
  pub marked : (k : ℕ) → k ≤ length before → AreBelow (given + k) names → AllByRecursion (IsMarked given after) names

-- a row has a new number
abbrev pub IsPlaced : ℕ → List (Option ℕ) → ℕ → Type 0
IsPlaced given places n = (m : ℕ) × (new_number given places n ≡ Some m)

-- the rows before this one that are marked have new numbers
abbrev pub ArePlaced : List Bool → List (Option ℕ) → Type 0
ArePlaced marks places = (j : ℕ) → j < length places → slice_get marks j ≡ Some true → (m : ℕ) × (slice_get places j ≡ Some (Some m))

-- one more place, with a number where it is needed
pub record IsPlacedNext (is_needed : Bool) (before after : List (Option ℕ)) : Type 0 where
  pub place : Option ℕ
  pub places : after ≡ before ++ place ∷ []
  pub needed : is_needed ≡ true → (m : ℕ) × (place ≡ Some m)
