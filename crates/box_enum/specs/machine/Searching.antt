-- The search of a box: the rows wait until the variables that they name have values.
use Rattle.std.specs.Prelude.{◌≡◌, ℕ, zero, suc, ◌*◌, ◌^◌, ◌<◌, ◌≤◌, max, ℤ, pos, ◌+ℤ◌, List, [], ◌∷◌, ◌++◌, length, take, Bool, true, false, Option, Some, None, slice_index_or}
use Rattle.std.specs.Option.{option_map, option_or}
use Rattle.std.specs.List.{find, list_all}
use Rattle.mm_poly.specs.Renaming.{renamed}
use Rattle.mm_poly.specs.Poly.{norm, degree, HasPlaces}
use Rattle.mm_poly.specs.Point.{point_of}
use Rattle.cert_kit.specs.declared.row.PRow.{PRow}
use Rattle.cert_kit.specs.Row.{row_holds}
use Rattle.cert_kit.specs.Variables.{place_of}
use Rattle.box_enum.specs.declared.waiting.Waiting.{Waiting}
use Rattle.box_enum.specs.Box.{Side, points_of}

-- ---- the places of the variables in their stead

abbrev pub placed_row : List ℕ → PRow → PRow
placed_row vars r = record { poly = renamed (place_of vars) r.poly; op = r.op }

-- a row with places, due once its places have values
pub record IsPlaced (vars : List ℕ) (r : PRow) (w : Waiting) : Type 0 where
  pub row : w.row ≡ placed_row vars r
  pub places : HasPlaces w.due w.row.poly
  pub early : w.due ≤ length vars

abbrev pub ArePlaced : List ℕ → List PRow → List Waiting → Type 0
ArePlaced vars [] [] = Unit {0}
ArePlaced vars [] (w ∷ ws) = ⊥
ArePlaced vars (r ∷ rows) [] = ⊥
ArePlaced vars (r ∷ rows) (w ∷ ws) = IsPlaced vars r w × ArePlaced vars rows ws

-- due in time, and its values are small within the reach
pub record IsWaiting (count reach : ℕ) (w : Waiting) : Type 0 where
  pub places : HasPlaces w.due w.row.poly
  pub early : w.due ≤ count
  pub tame : norm w.row.poly * max 1 reach ^ degree w.row.poly < 2 ^ 126

-- ---- the search

abbrev pub waits_hold : List Waiting → List ℤ → Bool
waits_hold ws zs = list_all (λ (w : Waiting). row_holds (point_of zs) w.row) ws

-- the first point that goes on from the values chosen and solves the rows
abbrev pub first_from : List Waiting → List ℤ → List Side → Option (List ℤ)
first_from ws chosen sides = option_map (λ zs. chosen ++ zs) (find (λ zs. waits_hold ws (chosen ++ zs)) (points_of sides))

-- what the first of this many values from z on gives that gives anything
abbrev pub first_value : (ℤ → Option (List ℤ)) → ℤ → ℕ → Option (List ℤ)
first_value f z zero = None
first_value f z (suc n) = option_or (f z) (first_value f (z +ℤ pos 1) n)

-- the rows up to here are due and hold, and the next one isn't due
pub record IsPassed (ws : List Waiting) (chosen : List ℤ) (n : ℕ) : Type 0 where
  pub within : n ≤ length ws
  pub hold : (zs : List ℤ) → waits_hold (take n ws) (chosen ++ zs) ≡ true
  pub next : (d : Waiting) → n < length ws → length chosen < (slice_index_or ws n d).due

-- the point that was found, or the values as they were
abbrev pub Finds : Bool → Option (List ℤ) → List ℤ → List ℤ → Type 0
Finds true first before after = first ≡ Some after
Finds false first before after = (first ≡ None) × (after ≡ before)
