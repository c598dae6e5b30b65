-- Rows that are split by an unknown.
use Rattle.std.specs.Prelude.{◌≡◌, ℕ, ◌^◌, ◌<◌, ◌≤◌, pos, unsigned_abs, List, ◌++◌, map, Result, Ok, Err, int_lt, if◌then◌else◌}
use Rattle.std.specs.List.{filter, AllByRecursion}
use Rattle.std.specs.Ordering.{int_eq}
use Rattle.mm_poly.specs.declared.term.Term.{Term}
use Rattle.mm_poly.specs.Poly.{norm, spread}
use Rattle.cert_kit.specs.declared.row.PRow.{PRow}
use Rattle.fm_elim.specs.declared.live.Live.{Live}
use Rattle.fm_elim.specs.declared.room.Size.{Size}
use Rattle.fm_elim.specs.declared.sides.Side.{Side}
use Rattle.fm_elim.specs.declared.sides.Parts.{Parts}
use Rattle.fm_elim.specs.Unknowns.{coeff_in, without, lowers, uppers}
use Rattle.fm_elim.specs.Tidy.{End, Over}
use Rattle.fm_elim.specs.Steps.{combined_all, pairs_have_room}
use Rattle.fm_elim.specs.machine.Tidying.{rows_of}

pub record IsSizeOf (size : Size) (p : List Term) : Type 0 where
  pub norm_is : size.norm ≡ norm p
  pub spread_is : size.spread ≡ spread p
  pub few : spread p ≤ 65536

-- a row with the unknown, as it is told
pub record IsSide (u : List (ℕ × ℕ)) (side : Side) : Type 0 where
  pub coeff_is : side.coeff ≡ unsigned_abs (coeff_in u side.live.row)
  pub there : 1 ≤ side.coeff
  pub small : side.coeff < 2 ^ 126
  pub size : IsSizeOf side.size side.live.row.poly

abbrev pub sides_of : List Side → List PRow
sides_of sides = map (λ (s : Side). s.live.row) sides

pub record IsSplit (u : List (ℕ × ℕ)) (lives : List Live) (parts : Parts) : Type 0 where
  pub without_is : rows_of parts.without.items ≡ without u (rows_of lives)
  pub lowers_are : sides_of parts.lowers.items ≡ lowers u (rows_of lives)
  pub uppers_are : sides_of parts.uppers.items ≡ uppers u (rows_of lives)
  pub lower_sides : AllByRecursion (IsSide u) parts.lowers.items
  pub upper_sides : AllByRecursion (IsSide u) parts.uppers.items

-- the rows with their numbers
abbrev pub lives_of : List Side → List Live
lives_of sides = map (λ (s : Side). s.live) sides

pub record AreParts (u : List (ℕ × ℕ)) (lives : List Live) (parts : Parts) : Type 0 where
  pub without_are : parts.without.items ≡ filter (λ (l : Live). int_eq (coeff_in u l.row) (pos 0)) lives
  pub lowers_are : lives_of parts.lowers.items ≡ filter (λ (l : Live). int_lt (pos 0) (coeff_in u l.row)) lives
  pub uppers_are : lives_of parts.uppers.items ≡ filter (λ (l : Live). int_lt (coeff_in u l.row) (pos 0)) lives

-- rows without the unknown, and the sums of its pairs
abbrev pub sums_of : List (ℕ × ℕ) → List PRow → List PRow → List PRow → Result (List PRow) End
sums_of u rows ls hs = if pairs_have_room u ls hs then Ok (rows ++ combined_all u ls hs) else Err Over
