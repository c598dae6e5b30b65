-- What the log of an elimination means: how its rows are made of rows before them.
use Rattle.std.specs.Prelude.{◌≡◌, ℕ, ℤ, pos, negsuc, List, [], map, Bool, true, false, Some, slice_get, if◌then◌else◌}
use Rattle.std.specs.Option.{option_map_or}
use Rattle.std.specs.Ordering.{int_eq}
use Rattle.std.specs.List.{AllByRecursion}
use Rattle.mm_num.specs.Small.{IsSmall}
use Rattle.mm_poly.specs.Poly.{Fits, constant_of}
use Rattle.cert_kit.specs.declared.row.Op.TheVariants.{Ge}
use Rattle.cert_kit.specs.declared.row.PRow.{PRow}
use Rattle.cert_kit.specs.declared.cert.Psatz.{Psatz}
use Rattle.cert_kit.specs.declared.cert.Psatz.TheVariants.{Hyp, Square, MulPoly, Mul, Add, Const}
use Rattle.cert_kit.specs.declared.cert.Step.{Step}
use Rattle.cert_kit.specs.declared.cert.Step.TheVariants.{Rat, Cut}
use Rattle.cert_kit.specs.Cut.{cut_of}
use Rattle.cert_kit.specs.Meaning.{meaning, measure}
use Rattle.cert_kit.specs.Acceptance.{with_row, rows_after, ends_false}
use Rattle.cert_kit.specs.Making.{Makes}
use Rattle.cert_kit.specs.Depth.{is_constant_in_range}
use Rattle.fm_elim.specs.declared.source.Source.{Source}
use Rattle.fm_elim.specs.declared.source.Combination.{Combination}
use Rattle.fm_elim.specs.declared.source.Combination.TheVariants as source
use Rattle.fm_elim.specs.declared.source.Origin.{Origin}
use Rattle.fm_elim.specs.declared.source.Origin.TheVariants as origin
use Rattle.fm_elim.specs.declared.log.Log.{Log}
use Rattle.fm_elim.specs.declared.live.Live.{Live}
use Rattle.fm_elim.specs.declared.sides.Side.{Side}
use Rattle.fm_elim.specs.declared.stepped.Stepped.{Stepped}
use Rattle.fm_elim.specs.declared.stepped.Stepped.TheVariants as stepped
use Rattle.fm_elim.specs.Tidy.{is_constant_row}

-- a multiple of an inequality, and one of an equality
abbrev pub times_row : ℤ → ℕ → Psatz
times_row a n = if int_eq a (pos 1) then Hyp n else Mul (Const a) (Hyp n)

abbrev pub times_equality : ℤ → ℕ → Psatz
times_equality k n = if int_eq k (pos 1) then Hyp n else MulPoly (constant_of k) (Hyp n)

-- the expression that means it
abbrev pub expression : Combination → Psatz
expression (source.Given n) = Hyp n
expression (source.Sum n k m) = Add (Hyp n) (times_equality k m)
expression (source.Pair a l b h) = Add (times_row a l) (times_row b h)
expression (source.Half n) = Add (Hyp n) (Square [])
expression (source.OtherHalf n) = Add (MulPoly (constant_of (negsuc 0)) (Hyp n)) (Square [])

abbrev pub step_of : Source → Step
step_of s = if s.is_cut then Cut (expression s.combination) else Rat (expression s.combination)

-- the row that is made, where the combination is this one
abbrev pub made_row : Source → PRow → PRow
made_row s r = if s.is_cut then cut_of r else r

abbrev pub steps_of : List Source → List Step
steps_of sources = map step_of sources

-- the given rows, and those that were made
abbrev pub rows_made : List PRow → List Source → List PRow
rows_made given sources = option_map_or (λ (rows : List PRow). rows) (rows_after (steps_of sources) given) []

abbrev pub all_rows : Log → List PRow
all_rows log = rows_made log.given.now log.sources.items

-- the numbers by which rows are multiplied are small, and those of inequalities are at least 1
abbrev pub IsFactor : ℤ → Type 0
IsFactor a = is_constant_in_range a ≡ true

abbrev pub IsSized : Combination → Type 0
IsSized (source.Given n) = Unit {0}
IsSized (source.Sum n k m) = IsSmall k
IsSized (source.Pair a l b h) = IsFactor a × IsFactor b
IsSized (source.Half n) = Unit {0}
IsSized (source.OtherHalf n) = Unit {0}

abbrev pub HasSizes : Source → Type 0
HasSizes s = IsSized s.combination

-- the steps of the sources make their rows of the given ones
pub record AreSound (given : List PRow) (sources : List Source) : Type 0 where
  pub makes : Makes given (steps_of sources) (rows_made given sources)
  pub sized : AllByRecursion HasSizes sources

-- the last one of them is constant and false
pub record Contradict (given : List PRow) (sources : List Source) : Type 0 where
  pub sound : AreSound given sources
  pub ends : ends_false (rows_made given sources) ≡ true

abbrev pub IsSound : Log → Type 0
IsSound log = AreSound log.given.now log.sources.items

-- each row stays where it was
pub record Grows (before after : Log) : Type 0 where
  pub given : after.given.now ≡ before.given.now
  pub rows : (n : ℕ) (r : PRow) → slice_get (all_rows before) n ≡ Some r → slice_get (all_rows after) n ≡ Some r

-- the combination's expression means the row, each node within its bounds
pub record Derives (rows : List PRow) (s : Combination) (r : PRow) : Type 0 where
  pub means : meaning (expression s) rows ≡ Some r
  pub within : (measure (expression s) rows).within ≡ true
  pub sized : IsSized s

-- what gives a row its number
abbrev pub IsOrigin : Log → PRow → Origin → Type 0
IsOrigin log r (origin.Stands n) = slice_get (all_rows log) n ≡ Some r
IsOrigin log r (origin.Made s) = (whole : PRow) × Derives (all_rows log) s.combination whole × (r ≡ made_row s whole)

-- a tidy row with its number
pub record IsLive (log : Log) (live : Live) : Type 0 where
  pub here : slice_get (all_rows log) live.number ≡ Some live.row
  pub fits : Fits live.row.poly
  pub cut : cut_of live.row ≡ live.row
  pub unknown : is_constant_row live.row ≡ false

-- an inequality among them
pub record IsLiveSide (log : Log) (side : Side) : Type 0 where
  pub live : IsLive log side.live
  pub inequality : side.live.row.op ≡ Ge

pub record IsLogged (log : Log) (ls : List Live) : Type 0 where
  pub sound : IsSound log
  pub lives : AllByRecursion (IsLive log) ls

-- the log grew, these rows stand in it, and where one was found that is constant and false it is the last one
pub record Logs (found : Bool) (before after : Log) (lives : List Live) : Type 0 where
  pub grows : Grows before after
  pub logged : IsLogged after lives
  pub ends : found ≡ true → ends_false (all_rows after) ≡ true

-- a row that is its own cut, with what gives it its number, beside rows that stand
pub record CanKeep (log : Log) (lives : List Live) (r : PRow) (o : Origin) : Type 0 where
  pub logged : IsLogged log lives
  pub fits : Fits r.poly
  pub cut : cut_of r ≡ r
  pub unknown : is_constant_row r ≡ false
  pub origin : IsOrigin log r o

-- a row has a number after a log grew
pub record IsNumbered (before after : Log) (r : PRow) (n : ℕ) : Type 0 where
  pub grows : Grows before after
  pub sound : IsSound after
  pub here : slice_get (all_rows after) n ≡ Some r

-- a row is the last one after a log grew
pub record IsPushed (before after : Log) (r : PRow) : Type 0 where
  pub grows : Grows before after
  pub sound : IsSound after
  pub rows : all_rows after ≡ with_row (all_rows before) r

-- the log after a step
abbrev pub LogsStep : Stepped → Log → Log → Type 0
LogsStep (stepped.Rows lives) before after = Logs false before after lives.items
LogsStep stepped.Contra before after = Logs true before after []
LogsStep stepped.Over before after = Unit {0}
