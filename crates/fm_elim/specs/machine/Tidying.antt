-- Rows that are tidied one after another.
use Rattle.std.specs.Prelude.{◌≡◌, ℕ, ◌+◌, ◌<◌, ◌≤◌, List, [], ◌∷◌, ◌++◌, length, map, Bool, true, false, Option, Some, None, Result, Ok, Err, if◌then◌else◌}
use Rattle.std.specs.List.{AllByRecursion}
use Rattle.mm_num.specs.Result.{◌>>=◌}
use Rattle.cert_kit.specs.declared.row.PRow.{PRow}
use Rattle.fm_elim.specs.declared.live.Live.{Live}
use Rattle.fm_elim.specs.declared.kept.Kept.{Kept}
use Rattle.fm_elim.specs.declared.stepped.Stepped.{Stepped}
use Rattle.fm_elim.specs.declared.stepped.Stepped.TheVariants as stepped
use Rattle.fm_elim.specs.Tidy.{End, Contra, Over, are_parallel, is_constant_row, kept_after, cuts, has_false, within_512, tidied}

abbrev pub rows_of : List Live → List PRow
rows_of lives = map (λ (l : Live). l.row) lives

-- the place of the first parallel row, counted from n
abbrev pub parallel_from : List Live → PRow → ℕ → Option ℕ
parallel_from [] r n = None
parallel_from (l ∷ lives) r n = if are_parallel l.row r then Some n else parallel_from lives r (n + 1)

-- the rows that tidying keeps, unless there are more than 512 of them
abbrev pub Stands : Bool → List Live → List PRow → Type 0
Stands true lives kept = 512 < length kept
Stands false lives kept = rows_of lives ≡ kept

-- a row was found that is constant and false, or the state went on by the rows
abbrev pub Feeds : Bool → Kept → Kept → List PRow → Type 0
Feeds true before after rows = has_false (cuts rows) ≡ true
Feeds false before after rows = (has_false (cuts rows) ≡ false)
    × ((kept : List PRow) → Stands before.is_over before.rows.items kept → Stands after.is_over after.rows.items (kept_after (cuts rows) kept))

-- what tidying comes to with these rows kept and those still to come
abbrev pub tidied_from : List PRow → List PRow → Result (List PRow) End
tidied_from rest kept = if has_false (cuts rest) then Err Contra else within_512 (kept_after (cuts rest) kept)

pub record IsTidying (answer : Result (List PRow) End) (kept : Kept) (rest : List PRow) : Type 0 where
  pub rows : List PRow
  pub stands : Stands kept.is_over kept.rows.items rows
  pub is : answer ≡ tidied_from rest rows

-- whatever tidying is to come to: a row was found that is constant and false, or the rest is still to come
abbrev pub Goes : Bool → Kept → Kept → List PRow → Type 0
Goes true before after rows = (answer : Result (List PRow) End) (rest : List PRow) → IsTidying answer before (rows ++ rest) → answer ≡ Err Contra
Goes false before after rows = (answer : Result (List PRow) End) (rest : List PRow) → IsTidying answer before (rows ++ rest) → IsTidying answer after rest

abbrev pub HasUnknowns : PRow → Type 0
HasUnknowns r = is_constant_row r ≡ false

-- no two of them are parallel
abbrev pub AreApart : List PRow → Type 0
AreApart [] = Unit {0}
AreApart (r ∷ rows) = AllByRecursion (λ s. are_parallel r s ≡ false) rows × AreApart rows

-- rows that tidying leaves as they are, where each is its own cut
pub record AreStanding (rows : List PRow) : Type 0 where
  pub few : length rows ≤ 512
  pub unknown : AllByRecursion HasUnknowns rows
  pub apart : AreApart rows

abbrev pub StandsTidy : Stepped → Type 0
StandsTidy (stepped.Rows lives) = AreStanding (rows_of lives.items)
StandsTidy stepped.Contra = Unit {0}
StandsTidy stepped.Over = Unit {0}

-- how a step ends
abbrev pub StepsTo : Stepped → Result (List PRow) End → Type 0
StepsTo (stepped.Rows lives) answer = answer ≡ Ok (rows_of lives.items)
StepsTo stepped.Contra answer = answer ≡ Err Contra
StepsTo stepped.Over answer = answer ≡ Err Over

abbrev pub then_tidied : Result (List PRow) End → Result (List PRow) End
then_tidied answer = answer >>= tidied
