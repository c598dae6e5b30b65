-- Parts of a combination: expressions that mean what neighbouring rows sum to.
use Rattle.std.specs.Prelude.{◌≡◌, ℕ, ◌+◌, ◌^◌, ◌<◌, ◌≤◌, ℤ, pos, List, [], length, true, Option, Some, None, slice_get, if◌then◌else◌}
use Rattle.std.specs.Ordering.{int_eq}
use Rattle.std.specs.List.{AllByRecursion}
use Rattle.mm_num.specs.Small.{IsSmall}
use Rattle.mm_poly.specs.Poly.{Fits, constant_of}
use Rattle.cert_kit.specs.declared.row.Op.{Op}
use Rattle.cert_kit.specs.declared.row.Op.TheVariants.{Ge, Eq}
use Rattle.cert_kit.specs.declared.row.PRow.{PRow}
use Rattle.cert_kit.specs.declared.cert.Psatz.{Psatz}
use Rattle.cert_kit.specs.declared.cert.Psatz.TheVariants.{Hyp, MulPoly, Mul, Add, Const}
use Rattle.cert_kit.specs.Meaning.{meaning, measure}
use Rattle.cert_kit.specs.Making.{numbers_of}
use Rattle.cert_kit.specs.Depth.{psatz_depth, has_constants_in_range}
use Rattle.farkas_rows.specs.Combining.{combined, AreMultipliers, norms, spreads, HasRoom, is_nothing, rows_used}

-- what allows to combine rows
pub record CanCombine (rows : List PRow) (ms : List ℤ) : Type 0 where
  pub count : length ms ≡ length rows
  pub signs : AreMultipliers rows ms
  pub small : AllByRecursion IsSmall ms
  pub fits : AllByRecursion (λ (r : PRow). Fits r.poly) rows
  pub room : HasRoom rows ms

-- a multiple of the row of this number
abbrev pub product_by : ℤ → ℕ → Op → Psatz
product_by m n Ge = Mul (Const m) (Hyp n)
product_by m n Eq = MulPoly (constant_of m) (Hyp n)

abbrev pub times_row : ℤ → ℕ → Op → Psatz
times_row m n o = if int_eq m (pos 1) then Hyp n else product_by m n o

abbrev pub multiple_of : ℤ → ℕ → PRow → Option Psatz
multiple_of m n r = if is_nothing m r then None else Some (times_row m n r.op)

-- the sum of two parts, each of which may be nothing
abbrev pub sum_of : Option Psatz → Option Psatz → Option Psatz
sum_of None e = e
sum_of (Some d) None = Some d
sum_of (Some d) (Some e) = Some (Add d e)

-- the rows stand among others from this number on
abbrev pub StandFrom : ℕ → List PRow → List PRow → Type 0
StandFrom n rows all = (i : ℕ) → i < length rows → slice_get all (n + i) ≡ slice_get rows i

-- an expression that means the combination, within its bounds
pub record IsPart (all rows : List PRow) (ms : List ℤ) (e : Psatz) : Type 0 where
  pub op : Op
  pub means : meaning e all ≡ Some (record { poly = combined ms rows; op = op })
  pub norm : (measure e all).bounds.norm ≤ norms ms rows
  pub spread : (measure e all).bounds.spread ≤ spreads rows
  pub degree : (measure e all).bounds.degree ≤ 255
  pub within : (measure e all).within ≡ true

-- the depth of an expression that is made by halves
pub record IsShallow (rows : List PRow) (e : Psatz) : Type 0 where
  pub depth : (h : ℕ) → length rows ≤ 2 ^ h → psatz_depth e ≤ h + 1
  pub constants : has_constants_in_range e ≡ true

-- an expression for the combination of rows from a number on
pub record IsExpression (n : ℕ) (rows : List PRow) (ms : List ℤ) (e : Psatz) : Type 0 where
  pub part : (all : List PRow) → StandFrom n rows all → IsPart all rows ms e
  pub names : numbers_of e ≡ rows_used n ms rows
  pub shallow : IsShallow rows e

-- none where all multiples are 0
pub record IsNothing (n : ℕ) (rows : List PRow) (ms : List ℤ) : Type 0 where
  pub sum : combined ms rows ≡ []
  pub names : rows_used n ms rows ≡ []

abbrev pub IsCombination : ℕ → List PRow → List ℤ → Option Psatz → Type 0
IsCombination n rows ms None = IsNothing n rows ms
IsCombination n rows ms (Some e) = IsExpression n rows ms e
