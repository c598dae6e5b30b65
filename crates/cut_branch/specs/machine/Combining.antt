-- Expressions whose rows have cuts that are false at a point, and sums of two multiples of rows.
use Rattle.std.specs.Prelude.{◌≡◌, ◌≢◌, ℕ, ◌+◌, ◌*◌, ◌^◌, ◌<◌, ◌≤◌, ℤ, pos, unsigned_abs, List, Some}
use Rattle.mm_num.specs.Small.{IsSmall}
use Rattle.mm_poly.specs.Poly.{norm, spread, degree, plus, scaled}
use Rattle.cert_kit.specs.declared.row.Op.{Op}
use Rattle.cert_kit.specs.declared.row.PRow.{PRow}
use Rattle.cert_kit.specs.declared.cert.Psatz.{Psatz}
use Rattle.cert_kit.specs.declared.cert.Psatz.TheVariants.{Add}
use Rattle.cert_kit.specs.Meaning.{meaning, sum_op}
use Rattle.farkas_rows.specs.Combining.{IsMultiplier}
use Rattle.farkas_rows.specs.machine.Parts.{times_row}
use Rattle.cut_branch.specs.declared.scaled.Scaled.{Scaled}
use Rattle.cut_branch.specs.Picking.{FitsStep}
use Rattle.cut_branch.specs.machine.Scaling.{IsFalseOver}

-- an expression whose linear row has a cut that is false there
pub record HasFalseRow (rows : List PRow) (vars : List ℕ) (s : Scaled) (e : Psatz) : Type 0 where
  pub row : PRow
  pub means : meaning e rows ≡ Some row
  pub linear : degree row.poly ≤ 1
  pub cut : IsFalseOver vars s row
  pub fits : FitsStep rows e

-- the sum of multiples of two rows
abbrev pub sum_of : ℤ → PRow → ℤ → PRow → PRow
sum_of a p b q = record { poly = plus (scaled a p.poly) (scaled b q.poly); op = sum_op p.op q.op }

-- the sum is within the limits, and its cut is false there
pub record IsFalseSum (a : ℤ) (p : PRow) (b : ℤ) (q : PRow) (vars : List ℕ) (s : Scaled) : Type 0 where
  pub norm : norm p.poly * unsigned_abs a + norm q.poly * unsigned_abs b < 2 ^ 126
  pub spread : spread p.poly + spread q.poly ≤ 65536
  pub cut : IsFalseOver vars s (sum_of a p b q)

-- a row may be multiplied by a number, which isn't 0
pub record MayMultiply (o : Op) (m : ℤ) : Type 0 where
  pub sign : IsMultiplier o m
  pub some : m ≢ pos 0
  pub small : IsSmall m

pub record MaySum (a : ℤ) (p : PRow) (b : ℤ) (q : PRow) (vars : List ℕ) (s : Scaled) : Type 0 where
  pub first : MayMultiply p.op a
  pub second : MayMultiply q.op b
  pub sum : IsFalseSum a p b q vars s

-- the expression for that sum
abbrev pub sum_expression : ℤ → ℕ → Op → ℤ → ℕ → Op → Psatz
sum_expression a n o b m u = Add (times_row a n o) (times_row b m u)
