-- What an expression means over a list of rows, and its three bounds.
use Rattle.std.specs.Prelude.{ℕ, ◌+◌, ◌*◌, ◌^◌, ℤ, pos, max, unsigned_abs, List, [], Bool, true, nat_lt, nat_le, int_le, ◌&&◌, Option, Some, None, slice_get, if◌then◌else◌}
use Rattle.std.specs.Option.{option_map_or}
use Rattle.mm_num.specs.Option.{◌>>=◌}
use Rattle.mm_poly.specs.declared.term.Term.{Term}
use Rattle.mm_poly.specs.Poly.{norm, spread, degree, plus, times, constant_of}
use Rattle.cert_kit.specs.declared.bounds.Bounds.{Bounds}
use Rattle.cert_kit.specs.declared.row.Op.{Op}
use Rattle.cert_kit.specs.declared.row.Op.TheVariants.{Ge, Eq}
use Rattle.cert_kit.specs.declared.row.PRow.{PRow}
use Rattle.cert_kit.specs.declared.cert.Psatz.{Psatz}
use Rattle.cert_kit.specs.declared.cert.Psatz.TheOpen.{Psatz-F}
use Rattle.cert_kit.specs.declared.cert.Psatz.TheFolds.{fold-Psatz}

-- a product is 0 where a factor is; a sum is 0 where both parts are
abbrev pub product_op : Op → Op → Op
product_op Ge Ge = Ge
product_op Ge Eq = Eq
product_op Eq o = Eq

abbrev pub sum_op : Op → Op → Op
sum_op Eq Eq = Eq
sum_op Eq Ge = Ge
sum_op Ge o = Ge

abbrev pub product_row : PRow → PRow → PRow
product_row r s = record { poly = times r.poly s.poly; op = product_op r.op s.op }

abbrev pub sum_row : PRow → PRow → PRow
sum_row r s = record { poly = plus r.poly s.poly; op = sum_op r.op s.op }

abbrev pub at_least_0 : List Term → PRow
at_least_0 p = record { poly = p; op = Ge }

abbrev pub equal_to_0 : List Term → PRow
equal_to_0 p = record { poly = p; op = Eq }

-- a polynomial times a row that is an equality
abbrev pub multiple_row : List Term → Op → List Term → Option PRow
multiple_row p Eq q = Some (equal_to_0 (times p q))
multiple_row p Ge q = None

-- a constant of at least 1
abbrev pub constant_row : ℤ → Option PRow
constant_row c = if int_le (pos 1) c then Some (at_least_0 (constant_of c)) else None

abbrev pub Meaning : Type 0
Meaning = List PRow → Option PRow

abbrev pub meaning_step : Psatz-F Meaning → Meaning
meaning_step (Psatz-F.Hyp n) rows = slice_get rows n
meaning_step (Psatz-F.Square p) rows = Some (at_least_0 (times p p))
meaning_step (Psatz-F.MulPoly p e) rows = do
  r ← e rows
  multiple_row p r.op r.poly
meaning_step (Psatz-F.Mul e f) rows = do
  r ← e rows
  s ← f rows
  Some (product_row r s)
meaning_step (Psatz-F.Add e f) rows = do
  r ← e rows
  s ← f rows
  Some (sum_row r s)
meaning_step (Psatz-F.Const c) rows = constant_row c
meaning_step Psatz-F.Zero rows = Some (equal_to_0 [])

-- the row that an expression means over the rows, where it means one
abbrev pub meaning : Psatz → Meaning
meaning = fold-Psatz Meaning meaning_step

abbrev pub own_bounds : List Term → Bounds
own_bounds p = record { norm = norm p; spread = spread p; degree = degree p }

abbrev pub no_bounds : Bounds
no_bounds = record { norm = 0; spread = 0; degree = 0 }

abbrev pub product_bounds : Bounds → Bounds → Bounds
product_bounds a b = record { norm = a.norm * b.norm; spread = a.spread * b.spread; degree = a.degree + b.degree }

abbrev pub sum_bounds : Bounds → Bounds → Bounds
sum_bounds a b = record { norm = a.norm + b.norm; spread = a.spread + b.spread; degree = max a.degree b.degree }

abbrev pub constant_bounds : ℤ → Bounds
constant_bounds c = record { norm = unsigned_abs c; spread = 1; degree = 0 }

abbrev pub are_within : Bounds → Bool
are_within b = nat_lt b.norm (2 ^ 126) && (nat_le b.spread 65536 && nat_le b.degree 255)

-- bounds, where they are within the limits
abbrev pub where_within : Bounds → Option Bounds
where_within b = if are_within b then Some b else None

-- the bounds of an expression, and whether those of each of its nodes are within the limits
pub record Measure : Type 0 where
  pub bounds : Bounds
  pub within : Bool

abbrev pub measure_of : Bounds → Bool → Measure
measure_of b parts = record { bounds = b; within = parts && are_within b }

abbrev pub Measuring : Type 0
Measuring = List PRow → Measure

abbrev pub measure_step : Psatz-F Measuring → Measuring
measure_step (Psatz-F.Hyp n) rows = measure_of (option_map_or (λ (r : PRow). own_bounds r.poly) (slice_get rows n) no_bounds) true
measure_step (Psatz-F.Square p) rows = measure_of (product_bounds (own_bounds p) (own_bounds p)) true
measure_step (Psatz-F.MulPoly p e) rows = measure_of (product_bounds (own_bounds p) (e rows).bounds) (e rows).within
measure_step (Psatz-F.Mul e f) rows = measure_of (product_bounds (e rows).bounds (f rows).bounds) ((e rows).within && (f rows).within)
measure_step (Psatz-F.Add e f) rows = measure_of (sum_bounds (e rows).bounds (f rows).bounds) ((e rows).within && (f rows).within)
measure_step (Psatz-F.Const c) rows = measure_of (constant_bounds c) true
measure_step Psatz-F.Zero rows = measure_of no_bounds true

abbrev pub measure : Psatz → Measuring
measure = fold-Psatz Measuring measure_step
