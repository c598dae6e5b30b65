-- The first fault of a certificate: steps in order, an expression's operands first and from left to right, then the
-- close and its members in order; at each node the rule first, and then the bounds.
use Rattle.std.specs.Prelude.{ℤ, pos, ◌+ℤ◌, List, [], ◌∷◌, length, Bool, true, false, ◌&&◌, ◌==◌, Option, Some, None, Result, Ok, Err, slice_get, if◌then◌else◌}
use Rattle.mm_num.specs.Result.{◌>>=◌}
use Rattle.mm_poly.specs.declared.term.Term.{Term}
use Rattle.mm_poly.specs.Poly.{times}
use Rattle.cert_kit.specs.declared.node.Fault.{Fault}
use Rattle.cert_kit.specs.declared.node.Fault.TheVariants.{Rule, Bound}
use Rattle.cert_kit.specs.declared.node.Node.{Node}
use Rattle.cert_kit.specs.declared.row.PRow.{PRow}
use Rattle.cert_kit.specs.declared.cert.Psatz.{Psatz}
use Rattle.cert_kit.specs.declared.cert.Psatz.TheOpen.{Psatz-F}
use Rattle.cert_kit.specs.declared.cert.Psatz.TheFolds.{fold-Psatz}
use Rattle.cert_kit.specs.declared.cert.Step.{Step}
use Rattle.cert_kit.specs.declared.cert.Step.TheVariants.{Rat, Cut}
use Rattle.cert_kit.specs.declared.cert.Cert.{Cert}
use Rattle.cert_kit.specs.declared.cert.Close.TheOpen.{Close-F, Cert-F}
use Rattle.cert_kit.specs.declared.cert.Close.TheFolds.{fold-Cert}
use Rattle.cert_kit.specs.Cut.{cut_of}
use Rattle.cert_kit.specs.declared.bounds.Bounds.{Bounds}
use Rattle.cert_kit.specs.Meaning.{own_bounds, no_bounds, product_bounds, sum_bounds, constant_bounds, are_within, product_row, sum_row, multiple_row, constant_row, at_least_0, equal_to_0}
use Rattle.cert_kit.specs.Acceptance.{with_row, ends_false, below_0, below_bounds, Range, range_of, values_of, value_row}

-- a row with its bounds
abbrev pub node_of : PRow → Bounds → Node
node_of r b = record { row = r; bounds = b }

abbrev pub bounds_of : Node → Bounds
bounds_of n = n.bounds

-- the bounds are tested where the rule gave a row
abbrev pub tested : PRow → Bounds → Result Node Fault
tested r b = if are_within b then Ok (node_of r b) else Err Bound

abbrev pub tested_rule : Option PRow → Bounds → Result Node Fault
tested_rule None b = Err Rule
tested_rule (Some r) b = tested r b

abbrev pub row_at : Option PRow → Result Node Fault
row_at None = Err Rule
row_at (Some r) = tested r (own_bounds r.poly)

abbrev pub Walk : Type 0
Walk = List PRow → Result Node Fault

abbrev pub walk_step : Psatz-F Walk → Walk
walk_step (Psatz-F.Hyp n) rows = row_at (slice_get rows n)
walk_step (Psatz-F.Square p) rows = tested (at_least_0 (times p p)) (product_bounds (own_bounds p) (own_bounds p))
walk_step (Psatz-F.MulPoly p e) rows = do
  a ← e rows
  tested_rule (multiple_row p a.row.op a.row.poly) (product_bounds (own_bounds p) (bounds_of a))
walk_step (Psatz-F.Mul e f) rows = do
  a ← e rows
  b ← f rows
  tested (product_row a.row b.row) (product_bounds (bounds_of a) (bounds_of b))
walk_step (Psatz-F.Add e f) rows = do
  a ← e rows
  b ← f rows
  tested (sum_row a.row b.row) (sum_bounds (bounds_of a) (bounds_of b))
walk_step (Psatz-F.Const c) rows = tested_rule (constant_row c) (constant_bounds c)
walk_step Psatz-F.Zero rows = tested (equal_to_0 []) no_bounds

-- the row that an expression means with its bounds, or its first fault
abbrev pub walk : Psatz → Walk
walk = fold-Psatz Walk walk_step

abbrev pub step_walk : Step → List PRow → Result PRow Fault
step_walk (Rat e) rows = do
  a ← walk e rows
  Ok a.row
step_walk (Cut e) rows = do
  a ← walk e rows
  Ok (cut_of a.row)

-- the rows after the steps, or the first fault of them
abbrev pub steps_walk : List Step → List PRow → Result (List PRow) Fault
steps_walk [] rows = Ok rows
steps_walk (s ∷ steps) rows = do
  r ← step_walk s rows
  steps_walk steps (with_row rows r)

abbrev pub Faulting : Type 0
Faulting = List PRow → Option Fault

-- the first of two faults
abbrev pub or_else : Option Fault → Option Fault → Option Fault
or_else (Some f) g = Some f
or_else None g = g

-- a fault that is there where a test fails
abbrev pub unless : Bool → Fault → Option Fault
unless true f = None
unless false f = Some f

abbrev pub first_of_all : List Term → ℤ → List Faulting → Faulting
first_of_all q v [] rows = None
first_of_all q v (c ∷ cs) rows = or_else (c (with_row rows (value_row q v))) (first_of_all q (v +ℤ pos 1) cs rows)

-- the fault that ended a walk, or that of what comes after it
abbrev pub after_walk : {A : Type 0} → Result A Fault → (A → Option Fault) → Option Fault
after_walk (Ok x) f = f x
after_walk (Err e) f = Some e

abbrev pub range_fault : List Faulting → List PRow → Option Range → Option Fault
range_fault cs rows None = Some Rule
range_fault cs rows (Some r) = or_else (unless (length cs == values_of r) Rule) (first_of_all r.poly r.low cs rows)

abbrev pub fault_close : Close-F Faulting Faulting → Faulting
fault_close Close-F.Done rows = unless (ends_false rows) Rule
fault_close (Close-F.Split p c d) rows = or_else (unless (are_within (own_bounds p) && are_within (below_bounds p)) Bound)
    (or_else (c (with_row rows (at_least_0 p))) (d (with_row rows (at_least_0 (below_0 p)))))
fault_close (Close-F.Enum b cs) rows = after_walk (walk b.lower rows) (λ l. after_walk (walk b.upper rows) (λ u. range_fault cs rows (range_of l.row u.row)))

abbrev pub fault_cert : Cert-F Faulting Faulting → Faulting
fault_cert c rows = after_walk (steps_walk c.steps rows) c.close

-- the first fault of a certificate over the rows, where it has one
abbrev pub first_fault : Cert → Faulting
first_fault = fold-Cert Faulting Faulting fault_close fault_cert
