-- What the parts of the checker give, in the words of the first fault.
use Rattle.std.specs.Prelude.{◌≡◌, Result, Ok, Err, Option, Some, None, List}
use Rattle.mm_num.specs.Result.{◌>>=◌}
use Rattle.cert_kit.specs.declared.node.Fault.{Fault}
use Rattle.cert_kit.specs.declared.node.Fault.TheVariants.{Rule, Bound}
use Rattle.cert_kit.specs.declared.node.Node.{Node}
use Rattle.cert_kit.specs.declared.row.PRow.{PRow}
use Rattle.cert_kit.specs.declared.cert.Close.{Close}
use Rattle.cert_kit.specs.declared.cert.Close.TheFolds.{fold-Close}
use Rattle.cert_kit.specs.declared.bounds.Bounds.{Bounds}
use Rattle.cert_kit.specs.Acceptance.{Range, range_of}
use Rattle.cert_kit.specs.FirstFault.{Faulting, range_fault, fault_close, fault_cert, bounds_of}
use Rattle.cert_check.specs.Room.{Covers}
use Rattle.cert_check.specs.declared.fail.CheckFail.{CheckFail}
use Rattle.cert_check.specs.declared.fail.CheckFail.TheVariants.{Wrong, NoMemory}

-- a failure is the fault of the walk, or want of memory
abbrev pub Fails : {A : Type 0} → CheckFail → Result A Fault → Type 0
Fails (Wrong f) r = r ≡ Err f
Fails NoMemory r = Unit {0}

-- what a function returned is what the walk gives, unless memory ran out
abbrev pub Gives : {A : Type 0} → Result A CheckFail → Result A Fault → Type 0
Gives (Ok x) r = r ≡ Ok x
Gives (Err e) r = Fails e r

-- the rows are those that the walk ends with, or a function failed as the walk does
abbrev pub EndsWith : {A : Type 0} → Result A CheckFail → List PRow → Result (List PRow) Fault → Type 0
EndsWith (Ok x) rows r = r ≡ Ok rows
EndsWith (Err e) rows r = Fails e r

abbrev pub IsFault : CheckFail → Option Fault → Type 0
IsFault (Wrong f) o = o ≡ Some f
IsFault NoMemory o = Unit {0}

-- a function returned where there is no fault, and failed with the one that is there, unless memory ran out
abbrev pub Finds : {A : Type 0} → Result A CheckFail → Option Fault → Type 0
Finds (Ok x) o = o ≡ None
Finds (Err e) o = IsFault e o

-- bounds, or the fault that they pass the limits
abbrev pub bounded : Option Bounds → Result Bounds Fault
bounded None = Err Bound
bounded (Some b) = Ok b

-- the bounds of a node cover its row
abbrev pub CoversRow : Node → Type 0
CoversRow n = Covers (bounds_of n) n.row.poly

-- the range of two rows, where they give one
abbrev pub expected : Option Range → Result Range Fault
expected None = Err Rule
expected (Some r) = Ok r

-- the range of what two walks give
abbrev pub walked_range : Result Node Fault → Result Node Fault → Result Range Fault
walked_range v w = do
  a ← v
  b ← w
  expected (range_of a.row b.row)

-- the first fault of a close
abbrev pub close_fault : Close → Faulting
close_fault = fold-Close Faulting Faulting fault_close fault_cert

-- the first fault of the members of a range
abbrev pub members_fault : List Faulting → List PRow → Range → Option Fault
members_fault cs rows r = range_fault cs rows (Some r)
