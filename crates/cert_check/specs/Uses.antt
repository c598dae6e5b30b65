-- Which rows the parts of a certificate name, and until when the rows are used that its steps append.
--
-- These rows have the numbers from `first` on, in order. The step at place t uses rows at time t, and the close with all
-- its members at the time that is the number of steps.
use Rattle.std.specs.Prelude.{◌≡◌, ℕ, zero, suc, ◌-◌, ◌≤◌, max, List, [], ◌∷◌, ◌++◌, length, Bool, true, false, nat_le, nat_lt, ◌&&◌, Option, Some, None, Result, Ok, Err, slice_get, if◌then◌else◌}
use Rattle.std.specs.List.{AllByRecursion}
use Rattle.cert_kit.specs.declared.node.Fault.{Fault}
use Rattle.cert_kit.specs.declared.row.PRow.{PRow}
use Rattle.cert_kit.specs.declared.cert.Step.{Step}
use Rattle.cert_kit.specs.declared.cert.Step.TheVariants.{Rat, Cut}
use Rattle.cert_kit.specs.declared.cert.Cert.{Cert}
use Rattle.cert_kit.specs.declared.cert.Close.{Close}
use Rattle.cert_kit.specs.declared.cert.Close.TheOpen.{Close-F, Cert-F}
use Rattle.cert_kit.specs.declared.cert.Close.TheFolds.{fold-Close, fold-Cert}
use Rattle.cert_kit.specs.Making.{numbers_of}
use Rattle.cert_kit.specs.Acceptance.{with_row}
use Rattle.cert_kit.specs.FirstFault.{steps_walk, after_walk}
use Rattle.cert_check.specs.declared.fail.CheckFail.{CheckFail}
use Rattle.cert_check.specs.Checking.{close_fault, Fails, IsFault}

-- ---- the numbers of the rows that are named

abbrev pub step_numbers : Step → List ℕ
step_numbers (Rat e) = numbers_of e
step_numbers (Cut e) = numbers_of e

abbrev pub steps_numbers : List Step → List ℕ
steps_numbers [] = []
steps_numbers (s ∷ steps) = step_numbers s ++ steps_numbers steps

abbrev pub all_numbers : List (List ℕ) → List ℕ
all_numbers [] = []
all_numbers (ns ∷ others) = ns ++ all_numbers others

abbrev pub close_numbers_level : Close-F (List ℕ) (List ℕ) → List ℕ
close_numbers_level Close-F.Done = []
close_numbers_level (Close-F.Split p c d) = c ++ d
close_numbers_level (Close-F.Enum b cs) = (numbers_of b.lower ++ numbers_of b.upper) ++ all_numbers cs

abbrev pub cert_numbers_level : Cert-F (List ℕ) (List ℕ) → List ℕ
cert_numbers_level c = steps_numbers c.steps ++ c.close

abbrev pub close_numbers : Close → List ℕ
close_numbers = fold-Close (List ℕ) (List ℕ) close_numbers_level cert_numbers_level

abbrev pub cert_numbers : Cert → List ℕ
cert_numbers = fold-Cert (List ℕ) (List ℕ) close_numbers_level cert_numbers_level

-- ---- the times of the last uses

-- the time at a place, made no less than this one
abbrev pub raised : ℕ → ℕ → List ℕ → List ℕ
raised time i [] = []
raised time zero (x ∷ times) = max x time ∷ times
raised time (suc i) (x ∷ times) = x ∷ raised time i times

abbrev pub noted_row : ℕ → ℕ → ℕ → List ℕ → List ℕ
noted_row first time n times = if nat_le first n then raised time (n - first) times else times

-- the times after these rows were used at this one
abbrev pub noted : ℕ → ℕ → List ℕ → List ℕ → List ℕ
noted first time [] times = times
noted first time (n ∷ ns) times = noted first time ns (noted_row first time n times)

-- the times after steps from this time on
abbrev pub steps_noted : ℕ → ℕ → List Step → List ℕ → List ℕ
steps_noted first time [] times = times
steps_noted first time (s ∷ steps) times = steps_noted first (suc time) steps (noted first time (step_numbers s) times)

-- whether what stands at a place is no time before this one; nothing stands past the end
abbrev pub reaches : ℕ → Option ℕ → Bool
reaches time None = true
reaches time (Some last) = nat_le time last

-- a row of the steps is used until this time or longer
abbrev pub IsReached : ℕ → List ℕ → ℕ → ℕ → Type 0
IsReached first times time n = first ≤ n → reaches time (slice_get times (n - first)) ≡ true

abbrev pub AreReached : ℕ → List ℕ → ℕ → List ℕ → Type 0
AreReached first times time ns = AllByRecursion (IsReached first times time) ns

-- the rows that steps from this time on name
abbrev pub StepsReached : ℕ → List ℕ → ℕ → List Step → Type 0
StepsReached first times time [] = Unit {0}
StepsReached first times time (s ∷ steps) = AreReached first times time (step_numbers s) × StepsReached first times (suc time) steps

-- no step and no close names a row after the time of its last use
pub record KnowsUses (first : ℕ) (times : List ℕ) (steps : List Step) (close : Close) : Type 0 where
  pub by_steps : StepsReached first times 0 steps
  pub by_close : AreReached first times (length steps) (close_numbers close)

-- ---- rows that are let go

abbrev pub is_over : ℕ → Option ℕ → Bool
is_over time None = false
is_over time (Some last) = nat_le last time

-- whether a row of a step before this time is used after it no more
abbrev pub is_idle : ℕ → List ℕ → ℕ → ℕ → Bool
is_idle first times time n = nat_le first n && (nat_lt (n - first) time && is_over time (slice_get times (n - first)))

-- the same rows but for one
pub record SameBut (n : ℕ) (old new : List PRow) : Type 0 where
  pub len : length new ≡ length old
  pub others : (m : ℕ) → (m ≡ n → ⊥) → slice_get new m ≡ slice_get old m

-- only rows that are used no more may differ
pub record LetsGo (first : ℕ) (times : List ℕ) (time : ℕ) (old new : List PRow) : Type 0 where
  pub len : length new ≡ length old
  pub kept : (m : ℕ) → is_idle first times time m ≡ false → slice_get new m ≡ slice_get old m

-- a step appended the row that its walk gives, or failed as the walk does
abbrev pub Steps : {A : Type 0} → Result A CheckFail → List PRow → List PRow → Result PRow Fault → Type 0
Steps (Ok x) old new walk = (r : PRow) × (walk ≡ Ok r) × (new ≡ with_row old r)
Steps (Err e) old new walk = Fails e walk

-- the first fault of steps and a close
abbrev pub rest_fault : List Step → Close → List PRow → Option Fault
rest_fault steps close rows = after_walk (steps_walk steps rows) (close_fault close)

-- what is left to be found is all that is to be found, or a function failed as that says
abbrev pub Leaves : {A : Type 0} → Result A CheckFail → Option Fault → Option Fault → Type 0
Leaves (Ok x) left whole = left ≡ whole
Leaves (Err e) left whole = IsFault e whole
