-- Which line of a report fits after which.
use Rattle.std.specs.Prelude.{◌≡◌, ℕ, zero, suc, ◌+◌, ◌<◌, ◌≤◌, ◌^◌, List, [], ◌∷◌, Option, Some, None}
use Rattle.std.specs.List.{AllByRecursion}
use Rattle.goal_ast.specs.declared.goal.Bound.{Bound}
use Rattle.goal_ast.specs.declared.goal.Goal.{Goal}
use Rattle.goal_ast.specs.declared.goal.Mode.{Mode}
use Rattle.goal_ast.specs.declared.goal.Mode.TheVariants.{Lia, Nia}
use Rattle.goal_serve.specs.Line.{Line, Begin, Session, Asked, Proved, Clause, Row, Certificate, Refuted, Value, Unsettled, Oversize, IllSorted, Cache, End}
use Rattle.report_text.specs.declared.call.Call.{Call}
use Rattle.report_text.specs.declared.call.Call.TheVariants.{Find, Store}
use Rattle.report_text.specs.Line.{ReportLine, Plain, Called, IsReportLine}

-- what may come next
pub data Expect : Type 0 where
  -- the first line
  AtFirst : Expect
  -- a session, a goal of the session, or the first cache
  Between : Expect
  -- what is said of a goal with these variables
  AtAnswer : List Bound → Expect
  -- the place where a goal has no sorts
  AtPlace : Expect
  -- the value of a variable, and then those of others
  AtValue : Bound → List Bound → Expect
  -- a clause of this number, and then so many others
  AtClause : ℕ → ℕ → Expect
  -- a row or the certificate of the clause of this number, after so many rows, and then so many other clauses
  AtRow : ℕ → ℕ → ℕ → Expect
  -- a call of the cache, of which so many still store; where there are none, also the next cache or the end
  AtCall : Mode → ℕ → Expect
  -- nothing
  Over : Expect

-- what was read: how many sessions, how many goals in all, how many of them in the last session, and what comes next
pub record Reading : Type 0 where
  pub sessions : ℕ
  pub goals : ℕ
  pub here : ℕ
  pub expect : Expect

abbrev pub begin : Reading
begin = record { sessions = 0; goals = 0; here = 0; expect = AtFirst }

-- ---- which line fits

abbrev pub FitsBetween : Reading → Line → Type 0
FitsBetween r (Session n name) = (n ≡ r.sessions) × (n < 64)
FitsBetween r (Asked n mode goal) = (n ≡ r.here) × (1 ≤ r.sessions) × (r.goals < 1024)
FitsBetween r (Cache mode opened stored saved) = mode ≡ Lia
FitsBetween r line = ⊥

abbrev pub FitsAnswer : Line → Type 0
FitsAnswer (Proved n) = Unit {0}
FitsAnswer Refuted = Unit {0}
FitsAnswer (Unsettled n why) = Unit {0}
FitsAnswer (Oversize kind) = Unit {0}
FitsAnswer line = ⊥

abbrev pub FitsRow : ℕ → Line → Type 0
FitsRow rows (Row row) = rows + 1 < 2 ^ 32
FitsRow rows (Certificate cert) = Unit {0}
FitsRow rows line = ⊥

-- where no call has to come any more
abbrev pub FitsCalled : Mode → Line → Type 0
FitsCalled Lia (Cache mode opened stored saved) = mode ≡ Nia
FitsCalled Nia End = Unit {0}
FitsCalled mode line = ⊥

abbrev pub FitsPlain : Reading → Expect → Line → Type 0
FitsPlain r AtFirst line = line ≡ Begin
FitsPlain r Between line = FitsBetween r line
FitsPlain r (AtAnswer vars) line = FitsAnswer line
FitsPlain r AtPlace line = (at : ℕ) × (line ≡ IllSorted at)
FitsPlain r (AtValue bound others) (Value b z) = b ≡ bound
FitsPlain r (AtClause k others) (Clause n name origin) = n ≡ k
FitsPlain r (AtRow k rows others) line = FitsRow rows line
FitsPlain r (AtCall mode zero) line = FitsCalled mode line
FitsPlain r expect line = ⊥

abbrev pub FitsCall : Expect → Call → Type 0
FitsCall (AtCall mode stores) (Find session goal clause front hit) = Unit {0}
FitsCall (AtCall mode (suc stores)) (Store session goal clause place) = Unit {0}
FitsCall expect call = ⊥

-- the line fits here
abbrev pub Fits : Reading → ReportLine → Type 0
Fits r (Plain line) = FitsPlain r r.expect line
Fits r (Called call) = FitsCall r.expect call

-- ---- what comes after a line that fits

abbrev pub with_expect : Reading → Expect → Reading
with_expect r expect = record r { expect = expect }

-- clauses from this number on, so many
abbrev pub at_clauses : ℕ → ℕ → Expect
at_clauses k zero = Between
at_clauses k (suc others) = AtClause k others

abbrev pub at_values : List Bound → Expect
at_values [] = Between
at_values (bound ∷ others) = AtValue bound others

-- what is said of a goal, or the place where it has no sorts
abbrev pub at_reply : Option Goal → Expect
at_reply None = AtPlace
at_reply (Some goal) = AtAnswer goal.vars

-- what comes after a line between goals
abbrev pub after_between : Reading → Line → Reading
after_between r (Session n name) = record { sessions = r.sessions + 1; goals = r.goals; here = 0; expect = Between }
after_between r (Asked n mode goal) = record { sessions = r.sessions; goals = r.goals + 1; here = r.here + 1; expect = at_reply goal }
after_between r (Cache mode opened stored saved) = with_expect r (AtCall mode stored)
after_between r line = r

abbrev pub after_answer : List Bound → Line → Expect
after_answer vars (Proved n) = at_clauses 0 n
after_answer vars Refuted = at_values vars
after_answer vars line = Between

abbrev pub after_row : ℕ → ℕ → ℕ → Line → Expect
after_row k rows others (Certificate cert) = at_clauses (k + 1) others
after_row k rows others line = AtRow k (rows + 1) others

abbrev pub after_called : Line → Expect
after_called (Cache mode opened stored saved) = AtCall mode stored
after_called line = Over

abbrev pub after_plain : Reading → Expect → Line → Reading
after_plain r Between line = after_between r line
after_plain r AtFirst line = with_expect r Between
after_plain r (AtAnswer vars) line = with_expect r (after_answer vars line)
after_plain r AtPlace line = with_expect r Between
after_plain r (AtValue bound others) line = with_expect r (at_values others)
after_plain r (AtClause k others) line = with_expect r (AtRow k 0 others)
after_plain r (AtRow k rows others) line = with_expect r (after_row k rows others line)
after_plain r (AtCall mode stores) line = with_expect r (after_called line)
after_plain r Over line = r

-- one store fewer is to come
abbrev pub after_call : Expect → Call → Expect
after_call (AtCall mode stores) (Find session goal clause front hit) = AtCall mode stores
after_call (AtCall mode (suc stores)) (Store session goal clause place) = AtCall mode stores
after_call expect call = expect

abbrev pub next : Reading → ReportLine → Reading
next r (Plain line) = after_plain r r.expect line
next r (Called call) = with_expect r (after_call r.expect call)

-- ---- lines one after the other

-- each fits after those before it
abbrev pub Fit : Reading → List ReportLine → Type 0
Fit r [] = Unit {0}
Fit r (line ∷ lines) = Fits r line × Fit (next r line) lines

abbrev pub reached : Reading → List ReportLine → Reading
reached r [] = r
reached r (line ∷ lines) = reached (next r line) lines

-- lines within the limits, each of which fits after those before it
pub record AreLines (lines : List ReportLine) : Type 0 where
  pub within : AllByRecursion IsReportLine lines
  pub fit : Fit begin lines

-- all lines of a report
pub record AllFit (lines : List ReportLine) : Type 0 where
  pub are : AreLines lines
  pub over : (reached begin lines).expect ≡ Over
