-- How a report's reader goes on after a line.
use Rattle.std.specs.Prelude.{◌≢◌, ℕ, zero, suc, ◌+◌, ◌-◌, nat_lt, List, ◌++◌, Option, Some, None, if◌then◌else◌}
use Rattle.std.specs.Option.{option_map}
use Rattle.goal_ast.specs.declared.goal.Bound.{Bound}
use Rattle.goal_ast.specs.declared.goal.Mode.{Mode}
use Rattle.goal_serve.specs.Line.{Session, Asked, Cache}
use Rattle.report_text.specs.declared.call.Call.TheVariants.{Find, Store}
use Rattle.report_text.specs.declared.lines.Line.{Line}
use Rattle.report_text.specs.declared.lines.Line.TheVariants as lines
use Rattle.report_text.specs.declared.progress.Due.{Due}
use Rattle.report_text.specs.declared.progress.Due.TheVariants as dues
use Rattle.report_text.specs.declared.progress.Progress.{Progress}
use Rattle.report_text.specs.Line.{ReportLine, Plain, IsReportLine, report_line}
use Rattle.report_text.specs.Fitting.{Reading, Fits}
use Rattle.report_text.specs.Progress.{ReadsNext}

-- the same, where something else may come next
abbrev pub with_due : Progress → Due → Progress
with_due p due = record p { due = due }

-- a line that was read, and what may come next after it
abbrev pub moved_by : Progress → (Line → Due) → Option (Line × List ℕ) → Option (Line × List ℕ × Progress)
moved_by p due_of found = option_map (λ (x : Line × List ℕ). (x.0, x.1, with_due p (due_of x.0))) found

-- so many clauses from the first on
abbrev pub first_clause : ℕ → Due
first_clause zero = dues.Between
first_clause (suc last) = dues.Clause 0 last

abbrev pub answer_due : Line → Due
answer_due (lines.Proved n) = first_clause n
answer_due lines.Refuted = dues.Value 0
answer_due line = dues.Between

-- the clauses after this one
abbrev pub next_clause : ℕ → ℕ → Due
next_clause number last = if nat_lt number last then dues.Clause (number + 1) last else dues.Between

abbrev pub call_due : Mode → ℕ → Line → Due
call_due mode stores (lines.Cache other opened stored saved) = dues.Call other stored
call_due mode stores (lines.Called (Find session goal clause front hit)) = dues.Call mode stores
call_due mode stores (lines.Called (Store session goal clause place)) = dues.Call mode (stores - 1)
call_due mode stores line = dues.Nothing

abbrev pub asked_due : Line → Due
asked_due (lines.Asked n mode (Some goal)) = dues.Answer
asked_due line = dues.Place

-- ---- kinds of lines that may come between goals

abbrev pub IsSessionKind : ReportLine → Type 0
IsSessionKind (Plain (Session n name)) = Unit {0}
IsSessionKind line = ⊥

abbrev pub IsAskedKind : ReportLine → Type 0
IsAskedKind (Plain (Asked n mode goal)) = Unit {0}
IsAskedKind line = ⊥

-- the line of this kind that fits here at the front of the bytes, or none where no such line stands there
abbrev pub FindsKind : (ReportLine → Type 0) → Reading → List Bound → List ℕ → Option (Line × List ℕ × Progress) → Type 0
FindsKind IsIt r vars bytes None = (line : ReportLine) (rest : List ℕ) → IsReportLine line → Fits r line → IsIt line → bytes ≢ report_line line ++ rest
FindsKind IsIt r vars bytes (Some x) = ReadsNext r vars bytes x.0 x.1 x.2

abbrev pub IsCacheKind : ReportLine → Type 0
IsCacheKind (Plain (Cache mode opened stored saved)) = Unit {0}
IsCacheKind line = ⊥
