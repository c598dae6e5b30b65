-- How far a report is read, as its reader keeps it.
use Rattle.std.specs.Prelude.{◌≡◌, ◌≢◌, ℕ, ◌-◌, List, ◌++◌, drop, Option, Some, None}
use Rattle.goal_ast.specs.declared.goal.Bound.{Bound}
use Rattle.report_text.specs.declared.lines.Line.{Line}
use Rattle.report_text.specs.declared.lines.Line.TheVariants as lines
use Rattle.report_text.specs.declared.progress.Due.{Due}
use Rattle.report_text.specs.declared.progress.Due.TheVariants as dues
use Rattle.report_text.specs.declared.progress.Progress.{Progress}
use Rattle.report_text.specs.Line.{ReportLine, IsReportLine, report_line}
use Rattle.report_text.specs.Fitting.{Expect, AtFirst, Between, AtAnswer, AtPlace, AtClause, AtRow, AtCall, Over, at_values, Reading, Fits, next}
use Rattle.report_text.specs.LineRead.{line_of}

-- what may come next, where the goal has these variables
abbrev pub expect_of : List Bound → Due → Expect
expect_of vars dues.Begin = AtFirst
expect_of vars dues.Between = Between
expect_of vars dues.Answer = AtAnswer vars
expect_of vars dues.Place = AtPlace
expect_of vars (dues.Value k) = at_values (drop k vars)
expect_of vars (dues.Clause number last) = AtClause number (last - number)
expect_of vars (dues.Row number rows last) = AtRow number rows (last - number)
expect_of vars (dues.Call mode stores) = AtCall mode stores
expect_of vars dues.Nothing = Over

-- how far a report is read, where this may come next
abbrev pub reading_at : Progress → Expect → Reading
reading_at p e = record { sessions = p.sessions; goals = p.goals; here = p.here; expect = e }

-- how far a report is read, where the goal has these variables
abbrev pub reading_of : List Bound → Progress → Reading
reading_of vars p = reading_at p (expect_of vars p.due)

-- the variables after a line that was read: those of its goal, if it has one
abbrev pub vars_after : List Bound → Line → List Bound
vars_after vars (lines.Asked n mode (Some goal)) = goal.vars
vars_after vars read = vars

-- a line that fits here stands at the front of the bytes: the line as it is read, what follows it, and how far the report
-- is read after it
pub record ReadsNext (r : Reading) (vars : List Bound) (bytes : List ℕ) (read : Line) (rest : List ℕ) (after : Progress) : Type 0 where
  pub line : ReportLine
  pub is_read : read ≡ line_of line
  pub within : IsReportLine line
  pub fits : Fits r line
  pub split : bytes ≡ report_line line ++ rest
  pub reached : reading_of (vars_after vars read) after ≡ next r line

-- the line that fits here at the front of the bytes, or none where no such line stands there
abbrev pub FindsNext : Reading → List Bound → List ℕ → Option (Line × List ℕ × Progress) → Type 0
FindsNext r vars bytes None = (line : ReportLine) (rest : List ℕ) → IsReportLine line → Fits r line → bytes ≢ report_line line ++ rest
FindsNext r vars bytes (Some x) = ReadsNext r vars bytes x.0 x.1 x.2
