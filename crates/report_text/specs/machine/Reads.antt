-- A line of some kind at the front of bytes.
use Rattle.std.specs.Prelude.{◌≡◌, ◌≢◌, ℕ, List, ◌++◌, Option, Some, None}
use Rattle.report_text.specs.declared.lines.Line.{Line}
use Rattle.report_text.specs.Line.{ReportLine, IsReportLine, report_line}
use Rattle.report_text.specs.LineRead.{line_of}

-- a line of this kind stands at the front of the bytes, and what follows it
pub record ReadsLine (IsIt : ReportLine → Type 0) (bytes : List ℕ) (read : Line) (rest : List ℕ) : Type 0 where
  pub line : ReportLine
  pub is_read : read ≡ line_of line
  pub within : IsReportLine line
  pub is : IsIt line
  pub split : bytes ≡ report_line line ++ rest

-- the line of this kind at the front of the bytes, and what follows it, or none where no such line stands there
abbrev pub Reads : (ReportLine → Type 0) → List ℕ → Option (Line × List ℕ) → Type 0
Reads IsIt bytes None = (line : ReportLine) (rest : List ℕ) → IsReportLine line → IsIt line → bytes ≢ report_line line ++ rest
Reads IsIt bytes (Some x) = ReadsLine IsIt bytes x.0 x.1
