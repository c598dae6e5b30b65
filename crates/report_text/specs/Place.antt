-- Where bytes that are no report go wrong: at the first line that doesn't fit.
use Rattle.std.specs.Prelude.{◌≡◌, ◌≢◌, ℕ, List, [], ◌++◌, length}
use Rattle.report_text.specs.Line.{ReportLine, IsReportLine, report_line, report_lines_text}
use Rattle.report_text.specs.Fitting.{Reading, Over, Fits, begin, reached, AreLines}
use Rattle.report_text.specs.Report.{Report, IsReport, report_text}

-- the bytes are no report
abbrev pub IsNoReport : List ℕ → Type 0
IsNoReport bytes = (r : Report) → IsReport r → bytes ≢ report_text r

-- a line that fits here stands at the front of the bytes
pub record BeginsLine (r : Reading) (bytes : List ℕ) : Type 0 where
  pub line : ReportLine
  pub rest : List ℕ
  pub within : IsReportLine line
  pub fits : Fits r line
  pub split : bytes ≡ report_line line ++ rest

-- where two lines fit, at most one of them stands at the front of the same bytes, and so what follows it is the same
abbrev pub IsAlone : Type 0
IsAlone = (r : Reading) (line other : ReportLine) (rest more : List ℕ) → IsReportLine line → IsReportLine other → Fits r line → Fits r other
    → report_line line ++ rest ≡ report_line other ++ more → (line ≡ other) × (rest ≡ more)

-- after lines that fit no other fits, and bytes are left or the last line isn't there
pub record LinesEnd (bytes : List ℕ) (at : ℕ) : Type 0 where
  pub lines : List ReportLine
  pub rest : List ℕ
  pub split : bytes ≡ report_lines_text lines ++ rest
  pub are : AreLines lines
  pub no_line : BeginsLine (reached begin lines) rest → ⊥
  pub unended : (reached begin lines).expect ≡ Over → rest ≢ []
  pub place : at ≡ length (report_lines_text lines)

-- lines that fit stand in front of the rest of the bytes, and lead so far
pub record IsReadTo (bytes rest : List ℕ) (r : Reading) : Type 0 where
  pub lines : List ReportLine
  pub are : AreLines lines
  pub split : bytes ≡ report_lines_text lines ++ rest
  pub to : reached begin lines ≡ r
