-- A line as it is read.
use Rattle.goal_serve.specs.Line.{Begin, Session, Asked, Proved, Clause, Row, Certificate, Refuted, Value, Unsettled, Oversize, IllSorted, Cache, End}
use Rattle.report_text.specs.declared.lines.Line.{Line}
use Rattle.report_text.specs.declared.lines.Line.TheVariants as lines
use Rattle.report_text.specs.Line.{ReportLine, Plain, Called}

-- a line as it is read; a value stands without its variable
abbrev pub line_of : ReportLine → Line
line_of (Plain Begin) = lines.Begin
line_of (Plain (Session n name)) = lines.Session n name
line_of (Plain (Asked n mode goal)) = lines.Asked n mode goal
line_of (Plain (Proved n)) = lines.Proved n
line_of (Plain (Clause n name origin)) = lines.Clause n name origin
line_of (Plain (Row row)) = lines.Row row
line_of (Plain (Certificate cert)) = lines.Certificate cert
line_of (Plain Refuted) = lines.Refuted
line_of (Plain (Value bound z)) = lines.Value z
line_of (Plain (Unsettled n why)) = lines.Unsettled n why
line_of (Plain (Oversize kind)) = lines.Oversize kind
line_of (Plain (IllSorted at)) = lines.IllSorted at
line_of (Plain (Cache mode opened stored saved)) = lines.Cache mode opened stored saved
line_of (Plain End) = lines.End
line_of (Called call) = lines.Called call
