-- The lines of a report.
use Rattle.std.specs.Prelude.{ℕ, ℤ, List, ◌++◌, Option, Some, None, codes, decimal}
use Rattle.std.specs.List.{flat_map}
use Rattle.cert_kit.specs.declared.row.PRow.{PRow}
use Rattle.cert_kit.specs.declared.cert.Cert.{Cert}
use Rattle.cert_text.specs.Text.{row_line, cert_line}
use Rattle.clause_engine.specs.declared.outcome.Why.{Why}
use Rattle.clause_engine.specs.declared.outcome.Why.TheVariants as whys
use Rattle.goal_ast.specs.declared.goal.Bound.{Bound}
use Rattle.goal_ast.specs.declared.goal.Goal.{Goal}
use Rattle.goal_ast.specs.declared.goal.Mode.{Mode}
use Rattle.goal_ast.specs.declared.goal.Name.{Name}
use Rattle.goal_print.specs.ReadsBack.{mode_text}
use Rattle.goal_print.specs.Text.{goal_text, line_text as value_line}
use Rattle.goal_serve.specs.declared.answers.Kind.{Kind}
use Rattle.goal_serve.specs.declared.answers.Kind.TheVariants as kinds
use Rattle.goal_serve.specs.declared.answers.Origin.{Origin}
use Rattle.goal_serve.specs.declared.answers.Origin.TheVariants as origins

pub data Line : Type 0 where
  -- the first line
  Begin : Line
  -- a session: its number and name
  Session : ℕ → Name → Line
  -- a goal: its number and mode, and the goal itself where it has sorts
  Asked : ℕ → Mode → Option Goal → Line
  -- so many clauses follow
  Proved : ℕ → Line
  -- a clause: its number, the name of its key, and where its certificate comes from
  Clause : ℕ → List ℕ → Origin → Line
  Row : PRow → Line
  Certificate : Cert → Line
  -- the assignment follows
  Refuted : Line
  -- a variable and its value
  Value : Bound → ℤ → Line
  Unsettled : ℕ → Why → Line
  Oversize : Kind → Line
  IllSorted : ℕ → Line
  -- a cache: how many entries it was opened with, how many were stored, and how many are saved
  Cache : Mode → ℕ → ℕ → ℕ → Line
  -- the last line
  End : Line

-- where a certificate comes from
abbrev pub origin_text : Origin → List ℕ
origin_text origins.New = codes "new"

abbrev pub why_text : Why → List ℕ
why_text whys.Grey = codes "grey"
why_text whys.Over = codes "over"

abbrev pub kind_text : Kind → List ℕ
kind_text kinds.Weight = codes "weight"
kind_text kinds.Spread = codes "spread"
kind_text kinds.Degree = codes "degree"
kind_text (kinds.Splits n) = codes "splits " ++ decimal n

-- a goal's text between a blank and a dot, where it has one
abbrev pub asked_text : Option Goal → List ℕ
asked_text None = codes "\n"
asked_text (Some goal) = codes " " ++ (goal_text goal ++ codes ".\n")

-- a word between blanks, and a number
abbrev pub counted : List ℕ → ℕ → List ℕ
counted word n = codes " " ++ (word ++ (codes " " ++ decimal n))

-- a line's bytes, with its line feed
abbrev pub line_text : Line → List ℕ
line_text Begin = codes "mm report 1\n"
line_text (Session n name) = codes "session " ++ (decimal n ++ (codes " " ++ (name.bytes ++ codes "\n")))
line_text (Asked n mode goal) = codes "goal " ++ (decimal n ++ (codes " " ++ (mode_text mode ++ asked_text goal)))
line_text (Proved n) = codes "proved " ++ (decimal n ++ codes "\n")
line_text (Clause n name origin) = codes "clause " ++ (decimal n ++ (codes " " ++ (name ++ (codes " " ++ (origin_text origin ++ codes "\n")))))
line_text (Row row) = row_line row
line_text (Certificate cert) = cert_line cert
line_text Refuted = codes "refuted\n"
line_text (Value bound value) = value_line bound value
line_text (Unsettled n why) = codes "unsettled " ++ (decimal n ++ (codes " " ++ (why_text why ++ codes "\n")))
line_text (Oversize kind) = codes "oversize " ++ (kind_text kind ++ codes "\n")
line_text (IllSorted at) = codes "ill-sorted " ++ (decimal at ++ codes "\n")
line_text (Cache mode opened stored saved) = codes "cache " ++ (mode_text mode ++ (counted (codes "opened") opened ++ (counted (codes "stored") stored ++ (counted (codes "saved") saved ++ codes "\n"))))
line_text End = codes "end\n"

-- the lines, one after the other
abbrev pub lines_text : List Line → List ℕ
lines_text = flat_map line_text
