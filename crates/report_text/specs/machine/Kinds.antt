-- Kinds of lines, and what is read of them in parts.
use Rattle.std.specs.Prelude.{◌≡◌, ◌≢◌, ℕ, List, ◌++◌, Option, Some, None, codes}
use Rattle.goal_ast.specs.declared.goal.Name.{Name}
use Rattle.goal_token.specs.Spacing.{IsName}
use Rattle.goal_serve.specs.Line.{Session, Asked, Row, Certificate}
use Rattle.report_text.specs.Line.{ReportLine, Plain}

-- the line of the session of this number
abbrev pub IsSessionLine : ℕ → ReportLine → Type 0
IsSessionLine n (Plain (Session m name)) = m ≡ n
IsSessionLine n line = ⊥

-- the line of the goal of this number
abbrev pub IsAskedLine : ℕ → ReportLine → Type 0
IsAskedLine n (Plain (Asked m mode goal)) = m ≡ n
IsAskedLine n line = ⊥

abbrev pub IsRowLine : ReportLine → Type 0
IsRowLine (Plain (Row row)) = Unit {0}
IsRowLine line = ⊥

abbrev pub IsCertLine : ReportLine → Type 0
IsCertLine (Plain (Certificate cert)) = Unit {0}
IsCertLine line = ⊥

-- a name up to the end of the line, and what follows it, or none where no name stands there
abbrev pub ReadsNamed : List ℕ → Option (Name × List ℕ) → Type 0
ReadsNamed bytes None = (name : Name) (rest : List ℕ) → IsName name.bytes → bytes ≢ (name.bytes ++ codes "\n") ++ rest
ReadsNamed bytes (Some x) = IsName x.0.bytes × (bytes ≡ (x.0.bytes ++ codes "\n") ++ x.1)
