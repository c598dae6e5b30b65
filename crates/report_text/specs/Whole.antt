-- Where bytes go wrong, if they are no report.
use Rattle.std.specs.Prelude.{◌≡◌, ℕ, List, [], Option, Some, None}
use Rattle.goal_ast.specs.declared.goal.Bound.{Bound}
use Rattle.goal_ast.specs.declared.goal.Goal.{Goal}
use Rattle.report_text.specs.Report.{Report, IsReport, report_text}
use Rattle.report_text.specs.Place.{IsNoReport, LinesEnd}

-- the place where the bytes go wrong, or none where they are a report
abbrev pub WrongAt : List ℕ → Option ℕ → Type 0
WrongAt bytes None = (r : Report) × IsReport r × (bytes ≡ report_text r)
WrongAt bytes (Some at) = LinesEnd bytes at × IsNoReport bytes

-- the variables of a goal, if there is one
abbrev pub vars_in : Option Goal → List Bound
vars_in None = []
vars_in (Some goal) = goal.vars
