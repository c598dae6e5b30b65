use Rattle.std.proofs.Common.{◌≤◌, length}
use Rattle.std.specs.Prelude.{IfSome}
use Rattle.goal_ast.specs.Sorted.{IsWellFormed}
use Rattle.report_text.specs.Progress.{reading_of}
use Rattle.report_text.specs.Whole.{vars_in}
use Rattle.report_check.proofs.LineLaws.{IsJudgedTo}
use Rattle.report_check.proofs.checking.recheck.Given as goal

-- lines that fit stand in front of the rest, and their goals are judged
abbrev pub invariant-lines : goal.invariant-lines
invariant-lines l = record {
  so_far : IsJudgedTo l.bytes l.rest (reading_of (vars_in l.goal) l.progress) l.goal l.place l.judged;
  formed : IfSome l.goal IsWellFormed;
  counted : l.progress.here ≤ l.progress.goals;
}

abbrev pub decreases-lines : goal.decreases-lines
decreases-lines l = length l.rest
