use Rattle.std.proofs.Common.{◌≤◌, length}
use Rattle.report_text.specs.Place.{IsReadTo}
use Rattle.report_text.specs.Progress.{reading_of}
use Rattle.report_text.specs.Whole.{vars_in}
use Rattle.report_text.proofs.whole.wrong_at.Given as goal

-- lines that fit stand in front of the rest
abbrev pub invariant-lines : goal.invariant-lines
invariant-lines l = record { so_far : IsReadTo l.bytes l.rest (reading_of (vars_in l.goal) l.progress); counted : l.progress.here ≤ l.progress.goals }

abbrev pub decreases-lines : goal.decreases-lines
decreases-lines l = length l.rest
