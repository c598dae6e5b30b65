-- What a report with good goals says of them.
use Rattle.std.specs.List.{AllByRecursion}
use Rattle.goal_ast.specs.declared.goal.Goal.{Goal}
use Rattle.goal_ast.specs.Range.{IsValid}
use Rattle.goal_serve.specs.Answering.{Refutes}
use Rattle.report_text.specs.Report.{Reply, Proved, Refuted, Unsettled, Oversize, Entered, Sorted, Unsorted, SessionShown, Report}

-- a proved goal holds for all values; a refuted one is false at its own, which are in range
abbrev pub IsRightReply : Goal → Reply → Type 0
IsRightReply goal (Proved blocks) = IsValid goal
IsRightReply goal (Refuted values) = Refutes goal (record { values = values })
IsRightReply goal (Unsettled n why) = Unit {0}
IsRightReply goal (Oversize kind) = Unit {0}

abbrev pub IsRightEntered : Entered → Type 0
IsRightEntered (Sorted goal reply) = IsRightReply goal reply
IsRightEntered (Unsorted mode at) = Unit {0}

abbrev pub IsRightReport : Report → Type 0
IsRightReport r = AllByRecursion (λ (s : SessionShown). AllByRecursion IsRightEntered s.goals) r.sessions
