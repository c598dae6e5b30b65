-- What good goals of a report say.
use Rattle.std.specs.Prelude.{◌≡◌, ℕ, List, [], ◌∷◌, Option, Some, None, IfSome}
use Rattle.std.specs.List.{AllByRecursion}
use Rattle.std.proofs.Common.{sym, subst}
use Rattle.cert_kit.specs.Row.{HasNoSolution}
use Rattle.cert_kit.proofs.SoundLaws.{accepted_sound}
use Rattle.goal_ast.specs.declared.goal.Bound.{Bound}
use Rattle.goal_ast.specs.declared.goal.Goal.{Goal}
use Rattle.goal_ast.specs.Sorted.{IsWellFormed}
use Rattle.goal_print.specs.ReadsBack.{ReadsBack, file_text, alone}
use Rattle.goal_sort.proofs.WellFormedLaws.{well_formed}
use Rattle.goal_text.proofs.ShortLaws.{all_read}
use Rattle.zify.specs.Translation.{translated}
use Rattle.zify.proofs.TranslationLaws.{law}
use Rattle.clause_form.specs.declared.named.Named.{Named}
use Rattle.clause_form.specs.Clauses.{clauses_of, AllUnsolvable}
use Rattle.clause_form.proofs.ClauseLaws.{valid_law}
use Rattle.goal_serve.specs.Line as line
use Rattle.report_text.specs.Line.{ReportLine, Plain, Called, IsReportLine}
use Rattle.report_text.specs.declared.lines.Line.{Line}
use Rattle.report_text.specs.declared.progress.Progress.{Progress}
use Rattle.report_text.specs.Fitting.{Reading}
use Rattle.report_text.specs.LineRead.{line_of}
use Rattle.report_text.specs.Progress.{ReadsNext}
use Rattle.report_text.specs.Report.{Block, Reply, Proved, Refuted, Unsettled, Oversize, Entered, Sorted, Unsorted, SessionShown, Report, IsEntered, IsSession, IsReport}
use Rattle.report_check.specs.Goodness.{AreGoodBlocks, IsGoodReply, IsGoodEntered, IsGoodSession, HasGoodGoals}
use Rattle.report_check.specs.machine.Judging.{goal_after}
use Rattle.report_check.specs.Rightness.{IsRightReply, IsRightEntered, IsRightReport}

-- a goal whose text reads back is well formed
pub formed : (goal : Goal) → ReadsBack goal → IsWellFormed goal
formed goal r = well_formed r.raw goal (all_read (file_text goal) (alone r.raw) r.reads r.within).0.0.readable r.sorted

-- the last goal with sorts is well formed after each line
pub next_formed : (goal : Option Goal) (l : ReportLine) → IsReportLine l → IfSome goal IsWellFormed → IfSome (goal_after goal (line_of l)) IsWellFormed
next_formed goal (Plain (line.Asked n mode (Some asked))) is h = formed asked is.1.reads
next_formed goal (Plain (line.Asked n mode None)) is h = h
next_formed goal (Plain l) is h = h
next_formed goal (Called call) is h = h

pub read_formed : (goal after : Option Goal) (r : Reading) (vars : List Bound) (bytes rest : List ℕ) (read : Line) (p : Progress) → ReadsNext r vars bytes read rest p
    → after ≡ goal_after goal read → IfSome goal IsWellFormed → IfSome after IsWellFormed
read_formed goal after r vars bytes rest read p n e h =
    subst (λ g. IfSome g IsWellFormed) (sym e)
    (subst (λ l. IfSome (goal_after goal l) IsWellFormed) (sym n.is_read) (next_formed goal n.line n.within h))

unsolvable : (cs : List Named) (blocks : List Block) → AreGoodBlocks cs blocks → AllUnsolvable cs
unsolvable [] blocks g = tt
unsolvable (n ∷ cs) [] g = absurd g
unsolvable (n ∷ cs) (b ∷ blocks) g = (subst HasNoSolution g.0.rows (accepted_sound b.cert b.rows g.0.good.accepted), unsolvable cs blocks g.1)

right_reply : (goal : Goal) (reply : Reply) → IsWellFormed goal → IsGoodReply goal reply → IsRightReply goal reply
right_reply goal (Proved blocks) w g = (law goal w).1 ((valid_law (translated goal)).1 (unsolvable (clauses_of (translated goal)) blocks g.1))
right_reply goal (Refuted values) w g = g
right_reply goal (Unsettled n why) w g = tt
right_reply goal (Oversize kind) w g = tt

right_entered : (e : Entered) → IsEntered e → IsGoodEntered e → IsRightEntered e
right_entered (Sorted goal reply) is good = right_reply goal reply (formed goal is.0.reads) good
right_entered (Unsorted mode at) is good = tt

right_goals : (goals : List Entered) → AllByRecursion IsEntered goals → AllByRecursion IsGoodEntered goals → AllByRecursion IsRightEntered goals
right_goals [] are good = tt
right_goals (e ∷ goals) are good = (right_entered e are.0 good.0, right_goals goals are.1 good.1)

right_sessions : (sessions : List SessionShown) → AllByRecursion IsSession sessions → AllByRecursion IsGoodSession sessions
    → AllByRecursion (λ (s : SessionShown). AllByRecursion IsRightEntered s.goals) sessions
right_sessions [] are good = tt
right_sessions (s ∷ sessions) are good = (right_goals s.goals are.0.goals good.0, right_sessions sessions are.1 good.1)

pub right : (r : Report) → IsReport r → HasGoodGoals r → IsRightReport r
right r is good = right_sessions r.sessions is.sessions good
