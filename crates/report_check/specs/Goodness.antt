-- Good goals of a report, and what is said of bytes: a report with good goals, one with a goal that isn't, or no report.
use Rattle.std.specs.Prelude.{◌≡◌, ℕ, ℤ, List, [], ◌∷◌, take, Some, slice_get}
use Rattle.std.specs.List.{AllByRecursion}
use Rattle.cert_kit.specs.Acceptance.{IsGood}
use Rattle.goal_ast.specs.declared.goal.Goal.{Goal}
use Rattle.zify.specs.Translation.{translated}
use Rattle.clause_form.specs.declared.named.Named.{Named}
use Rattle.clause_form.specs.Clauses.{clauses_of}
use Rattle.goal_serve.specs.Answering.{IsOfSize, Refutes}
use Rattle.goal_serve.specs.KeyName.{key_name}
use Rattle.report_text.specs.Place.{IsNoReport, LinesEnd}
use Rattle.report_text.specs.Report.{Block, Reply, Proved, Refuted, Unsettled, Oversize, Entered, Sorted, Unsorted, SessionShown, Report, IsReport, report_text}
use Rattle.report_check.specs.declared.types.Recheck.{Recheck}
use Rattle.report_check.specs.declared.types.Recheck.TheVariants.{Accepted, Rejected, Bad}

-- ---- goals

-- the clause of a goal, under the name of its key, with a certificate that the rules accept
pub record IsGoodBlock (n : Named) (b : Block) : Type 0 where
  pub named : b.name ≡ key_name n.clause
  pub rows : b.rows ≡ n.clause.rows
  pub good : IsGood b.rows b.cert

-- each clause in order, and no more
abbrev pub AreGoodBlocks : List Named → List Block → Type 0
AreGoodBlocks [] [] = Unit {0}
AreGoodBlocks [] (b ∷ blocks) = ⊥
AreGoodBlocks (n ∷ cs) [] = ⊥
AreGoodBlocks (n ∷ cs) (b ∷ blocks) = IsGoodBlock n b × AreGoodBlocks cs blocks

-- a proved goal passes no limit, and each of its clauses is shown well; a refuted one is false at its values, which are in
-- range; other answers are taken as they are
abbrev pub IsGoodReply : Goal → Reply → Type 0
IsGoodReply goal (Proved blocks) = IsOfSize (translated goal) × AreGoodBlocks (clauses_of (translated goal)) blocks
IsGoodReply goal (Refuted values) = Refutes goal (record { values = values })
IsGoodReply goal (Unsettled n why) = Unit {0}
IsGoodReply goal (Oversize kind) = Unit {0}

abbrev pub IsGoodEntered : Entered → Type 0
IsGoodEntered (Sorted goal reply) = IsGoodReply goal reply
IsGoodEntered (Unsorted mode at) = Unit {0}

abbrev pub IsGoodSession : SessionShown → Type 0
IsGoodSession s = AllByRecursion IsGoodEntered s.goals

abbrev pub HasGoodGoals : Report → Type 0
HasGoodGoals r = AllByRecursion IsGoodSession r.sessions

-- the goal of this number isn't good, and each before it is
pub record IsFirstBadGoal (goals : List Entered) (g : ℕ) : Type 0 where
  pub goal : Entered
  pub there : slice_get goals g ≡ Some goal
  pub before : AllByRecursion IsGoodEntered (take g goals)
  pub bad : IsGoodEntered goal → ⊥

-- the same in the session of this number, and each goal of the sessions before it is good
pub record IsFirstBad (sessions : List SessionShown) (s g : ℕ) : Type 0 where
  pub session : SessionShown
  pub there : slice_get sessions s ≡ Some session
  pub before : AllByRecursion IsGoodSession (take s sessions)
  pub goal : IsFirstBadGoal session.goals g

-- ---- bytes

-- the bytes are the report
pub record Spell (bytes : List ℕ) (r : Report) : Type 0 where
  pub is : IsReport r
  pub spelled : bytes ≡ report_text r

-- what is said of bytes
abbrev pub Rechecks : List ℕ → Recheck → Type 0
Rechecks bytes Accepted = (r : Report) × Spell bytes r × HasGoodGoals r
Rechecks bytes (Rejected s g) = (r : Report) × Spell bytes r × IsFirstBad r.sessions s g
Rechecks bytes (Bad at) = IsNoReport bytes × LinesEnd bytes at
