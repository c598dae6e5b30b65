-- What the input of a command holds, and what is said of it.
use Rattle.std.specs.Prelude.{◌≡◌, ℕ, List, Bool, true, ◌↔◌}
use Rattle.cert_kit.specs.declared.row.PRow.{PRow}
use Rattle.cert_kit.specs.declared.cert.Cert.{Cert}
use Rattle.cert_kit.specs.Row.{HasNoSolution}
use Rattle.cert_kit.specs.Acceptance.{IsGood}
use Rattle.cert_kit.specs.FirstFault.{first_fault}
use Rattle.cert_check.specs.declared.checking.Verdict.{Verdict}
use Rattle.cert_check.specs.Verdict.{verdict_of}
use Rattle.cert_text.specs.Text.{check_text}
use Rattle.cert_text.specs.Check.{IsCheck}
use Rattle.goal_token.specs.Tokens.{tokens_of}
use Rattle.goal_sort.specs.declared.raw.RawSession.{RawSession}
use Rattle.goal_text.specs.Files.{Reads}
use Rattle.goal_text.specs.Refusals.{IsWithin}
use Rattle.goal_serve.specs.declared.answers.Answer.{Answer}
use Rattle.session_serve.specs.Rightness.{AreRight, AreValid}
use Rattle.session_serve.specs.Serving.{MeetSessions, AreProved}
use Rattle.session_serve.specs.Report.{report_text, no_cache}
use Rattle.report_text.specs.Report.{Report}
use Rattle.report_check.specs.declared.types.Recheck.TheVariants as verdicts
use Rattle.report_check.specs.Goodness.{HasGoodGoals, Spell, Rechecks}
use Rattle.report_check.specs.Rightness.{IsRightReport}

-- the bytes spell rows and a certificate with this verdict
abbrev pub HasVerdict : List ℕ → Verdict → Type 0
HasVerdict bytes v = (rows : List PRow) × (c : Cert) × IsCheck rows c × (bytes ≡ check_text rows c) × (v ≡ verdict_of (first_fault c rows))

-- the bytes spell rows that no integer point solves, with a good certificate
abbrev pub IsUnsolvable : List ℕ → Type 0
IsUnsolvable bytes = (rows : List PRow) × (c : Cert) × (bytes ≡ check_text rows c) × IsGood rows c × HasNoSolution rows

-- a goal file within the limits, of these sessions
abbrev pub IsGoalFile : List ℕ → List RawSession → Type 0
IsGoalFile bytes sessions = Reads bytes sessions × IsWithin (tokens_of bytes)

-- the bytes are no goal file within the limits
abbrev pub IsNoGoalFile : List ℕ → Type 0
IsNoGoalFile bytes = (sessions : List RawSession) → IsGoalFile bytes sessions → ⊥

-- the report of the sessions of a goal file, each goal with a good answer, and whether each is proved; what the answers
-- say of the goals is right, and the report is accepted when it is checked
pub record IsReportOn (turns : ℕ) (bytes text : List ℕ) (proved : Bool) : Type 0 where
  pub sessions : List RawSession
  pub file : IsGoalFile bytes sessions
  pub answers : List (List Answer)
  pub good : MeetSessions turns sessions answers
  pub report : text ≡ report_text sessions answers no_cache no_cache
  pub each : (proved ≡ true) ↔ AreProved answers
  pub right : AreRight sessions answers
  pub accepted : Rechecks text verdicts.Accepted

-- the bytes are a goal file, and each of its goals holds for all values
abbrev pub IsValidFile : List ℕ → Type 0
IsValidFile bytes = (sessions : List RawSession) × IsGoalFile bytes sessions × AreValid sessions

-- the bytes are a report whose goals are good, so each proved one holds for all values, and each refuted one is false at
-- its assignment
pub record IsRightText (bytes : List ℕ) (r : Report) : Type 0 where
  pub spell : Spell bytes r
  pub good : HasGoodGoals r
  pub right : IsRightReport r

abbrev pub IsRightReportText : List ℕ → Type 0
IsRightReportText bytes = (r : Report) × IsRightText bytes r
