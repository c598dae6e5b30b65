-- The grammar of reports: what a report says, and its lines.
use Rattle.std.specs.Prelude.{ℕ, suc, ◌+◌, ◌≤◌, ℤ, List, [], ◌∷◌, ◌++◌, map, length, sum_by, Some, None}
use Rattle.std.specs.List.{AllByRecursion}
use Rattle.cert_kit.specs.declared.row.PRow.{PRow}
use Rattle.cert_kit.specs.declared.cert.Cert.{Cert}
use Rattle.clause_engine.specs.declared.outcome.Why.{Why}
use Rattle.goal_ast.specs.declared.goal.Bound.{Bound}
use Rattle.goal_ast.specs.declared.goal.Goal.{Goal}
use Rattle.goal_ast.specs.declared.goal.Mode.{Mode}
use Rattle.goal_ast.specs.declared.goal.Mode.TheVariants.{Lia, Nia}
use Rattle.goal_ast.specs.declared.goal.Name.{Name}
use Rattle.goal_token.specs.Spacing.{IsName}
use Rattle.cert_text.specs.Check.{AreRows, IsCert}
use Rattle.goal_serve.specs.declared.answers.Kind.{Kind}
use Rattle.goal_serve.specs.declared.answers.Origin.{Origin}
use Rattle.goal_serve.specs.Line.{Line, Begin, Session, Asked, Clause, Row, Certificate, Cache, End}
use Rattle.goal_serve.specs.Line as line
use Rattle.report_text.specs.declared.call.Call.{Call}
use Rattle.report_text.specs.declared.call.Call.TheVariants.{Find, Store}
use Rattle.report_text.specs.Line.{ReportLine, Plain, Called, IsFree, IsKeyName, IsValue, IsText, IsKind, IsCall, report_lines_text}

-- ---- what a report says

-- a clause: the name of its key, where its certificate comes from, its rows and the certificate
pub record Block : Type 0 where
  pub name : List ℕ
  pub origin : Origin
  pub rows : List PRow
  pub cert : Cert

-- what is said of a goal with sorts
pub data Reply : Type 0 where
  Proved : List Block → Reply
  Refuted : List ℤ → Reply
  Unsettled : ℕ → Why → Reply
  Oversize : Kind → Reply

-- a goal with what is said of it, or the place where it has no sorts
pub data Entered : Type 0 where
  Sorted : Goal → Reply → Entered
  Unsorted : Mode → ℕ → Entered

pub record SessionShown : Type 0 where
  pub name : Name
  pub goals : List Entered

-- a cache: how many entries it was opened with, how many are saved, and its history
pub record Kept : Type 0 where
  pub opened : ℕ
  pub saved : ℕ
  pub history : List Call

pub record Report : Type 0 where
  pub sessions : List SessionShown
  pub lia : Kept
  pub nia : Kept

-- ---- its lines

-- a clause with its number
abbrev pub block_lines : ℕ → Block → List ReportLine
block_lines k b = Plain (Clause k b.name b.origin) ∷ (map (λ (row : PRow). Plain (Row row)) b.rows ++ Plain (Certificate b.cert) ∷ [])

-- clauses, numbered from here on
abbrev pub blocks_lines : ℕ → List Block → List ReportLine
blocks_lines k [] = []
blocks_lines k (b ∷ blocks) = block_lines k b ++ blocks_lines (k + 1) blocks

abbrev pub values_lines : List Bound → List ℤ → List ReportLine
values_lines [] values = []
values_lines (bound ∷ vars) [] = []
values_lines (bound ∷ vars) (z ∷ values) = Plain (line.Value bound z) ∷ values_lines vars values

-- what is said of a goal with these variables
abbrev pub reply_lines : List Bound → Reply → List ReportLine
reply_lines vars (Proved blocks) = Plain (line.Proved (length blocks)) ∷ blocks_lines 0 blocks
reply_lines vars (Refuted values) = Plain line.Refuted ∷ values_lines vars values
reply_lines vars (Unsettled n why) = Plain (line.Unsettled n why) ∷ []
reply_lines vars (Oversize kind) = Plain (line.Oversize kind) ∷ []

-- a goal with its number
abbrev pub entered_lines : ℕ → Entered → List ReportLine
entered_lines n (Sorted goal reply) = Plain (Asked n goal.mode (Some goal)) ∷ reply_lines goal.vars reply
entered_lines n (Unsorted mode at) = Plain (Asked n mode None) ∷ Plain (line.IllSorted at) ∷ []

-- goals, numbered from here on
abbrev pub goals_lines : ℕ → List Entered → List ReportLine
goals_lines n [] = []
goals_lines n (e ∷ goals) = entered_lines n e ++ goals_lines (n + 1) goals

-- sessions, numbered from here on
abbrev pub sessions_lines : ℕ → List SessionShown → List ReportLine
sessions_lines n [] = []
sessions_lines n (s ∷ sessions) = (Plain (Session n s.name) ∷ goals_lines 0 s.goals) ++ sessions_lines (n + 1) sessions

-- how many calls store
abbrev pub stores : List Call → ℕ
stores [] = 0
stores (Find session goal clause front hit ∷ calls) = stores calls
stores (Store session goal clause place ∷ calls) = suc (stores calls)

abbrev pub kept_lines : Mode → Kept → List ReportLine
kept_lines mode c = Plain (Cache mode c.opened (stores c.history) c.saved) ∷ map Called c.history

abbrev pub report_lines : Report → List ReportLine
report_lines r = Plain Begin ∷ (sessions_lines 0 r.sessions ++ (kept_lines Lia r.lia ++ (kept_lines Nia r.nia ++ Plain End ∷ [])))

-- the text of a report
abbrev pub report_text : Report → List ℕ
report_text r = report_lines_text (report_lines r)

-- ---- its limits

pub record IsBlock (b : Block) : Type 0 where
  pub name : IsKeyName b.name
  pub rows : AreRows b.rows
  pub cert : IsCert b.cert

-- a value for each variable, each as its sort needs it
abbrev pub AreValues : List Bound → List ℤ → Type 0
AreValues [] [] = Unit {0}
AreValues [] (z ∷ values) = ⊥
AreValues (bound ∷ vars) [] = ⊥
AreValues (bound ∷ vars) (z ∷ values) = IsValue bound.sort z × AreValues vars values

abbrev pub IsReply : List Bound → Reply → Type 0
IsReply vars (Proved blocks) = IsFree (length blocks) × AllByRecursion IsBlock blocks
IsReply vars (Refuted values) = AreValues vars values
IsReply vars (Unsettled n why) = IsFree n
IsReply vars (Oversize kind) = IsKind kind

abbrev pub IsEntered : Entered → Type 0
IsEntered (Sorted goal reply) = IsText goal.mode goal × IsReply goal.vars reply
IsEntered (Unsorted mode at) = IsFree at

pub record IsSession (s : SessionShown) : Type 0 where
  pub name : IsName s.name.bytes
  pub goals : AllByRecursion IsEntered s.goals

pub record IsKept (c : Kept) : Type 0 where
  pub opened : IsFree c.opened
  pub stored : IsFree (stores c.history)
  pub saved : IsFree c.saved
  pub calls : AllByRecursion IsCall c.history

-- how many goals the sessions have
abbrev pub goals_in : List SessionShown → ℕ
goals_in sessions = sum_by (λ (s : SessionShown). length s.goals) sessions

-- at most 64 sessions and 1,024 goals
pub record IsReport (r : Report) : Type 0 where
  pub few_sessions : length r.sessions ≤ 64
  pub few_goals : goals_in r.sessions ≤ 1024
  pub sessions : AllByRecursion IsSession r.sessions
  pub lia : IsKept r.lia
  pub nia : IsKept r.nia
