-- How a report's goals are judged line by line.
use Rattle.std.specs.Prelude.{◌≡◌, ℕ, ◌+◌, ◌<◌, ◌≤◌, ℤ, List, [], ◌∷◌, ◌++◌, length, Option, Some, None, slice_get, IsSomeAnd}
use Rattle.std.specs.declared.vec.Vec.{Vec}
use Rattle.std.specs.declared.alloc.Global.{Global}
use Rattle.cert_kit.specs.declared.row.PRow.{PRow}
use Rattle.cert_kit.specs.declared.cert.Cert.{Cert}
use Rattle.cert_kit.specs.Acceptance.{IsGood}
use Rattle.goal_ast.specs.declared.goal.Goal.{Goal}
use Rattle.zify.specs.declared.goal.ZGoal.{ZGoal}
use Rattle.zify.specs.Translation.{translated}
use Rattle.clause_form.specs.declared.named.Named.{Named}
use Rattle.clause_form.specs.Clauses.{clauses_of}
use Rattle.goal_serve.specs.Answering.{IsOfSize, Refutes}
use Rattle.goal_serve.specs.KeyName.{key_name}
use Rattle.report_text.specs.declared.lines.Line.{Line}
use Rattle.report_text.specs.declared.lines.Line.TheVariants as lines
use Rattle.report_check.specs.declared.types.Recheck.{Recheck}
use Rattle.report_check.specs.declared.types.Recheck.TheVariants.{Accepted, Rejected}
use Rattle.report_check.specs.declared.judging.Place.{Place}
use Rattle.report_check.specs.declared.judging.Judged.{Judged}
use Rattle.report_check.specs.declared.judging.Judged.TheVariants.{Good, Values, Clauses, Rows, Bad}

-- the last goal that has sorts, after one more line
abbrev pub goal_after : Option Goal → Line → Option Goal
goal_after goal (lines.Asked n mode (Some asked)) = Some asked
goal_after goal line = goal

-- the place of the last goal, after one more line
abbrev pub place_after : Place → Line → Place
place_after place (lines.Session n name) = record { session = n; goal = 0 }
place_after place (lines.Asked n mode goal) = record { session = place.session; goal = n }
place_after place line = place

-- where the fact holds it goes on so, and else the goal at this place is the first that isn't good
abbrev pub GoesOn : Type 0 → Judged → Place → Judged → Type 0
GoesOn P next place (Bad first) = (first ≡ place) × (P → ⊥)
GoesOn P next place after = P × (after ≡ next)

-- ---- proved goals

-- no limit refuses the clauses of a goal, and there are so many
pub record HasClauses (z : ZGoal) (count : ℕ) : Type 0 where
  pub size : IsOfSize z
  pub as_many : count ≡ length (clauses_of z)

-- the list where it has so many items, and else none
abbrev pub IsCounted : Vec Named Global → ℕ → Option (Vec Named Global) → Type 0
IsCounted list count None = count ≡ length list.items → ⊥
IsCounted list count (Some same) = (same ≡ list) × (count ≡ length list.items)

-- the clauses of a goal, where that holds, and else none
abbrev pub IsPlan : ZGoal → ℕ → Option (Vec Named Global) → Type 0
IsPlan z count None = HasClauses z count → ⊥
IsPlan z count (Some plan) = HasClauses z count × (plan.items ≡ clauses_of z)

-- the clause of this number has a key of this name
abbrev pub HasName : List Named → ℕ → List ℕ → Type 0
HasName plan k name = IsSomeAnd (slice_get plan k) (λ (n : Named). name ≡ key_name n.clause)

-- the clause of this number has this row after so many others
abbrev pub HasRow : List Named → ℕ → ℕ → PRow → Type 0
HasRow plan k rows row = IsSomeAnd (slice_get plan k) (λ (n : Named). slice_get n.clause.rows rows ≡ Some row)

-- the clause has so many rows, and the certificate is good
abbrev pub IsProvedBy : List PRow → ℕ → Cert → Type 0
IsProvedBy clause rows cert = (rows ≡ length clause) × IsGood clause cert

-- the same of the clause of this number
abbrev pub HasCertificate : List Named → ℕ → ℕ → Cert → Type 0
HasCertificate plan k rows cert = IsSomeAnd (slice_get plan k) (λ (n : Named). IsProvedBy n.clause.rows rows cert)

-- the goal's clauses come next, or there aren't so many
abbrev pub Begins : ZGoal → Place → ℕ → Judged → Type 0
Begins z place count (Clauses plan k) = IsPlan z count (Some plan) × (k ≡ 0)
Begins z place count (Bad first) = (first ≡ place) × IsPlan z count None
Begins z place count after = ⊥

abbrev pub AfterProved : Option Goal → Place → ℕ → Judged → Type 0
AfterProved None place count after = after ≡ Good
AfterProved (Some goal) place count after = Begins (translated goal) place count after

abbrev pub AfterName : Place → Vec Named Global → ℕ → List ℕ → Judged → Type 0
AfterName place plan k name = GoesOn (HasName plan.items k name) (Rows plan k 0) place

abbrev pub AfterOneRow : Place → Vec Named Global → ℕ → ℕ → PRow → Judged → Type 0
AfterOneRow place plan k rows row = GoesOn (HasRow plan.items k rows row) (Rows plan k (rows + 1)) place

abbrev pub AfterCertificate : Place → Vec Named Global → ℕ → ℕ → Cert → Judged → Type 0
AfterCertificate place plan k rows cert = GoesOn (HasCertificate plan.items k rows cert) (Clauses plan (k + 1)) place

abbrev pub AfterClause : Place → Vec Named Global → ℕ → Line → Judged → Type 0
AfterClause place plan k (lines.Clause n name origin) after = AfterName place plan k name after
AfterClause place plan k line after = after ≡ Good

abbrev pub AfterRow : Place → Vec Named Global → ℕ → ℕ → Line → Judged → Type 0
AfterRow place plan k rows (lines.Row row) after = AfterOneRow place plan k rows row after
AfterRow place plan k rows (lines.Certificate cert) after = AfterCertificate place plan k rows cert after
AfterRow place plan k rows line after = after ≡ Good

-- ---- refuted goals

-- values are missing, or the goal is false at those that are there, or isn't
abbrev pub TestsGoal : Goal → Place → List ℤ → Judged → Type 0
TestsGoal goal place values (Values read) = (read.items ≡ values) × (length values < length goal.vars)
TestsGoal goal place values after = (length goal.vars ≤ length values) × GoesOn (Refutes goal (record { values = values })) Good place after

abbrev pub Tests : Option Goal → Place → List ℤ → Judged → Type 0
Tests None place values after = after ≡ Good
Tests (Some goal) place values after = TestsGoal goal place values after

abbrev pub AfterValue : Option Goal → Place → List ℤ → Line → Judged → Type 0
AfterValue goal place values (lines.Value z) after = Tests goal place (values ++ z ∷ []) after
AfterValue goal place values line after = after ≡ Good

-- ---- all lines

abbrev pub AfterGood : Option Goal → Place → Line → Judged → Type 0
AfterGood goal place (lines.Proved count) after = AfterProved goal place count after
AfterGood goal place lines.Refuted after = Tests goal place [] after
AfterGood goal place line after = after ≡ Good

-- what is known of the goals before and after one more line
abbrev pub Judges : Option Goal → Place → Judged → Line → Judged → Type 0
Judges goal place Good line after = AfterGood goal place line after
Judges goal place (Values values) line after = AfterValue goal place values.items line after
Judges goal place (Clauses plan k) line after = AfterClause place plan k line after
Judges goal place (Rows plan k rows) line after = AfterRow place plan k rows line after
Judges goal place (Bad first) line after = after ≡ Bad first

-- what is said of a report whose goals are all judged
abbrev pub verdict_of : Judged → Recheck
verdict_of (Bad first) = Rejected first.session first.goal
verdict_of judged = Accepted
