-- Good answers to a goal: one case for each answer.
use Rattle.std.specs.Prelude.{◌≡◌, ◌≢◌, ◌⊎◌, ℕ, ◌<◌, ◌≤◌, pos, List, [], ◌∷◌, length, nat_eq, Option, Some, None, slice_get, Err, if◌then◌else◌}
use Rattle.std.specs.List.{AllByRecursion, list_any}
use Rattle.cert_kit.specs.Acceptance.{IsGood}
use Rattle.goal_ast.specs.declared.goal.Goal.{Goal}
use Rattle.goal_ast.specs.declared.goal.Assignment.{Assignment}
use Rattle.goal_ast.specs.declared.types.Eval.TheVariants as evals
use Rattle.goal_ast.specs.Truth.{Point, Holds}
use Rattle.goal_ast.specs.Range.{IsInRange, point_of}
use Rattle.goal_ast.specs.Evaluation.{eval_of, IsAllSmall}
use Rattle.goal_sort.specs.declared.raw.RawGoal.{RawGoal}
use Rattle.goal_sort.specs.IsSorted.{IsSorted}
use Rattle.goal_sort.specs.Sorting.{sorting}
use Rattle.zify.specs.declared.goal.ZGoal.{ZGoal}
use Rattle.zify.specs.Measure.{IsWithinLimits, IsTooHeavy, IsTooWide, IsTooSteep}
use Rattle.zify.specs.Translation.{translated}
use Rattle.clause_form.specs.declared.named.Named.{Named}
use Rattle.cert_kit.specs.Variables.{place_of}
use Rattle.clause_form.specs.Clauses.{clauses_of, number_of}
use Rattle.box_enum.specs.Cube.{cube_of}
use Rattle.clause_engine.specs.declared.outcome.Why.{Why}
use Rattle.clause_engine.specs.declared.outcome.Why.TheVariants as whys
use Rattle.clause_engine.specs.Settled.{IsSettled, HasPoint, clause_point, WhyOf, IsPromised}
use Rattle.goal_serve.specs.declared.answers.Shown.{Shown}
use Rattle.goal_serve.specs.declared.answers.Kind.{Kind}
use Rattle.goal_serve.specs.declared.answers.Kind.TheVariants as kinds
use Rattle.goal_serve.specs.declared.answers.Answer.{Answer}
use Rattle.goal_serve.specs.declared.answers.Answer.TheVariants as answers

-- ---- proved

-- the clause with a good certificate
pub record IsShown (n : Named) (s : Shown) : Type 0 where
  pub clause : s.clause ≡ n.clause
  pub good : IsGood n.clause.rows s.cert

-- each clause in order, and no more
abbrev pub AreShown : List Named → List Shown → Type 0
AreShown [] [] = Unit {0}
AreShown [] (s ∷ shown) = ⊥
AreShown (n ∷ cs) [] = ⊥
AreShown (n ∷ cs) (s ∷ shown) = IsShown n s × AreShown cs shown

-- ---- refuted

-- the values are in range, the value of each subterm of the body is small there, and the body is false
pub record Refutes (goal : Goal) (a : Assignment) : Type 0 where
  pub in_range : IsInRange goal a
  pub small : IsAllSmall (point_of a.values) goal.body
  pub fails : Holds (point_of a.values) goal.body → ⊥

-- ---- unsettled

-- a point of renumbered variables as one of the variables themselves, which gives 0 to all others
abbrev pub placed : List ℕ → Point → Point
placed vars y v = if list_any (nat_eq v) vars then y (place_of vars v) else pos 0

-- what a clause's point gives the variables of the goal
abbrev pub given_by : Goal → ℕ → Named → Point
given_by goal turns n = placed n.vars (clause_point goal.mode turns n.clause.rows)

-- the clause has a point at which the goal's body can be evaluated
pub record IsWitnessed (goal : Goal) (turns : ℕ) (n : Named) : Type 0 where
  pub has_point : HasPoint goal.mode turns n.clause.rows
  pub not_big : eval_of (given_by goal turns n) goal.body ≢ evals.Big

-- it isn't settled, or its point doesn't witness
abbrev pub IsOpen : Goal → ℕ → Named → Why → Type 0
IsOpen goal turns n why =
    ((IsSettled goal.mode turns n.clause.rows → ⊥) × WhyOf goal.mode turns n.clause.rows why)
    ⊎ (HasPoint goal.mode turns n.clause.rows × (IsWitnessed goal turns n → ⊥) × (why ≡ whys.Over))

-- and it isn't one that a simplex is sure to refute
abbrev pub MayStay : Goal → ℕ → Named → Why → Type 0
MayStay goal turns n why = IsOpen goal turns n why × (IsPromised turns n.clause.rows → ⊥)

-- the clause of this number stays
abbrev pub StaysAt : Goal → ℕ → List Named → ℕ → Why → Type 0
StaysAt goal turns cs k why = (n : Named) × (slice_get cs k ≡ Some n) × MayStay goal turns n why

pub record IsUnsettled (goal : Goal) (turns : ℕ) (cs : List Named) (k : ℕ) (why : Why) : Type 0 where
  pub none_witnessed : AllByRecursion (λ n. IsWitnessed goal turns n → ⊥) cs
  pub stays : StaysAt goal turns cs k why

-- ---- a goal's answer

abbrev pub MeetsClauses : Goal → ℕ → List Named → Answer → Type 0
MeetsClauses goal turns cs (answers.Proved shown) = AreShown cs shown
MeetsClauses goal turns cs (answers.Refuted a) = Refutes goal a
MeetsClauses goal turns cs (answers.Unsettled k why) = IsUnsettled goal turns cs k why
MeetsClauses goal turns cs (answers.Oversize kind) = ⊥
MeetsClauses goal turns cs (answers.IllSorted at) = ⊥

-- the cube's assignment where it holds, and else what comes of the clauses
abbrev pub MeetsTests : Option Assignment → Goal → ℕ → List Named → Answer → Type 0
MeetsTests (Some a) goal turns cs answer = answer ≡ answers.Refuted a
MeetsTests None goal turns cs answer = MeetsClauses goal turns cs answer

-- no measure passes its limit, and there are at most 4,096 clauses
pub record IsOfSize (z : ZGoal) : Type 0 where
  pub measures : IsWithinLimits z
  pub clauses : length (clauses_of z) ≤ 4096

-- the first limit that is passed
abbrev pub Passes : ZGoal → Kind → Type 0
Passes z kinds.Weight = IsTooHeavy z
Passes z kinds.Spread = IsTooWide z
Passes z kinds.Degree = IsTooSteep z
Passes z (kinds.Splits number) = IsWithinLimits z × (4096 < length (clauses_of z)) × (number ≡ number_of z)

abbrev pub MeetsLimits : Goal → ℕ → ZGoal → Answer → Type 0
MeetsLimits goal turns z (answers.Oversize kind) = Passes z kind
MeetsLimits goal turns z answer = IsOfSize z × MeetsTests (cube_of goal) goal turns (clauses_of z) answer

-- a good answer to a goal
abbrev pub MeetsGoal : Goal → ℕ → Answer → Type 0
MeetsGoal goal turns answer = MeetsLimits goal turns (translated goal) answer

-- a good answer to a goal as it was read
abbrev pub MeetsRaw : RawGoal → ℕ → Answer → Type 0
MeetsRaw raw turns (answers.IllSorted at) = sorting raw ≡ Err at
MeetsRaw raw turns answer = (goal : Goal) × IsSorted raw goal × MeetsGoal goal turns answer

-- ---- a good answer

-- what a cache holds, and what is asked of it for a goal; there is no cache yet
abbrev pub Entry : Type 0
Entry = ⊥

abbrev pub Call : Type 0
Call = ⊥

-- nothing is asked of the cache for the goal
abbrev pub FilesRaw : List Entry → RawGoal → Answer → List Call → Type 0
FilesRaw list raw answer calls = calls ≡ []

-- the answer suits the goal as it was read, and the calls that were made for it suit the answer and the entries
pub record IsGoodAnswer (raw : RawGoal) (turns : ℕ) (list : List Entry) (answer : Answer) (calls : List Call) : Type 0 where
  pub meets : MeetsRaw raw turns answer
  pub files : FilesRaw list raw answer calls

-- ---- by the kind of answer

abbrev pub IfProved : Type 0 → Answer → Type 0
IfProved P (answers.Proved shown) = P
IfProved P answer = Unit {0}

abbrev pub IfRefuted : (Assignment → Type 0) → Answer → Type 0
IfRefuted P (answers.Refuted a) = P a
IfRefuted P answer = Unit {0}
