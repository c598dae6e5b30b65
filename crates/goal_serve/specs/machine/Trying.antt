-- The clauses of a goal, tried one after another.
use Rattle.std.specs.Prelude.{◌≡◌, ◌≢◌, ℕ, ◌<◌, ◌^◌, List, [], ◌∷◌, ◌++◌, length, Some, None, slice_get}
use Rattle.goal_ast.specs.declared.goal.Goal.{Goal}
use Rattle.goal_ast.specs.declared.goal.Assignment.{Assignment}
use Rattle.goal_ast.specs.declared.types.Eval.TheVariants as evals
use Rattle.goal_ast.specs.Range.{point_of}
use Rattle.goal_ast.specs.Evaluation.{eval_of}
use Rattle.zify.specs.Translation.{translated}
use Rattle.clause_form.specs.declared.named.Named.{Named}
use Rattle.clause_form.specs.Clauses.{clauses_of}
use Rattle.box_enum.specs.Cube.{cube_of}
use Rattle.clause_engine.specs.declared.outcome.Why.{Why}
use Rattle.goal_serve.specs.declared.trying.Reached.{Reached}
use Rattle.goal_serve.specs.declared.trying.Reached.TheVariants as reached
use Rattle.goal_serve.specs.declared.trying.Tried.{Tried}
use Rattle.goal_serve.specs.declared.trying.Tried.TheVariants as tried
use Rattle.goal_serve.specs.declared.trying.Next.{Next}
use Rattle.goal_serve.specs.declared.trying.Next.TheVariants as next
use Rattle.goal_serve.specs.declared.answers.Answer.TheVariants as answers
use Rattle.goal_serve.specs.Answering.{IsShown, AreShown, Refutes, IsWitnessed, MayStay, StaysAt, MeetsTests}

-- one of the goal's clauses, with fewer than 2^32 rows
pub record IsClauseOf (goal : Goal) (n : Named) : Type 0 where
  pub place : ℕ
  pub there : slice_get (clauses_of (translated goal)) place ≡ Some n
  pub short : length n.clause.rows < 2 ^ 32

abbrev pub IsReached : Goal → ℕ → Named → Reached → Type 0
IsReached goal turns n (reached.Shown s) = IsShown n s × (IsWitnessed goal turns n → ⊥)
IsReached goal turns n (reached.Refuted a) = Refutes goal a
IsReached goal turns n (reached.Stays why) = (IsWitnessed goal turns n → ⊥) × MayStay goal turns n why

-- refuted by the assignment where the body is false there, else the clause stays
abbrev pub IsJudged : Goal → Assignment → Why → Reached → Type 0
IsJudged goal a why (reached.Shown s) = ⊥
IsJudged goal a why (reached.Refuted b) = Refutes goal b
IsJudged goal a why (reached.Stays w) = (w ≡ why) × (eval_of (point_of a.values) goal.body ≢ evals.False)

-- all have certificates, or the first that stays, and then the cube doesn't hold
abbrev pub IsTried : Goal → ℕ → List Named → Tried → Type 0
IsTried goal turns cs (tried.All shown) = AreShown cs shown.items
IsTried goal turns cs (tried.Stays k why) = StaysAt goal turns cs k why × (cube_of goal ≡ None)

-- the clauses with one more tried, or a refutation: by the cube where it holds
abbrev pub IsNext : Goal → ℕ → List Named → Named → Next → Type 0
IsNext goal turns cs n (next.Go t) = IsTried goal turns (cs ++ n ∷ []) t × (IsWitnessed goal turns n → ⊥)
IsNext goal turns cs n (next.Refuted a) = MeetsTests (cube_of goal) goal turns (clauses_of (translated goal)) (answers.Refuted a)

-- what is made of the clauses that were tried and of what comes of one more
abbrev pub GoesOn : Goal → Tried → ℕ → Reached → Next → Type 0
GoesOn goal t number r after = (turns : ℕ) (cs : List Named) (n : Named) → IsTried goal turns cs t → number ≡ length cs → IsReached goal turns n r → IsNext goal turns cs n after
