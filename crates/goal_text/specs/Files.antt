-- Goal files: sessions of goals, each with its prefixes, its body and its command.
use Rattle.std.specs.Prelude.{◌≢◌, ℕ, List, [], ◌∷◌, ◌++◌, map}
use Rattle.goal_ast.specs.declared.goal.Mode.{Mode}
use Rattle.goal_ast.specs.declared.goal.Mode.TheVariants.{Lia, Nia}
use Rattle.goal_ast.specs.declared.term.Sort.{Sort}
use Rattle.goal_token.specs.declared.token.Keyword.{Keyword}
use Rattle.goal_token.specs.declared.token.Keyword.TheVariants as keywords
use Rattle.goal_token.specs.declared.token.Sign.TheVariants as signs
use Rattle.goal_token.specs.declared.token.Token.TheVariants as tokens
use Rattle.goal_token.specs.declared.token.Placed.{Placed}
use Rattle.goal_token.specs.Tokens.{tokens_of}
use Rattle.goal_sort.specs.declared.raw.RawBound.{RawBound}
use Rattle.goal_sort.specs.declared.raw.RawExpr.{RawExpr}
use Rattle.goal_sort.specs.declared.raw.RawGoal.{RawGoal}
use Rattle.goal_sort.specs.declared.raw.RawSession.{RawSession}
use Rattle.goal_text.specs.declared.state.Named.{Named}
use Rattle.goal_text.specs.Grammar.{sign, Expr}

abbrev pub word : Keyword → ℕ → Placed
word k p = record { token = tokens.Keyword k; at = p }

abbrev pub sort : Sort → ℕ → Placed
sort s p = record { token = tokens.Sort s; at = p }

abbrev pub name : Named → Placed
name n = record { token = tokens.Name n.name; at = n.at }

-- ---- prefixes

-- names, a colon and their sort
abbrev pub group : List Named → ℕ → Sort → ℕ → List Placed
group names p s q = map name names ++ sign signs.Colon p ∷ sort s q ∷ []

-- the names bound to a sort
abbrev pub bounds : Sort → List Named → List RawBound
bounds s names = map (λ (n : Named). record { name = n.name; sort = s; at = n.at }) names

-- one or more groups, each in parentheses
pub data Groups : List RawBound → List Placed → Type 0 where
  first_group : (p q r t : ℕ) (names : List Named) (s : Sort) → names ≢ [] → Groups (bounds s names) (sign signs.Open p ∷ (group names q s r ++ sign signs.Close t ∷ []))
  next_group : {bs : List RawBound} {ts : List Placed} (p q r t : ℕ) (names : List Named) (s : Sort) → Groups bs ts → names ≢ []
      → Groups (bs ++ bounds s names) (ts ++ sign signs.Open p ∷ (group names q s r ++ sign signs.Close t ∷ []))

-- `forall`, one group or groups in parentheses, and a comma, any number of times
pub data Prefixes : List RawBound → List Placed → Type 0 where
  no_prefix : Prefixes [] []
  bare_prefix : {bs : List RawBound} {ts : List Placed} (p q r t : ℕ) (names : List Named) (s : Sort) → Prefixes bs ts → names ≢ []
      → Prefixes (bs ++ bounds s names) (ts ++ word keywords.Forall p ∷ (group names q s r ++ sign signs.Comma t ∷ []))
  grouped_prefix : {bs cs : List RawBound} {ts us : List Placed} (p t : ℕ) → Prefixes bs ts → Groups cs us → Prefixes (bs ++ cs) (ts ++ word keywords.Forall p ∷ (us ++ sign signs.Comma t ∷ []))

-- ---- commands

abbrev pub mode_word : Mode → Keyword
mode_word Lia = keywords.Lia
mode_word Nia = keywords.Nia

-- `Proof.` or nothing
pub data MayProve : List Placed → Type 0 where
  at_once : MayProve []
  proof : (p q : ℕ) → MayProve (word keywords.Proof p ∷ sign signs.Dot q ∷ [])

-- `Qed.` or nothing
pub data MayEnd : List Placed → Type 0 where
  no_end : MayEnd []
  qed : (p q : ℕ) → MayEnd (word keywords.Qed p ∷ sign signs.Dot q ∷ [])

-- ---- goals and sessions

pub data Goals : List RawGoal → List Placed → Type 0 where
  no_goal : Goals [] []
  next_goal : {gs : List RawGoal} {bs : List RawBound} {e : RawExpr} {ts us vs ws xs : List Placed} (m : Mode) (p q r t : ℕ) → Goals gs ts → Prefixes bs us → Expr 100 e vs → MayProve ws → MayEnd xs
      → Goals (gs ++ record { mode = m; bound = bs; body = e; at = p } ∷ [])
      (ts ++ word keywords.Goal p ∷ (us ++ (vs ++ sign signs.Dot q ∷ (ws ++ word (mode_word m) r ∷ sign signs.Dot t ∷ xs))))

pub data Sessions : List RawSession → List Placed → Type 0 where
  no_session : Sessions [] []
  next_session : {ss : List RawSession} {gs : List RawGoal} {ts us : List Placed} (n : Named) (p q : ℕ) → Sessions ss ts → Goals gs us
      → Sessions (ss ++ record { name = n.name; goals = gs } ∷ []) (ts ++ word keywords.Session p ∷ name n ∷ sign signs.Dot q ∷ us)

-- the bytes are a file of these sessions
abbrev pub Reads : List ℕ → List RawSession → Type 0
Reads bytes sessions = Sessions sessions (tokens_of bytes)
