-- What reading comes to is the file or its first refusal.
use Rattle.std.proofs.Common.{◌≡◌, ◌≢◌, ℕ, List, [], ◌∷◌, length, inl, inr, refl, sym, subst, ◌∙◌, append_assoc}
use Rattle.std.specs.Prelude.{Result, Ok, Err, IfOk, IfErr}
use Rattle.goal_token.specs.declared.token.Placed.{Placed}
use Rattle.goal_token.specs.Tokens.{tokens_of}
use Rattle.goal_text.specs.declared.fail.TextFail.{TextFail}
use Rattle.goal_text.specs.declared.fail.TextFail.TheVariants.{Bad, Long, Many, NoMemory}
use Rattle.goal_sort.specs.declared.raw.RawSession.{RawSession}
use Rattle.goal_text.specs.Files.{Sessions, Reads}
use Rattle.goal_text.specs.Steps.{nothing_read}
use Rattle.goal_text.specs.Outcome.{outcome}
use Rattle.goal_text.specs.Refusals.{IsBad, IsLong, IsMany, IsWithin, At, IsRefused}
use Rattle.goal_text.specs.GoalsRead.{AreGoalsOfFile}
use Rattle.goal_text.specs.Reading.{Comes}
use Rattle.goal_text.proofs.OutcomeLaws.{IsRight, reading_right}
use Rattle.goal_text.proofs.ShortLaws.{all_read}

-- reading all of the bytes
abbrev all_of : List ℕ → Result (List RawSession) TextFail
all_of bytes = outcome (length bytes) nothing_read (record { sessions = 0; goals = 0 }) (tokens_of bytes)

is_right : (bytes : List ℕ) (r : Result (List RawSession) TextFail) → all_of bytes ≡ r → IsRight (tokens_of bytes) (length bytes) r
is_right bytes r e = subst (λ r. IsRight (tokens_of bytes) (length bytes) r) e (reading_right (length bytes) (tokens_of bytes))

pub read_found : (bytes : List ℕ) (r : Result (List RawSession) TextFail) → Comes r (all_of bytes) → IfOk r (λ ss. Reads bytes ss × IsWithin (tokens_of bytes))
read_found bytes (Ok ss) e = is_right bytes (Ok ss) e
read_found bytes (Err fail) e = tt

pub read_goals : (bytes : List ℕ) (r : Result (List RawSession) TextFail) → Comes r (all_of bytes) → IfOk r AreGoalsOfFile
read_goals bytes (Ok ss) e = let right = is_right bytes (Ok ss) e in all_read bytes ss right.0 right.1
read_goals bytes (Err fail) e = tt

pub read_refused : (bytes : List ℕ) (r : Result (List RawSession) TextFail) → Comes r (all_of bytes) → IfErr r (IsRefused bytes)
read_refused bytes (Ok ss) e = tt
read_refused bytes (Err (Bad at)) e = is_right bytes (Err (Bad at)) e
read_refused bytes (Err (Long at)) e = is_right bytes (Err (Long at)) e
read_refused bytes (Err (Many at)) e = is_right bytes (Err (Many at)) e
read_refused bytes (Err NoMemory) e = tt

-- ---- a refusal is of no file within the limits

abbrev IsNoFile : List ℕ → Type 0
IsNoFile bytes = (ss : List RawSession) → Reads bytes ss → IsWithin (tokens_of bytes) → ⊥

bad_is_none : (all : List Placed) (at : ℕ) (ss : List RawSession) → At IsBad at all → Sessions ss all → ⊥
bad_is_none all at ss (before, after, t, split, bad, within, is) file = bad.1 (after, ss, subst (λ ts. Sessions ss ts) (split ∙ sym (append_assoc before (t ∷ []) after)) file)

long_is_none : (all : List Placed) (at : ℕ) → At IsLong at all → IsWithin all → ⊥
long_is_none all at (before, after, t, split, long, within, is) all_within = (all_within before after t split).0 long

many_is_none : (all : List Placed) (at : ℕ) → At IsMany at all → IsWithin all → ⊥
many_is_none all at (before, after, t, split, many, within, is) all_within = (all_within before after t split).1 many

pub refused_is_none : (bytes : List ℕ) (fail : TextFail) → IsRefused bytes fail → fail ≢ NoMemory → IsNoFile bytes
refused_is_none bytes (Bad at) (inl k) other ss file within = bad_is_none (tokens_of bytes) at ss k file
refused_is_none bytes (Bad at) (inr k) other ss file within = k.0.1 ss file
refused_is_none bytes (Long at) k other ss file within = long_is_none (tokens_of bytes) at k within
refused_is_none bytes (Many at) k other ss file within = many_is_none (tokens_of bytes) at k within
refused_is_none bytes NoMemory k other ss file within = other refl

pub read_exact : (bytes : List ℕ) (r : Result (List RawSession) TextFail) → Comes r (all_of bytes)
    → IfErr r (λ fail. fail ≢ NoMemory → (ss : List RawSession) → Reads bytes ss → IsWithin (tokens_of bytes) → ⊥)
read_exact bytes (Ok ss) e = tt
read_exact bytes (Err fail) e = refused_is_none bytes fail (read_refused bytes (Err fail) e)
