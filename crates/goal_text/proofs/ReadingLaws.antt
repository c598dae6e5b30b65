-- Reading all tokens, one step at a time.
use Rattle.std.proofs.Common.{◌≡◌, ℕ, ◌+◌, ◌≤◌, List, ◌∷◌, Bool, true, false, Option, Some, None, refl, sym, ap, subst, ◌∙◌, arith}
use Rattle.std.specs.Prelude.{Result, Ok, Err, IfSome, nat_le, ◌&&◌, ◌||◌, not, if◌then◌else◌}
use Rattle.std.specs.Option.{option_map_or}
use Rattle.std.proofs.lemmas.Bool.Decides.{nat_tests}
use Rattle.goal_token.specs.declared.token.Placed.{Placed}
use Rattle.goal_token.specs.Tokens.{IsTaken}
use Rattle.goal_text.specs.declared.fail.TextFail.{TextFail}
use Rattle.goal_text.specs.declared.fail.TextFail.TheVariants.{Bad, Long, Many, NoMemory}
use Rattle.goal_sort.specs.declared.raw.RawSession.{RawSession}
use Rattle.goal_text.specs.Steps.{kind_of, is_dot, FileRead, file_with}
use Rattle.goal_text.specs.Counts.{body_count, bound_count}
use Rattle.goal_text.specs.Outcome.{is_session, is_goal, is_name, Begun, one_if, begun_with, is_many, is_long, limit_at, outcome}
use Rattle.goal_text.specs.Reading.{Refuses, or_bad, unless, taken, IsFew}
use Rattle.goal_text.proofs.BodyLaws.{IsNext, body_next_count}

abbrev Outcome : Type 0
Outcome = Result (List RawSession) TextFail

pub outcome_step : (end : ℕ) (f g : FileRead) (b : Begun) (t : Placed) (ts : List Placed) → taken f b t ≡ Ok g → outcome end f b (t ∷ ts) ≡ outcome end g (begun_with b (kind_of t.token)) ts
outcome_step end f g b t ts e = by_step (file_with f t) (limit_at f b t) (λ g. outcome end g (begun_with b (kind_of t.token)) ts) e
  where
    by_step : (o : Option FileRead) (l : Option TextFail) (k : FileRead → Outcome)
        → (elim (or_bad t.at o) as (λ _. Result FileRead TextFail) [ Err fail ↦ Err fail | Ok h ↦ unless l h ]) ≡ Ok g
        → (elim o as (λ _. Outcome) [ None ↦ Err (Bad t.at) | Some h ↦ elim l as (λ _. Outcome) [ Some fail ↦ Err fail | None ↦ k h ] ]) ≡ k g
    by_step None l k e = absurd cc
    by_step (Some h) (Some fail) k e = absurd cc
    by_step (Some h) None k e = let same : h ≡ g = cc in ap k same

pub outcome_fails : (end : ℕ) (f : FileRead) (b : Begun) (t : Placed) (ts : List Placed) (fail : TextFail) → taken f b t ≡ Err fail → outcome end f b (t ∷ ts) ≡ Err fail
outcome_fails end f b t ts fail e = by_step (file_with f t) (limit_at f b t) (λ g. outcome end g (begun_with b (kind_of t.token)) ts) e
  where
    by_step : (o : Option FileRead) (l : Option TextFail) (k : FileRead → Outcome)
        → (elim (or_bad t.at o) as (λ _. Result FileRead TextFail) [ Err fail ↦ Err fail | Ok h ↦ unless l h ]) ≡ Err fail
        → (elim o as (λ _. Outcome) [ None ↦ Err (Bad t.at) | Some h ↦ elim l as (λ _. Outcome) [ Some fail ↦ Err fail | None ↦ k h ] ]) ≡ Err fail
    by_step None l k e = let same : Bad t.at ≡ fail = cc in ap (λ fail. Err fail) same
    by_step (Some h) (Some other) k e = let same : other ≡ fail = cc in ap (λ fail. Err fail) same
    by_step (Some h) None k e = absurd cc

-- an error is what it refuses with
pub refuses_so : {A : Type 0} (fail : TextFail) (r : Result A TextFail) → r ≡ Err fail → Refuses fail r
refuses_so (Bad at) r e = e
refuses_so (Long at) r e = e
refuses_so (Many at) r e = e
refuses_so NoMemory r e = tt

-- what refuses a token refuses all
pub outcome_refused : (end : ℕ) (f : FileRead) (b : Begun) (t : Placed) (ts : List Placed) (fail : TextFail) → Refuses fail (taken f b t) → Refuses fail (outcome end f b (t ∷ ts))
outcome_refused end f b t ts (Bad at) e = outcome_fails end f b t ts (Bad at) e
outcome_refused end f b t ts (Long at) e = outcome_fails end f b t ts (Long at) e
outcome_refused end f b t ts (Many at) e = outcome_fails end f b t ts (Many at) e
outcome_refused end f b t ts NoMemory e = tt

-- ---- the limits

-- a token that was taken may stand there, and passes no limit
taken_parts : (f g : FileRead) (b : Begun) (t : Placed) → taken f b t ≡ Ok g → (file_with f t ≡ Some g) × (limit_at f b t ≡ None)
taken_parts f g b t e = by_step (file_with f t) (limit_at f b t) refl refl e
  where
    by_step : (o : Option FileRead) (l : Option TextFail) → file_with f t ≡ o → limit_at f b t ≡ l
        → (elim (or_bad t.at o) as (λ _. Result FileRead TextFail) [ Err fail ↦ Err fail | Ok h ↦ unless l h ]) ≡ Ok g → (file_with f t ≡ Some g) × (limit_at f b t ≡ None)
    by_step None l is none e = absurd cc
    by_step (Some h) (Some fail) is none e = absurd cc
    by_step (Some h) None is none e = let same : h ≡ g = cc in (is ∙ ap (λ h. Some h) same, none)

no_limits : (m l : Bool) (a b : TextFail) → (if m then Some a else if l then Some b else None) ≡ None → (m ≡ false) × (l ≡ false)
no_limits true l a b e = absurd cc
no_limits false true a b e = absurd cc
no_limits false false a b e = (refl, refl)

neither : (a b : Bool) → a || b ≡ false → (a ≡ false) × (b ≡ false)
neither true b e = absurd cc
neither false b e = (refl, e)

one_more : (limit n : ℕ) (b : Bool) → b && nat_le limit n ≡ false → n ≤ limit → n + one_if b ≤ limit
one_more limit n true e le = let k : nat_le limit n ≡ false = e in grind (arith, nat_tests)
one_more limit n false e le = omega arith

body_kept : (before after : Option ℕ) (dot : Bool) → IsNext before dot after → option_map_or (λ n. nat_le 2048 n) before false && not dot ≡ false → IfSome after (λ n. n ≤ 2048)
body_kept before None dot next e = tt
body_kept None (Some n) dot next e = let k : n ≡ 1 = next in omega arith
body_kept (Some m) (Some n) true next e = let k : true ≡ false = next.1 in absurd cc
body_kept (Some m) (Some n) false next e = let k : nat_le 2048 m ≡ false = and_true (nat_le 2048 m) e in below m n next.0 k
  where
    and_true : (b : Bool) → b && true ≡ false → b ≡ false
    and_true true e = e
    and_true false e = refl

    below : (m n : ℕ) → n ≡ m + 1 → nat_le 2048 m ≡ false → n ≤ 2048
    below m n e k = grind (arith, nat_tests)

pub few_after : (f g : FileRead) (b : Begun) (t : Placed) → taken f b t ≡ Ok g → IsFew f b → IsFew g (begun_with b (kind_of t.token))
few_after f g b t e few =
    let k = taken_parts f g b t e in
    let n = no_limits (is_many b (kind_of t.token)) (is_long f (kind_of t.token)) (Many t.at) (Long t.at) k.1 in
    let many = neither (is_session (kind_of t.token) && nat_le 64 b.sessions) (is_goal (kind_of t.token) && nat_le 1024 b.goals) n.0 in
    let long = neither (option_map_or (λ n. nat_le 2048 n) (body_count f) false && not (is_dot (kind_of t.token))) (option_map_or (λ n. nat_le 256 n) (bound_count f) false && is_name (kind_of t.token)) n.1 in
    record {
      sessions = one_more 64 b.sessions (is_session (kind_of t.token)) many.0 few.sessions;
      goals = one_more 1024 b.goals (is_goal (kind_of t.token)) many.1 few.goals;
      body = body_kept (body_count f) (body_count g) (is_dot (kind_of t.token)) (body_next_count f g t k.0) long.0;
    }

-- ---- the loop over the tokens

-- the next token was taken
taken_next : (o : Option Placed) (t : Placed) (before after : List Placed) → IsTaken o before after → o ≡ Some t → before ≡ t ∷ after
taken_next o t before after next is = subst (λ o. IsTaken o before after) is next

pub loop_step : (end : ℕ) (f g : FileRead) (b more : Begun) (o : Option Placed) (t : Placed) (before after : List Placed) (whole : Outcome) → IsTaken o before after → o ≡ Some t → taken f b t ≡ Ok g
    → more ≡ begun_with b (kind_of t.token) → outcome end f b before ≡ whole → outcome end g more after ≡ whole
loop_step end f g b more o t before after whole next is read counted rest =
    ap (λ b. outcome end g b after) counted ∙ sym (outcome_step end f g b t after read) ∙ ap (λ ts. outcome end f b ts) (sym (taken_next o t before after next is)) ∙ rest

pub loop_few : (f g : FileRead) (b more : Begun) (t : Placed) → taken f b t ≡ Ok g → more ≡ begun_with b (kind_of t.token) → IsFew f b → IsFew g more
loop_few f g b more t read counted few = subst (λ b. IsFew g b) (sym counted) (few_after f g b t read few)

pub loop_fails : (end : ℕ) (f : FileRead) (b : Begun) (o : Option Placed) (t : Placed) (before after : List Placed) (whole : Outcome) (fail : TextFail) → IsTaken o before after → o ≡ Some t → Refuses fail (taken f b t)
    → outcome end f b before ≡ whole → Refuses fail whole
loop_fails end f b o t before after whole fail next is read rest =
    subst (λ whole. Refuses fail whole) (ap (λ ts. outcome end f b ts) (sym (taken_next o t before after next is)) ∙ rest) (outcome_refused end f b t after fail read)
