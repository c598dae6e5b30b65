-- A file within the limits has few sessions and goals, and its sessions have names.
use Rattle.std.proofs.Common.{◌≡◌, ℕ, zero, suc, ◌+◌, ◌≤◌, ◌<◌, Bool, true, false, List, [], ◌∷◌, ◌++◌, length, inl, inr, refl, sym, ap, subst, ◌∙◌, length-append, append_assoc, arith}
use Rattle.std.specs.Prelude.{nat_le}
use Rattle.std.specs.List.{AllByRecursion}
use Rattle.std.proofs.lemmas.List.Sums.{sum_by-append}
use Rattle.mm_num.proofs.ListLaws.{all_join}
use Rattle.goal_ast.specs.declared.goal.Mode.{Mode}
use Rattle.goal_ast.specs.declared.goal.Mode.TheVariants.{Lia, Nia}
use Rattle.goal_token.specs.declared.token.Keyword.{Keyword}
use Rattle.goal_token.specs.declared.token.Keyword.TheVariants as keywords
use Rattle.goal_token.specs.declared.token.Sign.TheVariants as signs
use Rattle.goal_token.specs.declared.token.Token.TheVariants as tokens
use Rattle.goal_token.specs.declared.token.Placed.{Placed}
use Rattle.goal_token.specs.Spacing.{IsName}
use Rattle.goal_token.specs.Tokens.{tokens_of}
use Rattle.goal_token.proofs.SpacingLaws.{IsNamed, of_name_token}
use Rattle.goal_sort.specs.declared.raw.RawGoal.{RawGoal}
use Rattle.goal_sort.specs.declared.raw.RawSession.{RawSession}
use Rattle.goal_text.specs.Grammar.{sign}
use Rattle.goal_text.specs.Files.{word, name, mode_word, MayProve, at_once, proof, MayEnd, no_end, qed, Goals, no_goal, next_goal, Sessions, no_session, next_session, Reads}
use Rattle.goal_text.specs.Steps.{kind_of}
use Rattle.goal_text.specs.Outcome.{is_session, is_goal, one_if}
use Rattle.goal_text.specs.Refusals.{count_one, count, IsFront, IsWithin}
use Rattle.goal_text.specs.GoalsRead.{goals_in, AreWithin}
use Rattle.goal_text.proofs.OutcomeLaws.{count_append, session_counts, goal_counts, session_is, goal_is}
use Rattle.goal_text.proofs.ReadableLaws.{all_of_first, all_of_second}
use Rattle.goal_text.proofs.WithinLaws.{expression_no_keyword, prefixes_no_keyword, no_count}

-- ---- words counted

proof_counts : {ts : List Placed} → MayProve ts → (count keywords.Session ts ≡ 0) × (count keywords.Goal ts ≡ 0)
proof_counts at_once = (refl, refl)
proof_counts (proof p q) = (refl, refl)

end_counts : {ts : List Placed} → MayEnd ts → (count keywords.Session ts ≡ 0) × (count keywords.Goal ts ≡ 0)
end_counts no_end = (refl, refl)
end_counts (qed p q) = (refl, refl)

mode_counts : (m : Mode) → (count_one keywords.Session (tokens.Keyword (mode_word m)) ≡ 0) × (count_one keywords.Goal (tokens.Keyword (mode_word m)) ≡ 0)
mode_counts Lia = (refl, refl)
mode_counts Nia = (refl, refl)

-- the tokens of a goal after its first word
after_word : (k : Keyword) (m : Mode) (q r t : ℕ) (us vs ws xs : List Placed) → count_one k (tokens.Sign signs.Dot) ≡ 0 → count k us ≡ 0 → count k vs ≡ 0 → count k ws ≡ 0 → count_one k (tokens.Keyword (mode_word m)) ≡ 0 → count k xs ≡ 0
    → count k (us ++ (vs ++ sign signs.Dot q ∷ (ws ++ word (mode_word m) r ∷ sign signs.Dot t ∷ xs))) ≡ 0
after_word k m q r t us vs ws xs dot a b c d e =
    let last : List Placed = word (mode_word m) r ∷ sign signs.Dot t ∷ xs in
    omega (arith, dot, a, b, c, d, e, count_append k us (vs ++ sign signs.Dot q ∷ (ws ++ last)), count_append k vs (sign signs.Dot q ∷ (ws ++ last)), count_append k ws last)

goals_count : {gs : List RawGoal} {ts : List Placed} → Goals gs ts → (count keywords.Session ts ≡ 0) × (count keywords.Goal ts ≡ length gs)
goals_count no_goal = (refl, refl)
goals_count (next_goal {gs = gs} {bs = bs} {e = e} {ts = ts} {us = us} {vs = vs} {ws = ws} {xs = xs} m p q r t before prefixes body proving ending) =
    let after : List Placed = us ++ (vs ++ sign signs.Dot q ∷ (ws ++ word (mode_word m) r ∷ sign signs.Dot t ∷ xs)) in
    let goal : RawGoal = record { mode = m; bound = bs; body = e; at = p } in
    let so_far = goals_count before in
    let in_proof = proof_counts proving in
    let in_end = end_counts ending in
    let in_mode = mode_counts m in
    let s = after_word keywords.Session m q r t us vs ws xs refl (no_count keywords.Session us (prefixes_no_keyword keywords.Session (λ f. absurd cc) prefixes)) (no_count keywords.Session vs (expression_no_keyword keywords.Session body)) in_proof.0 in_mode.0 in_end.0 in
    let g = after_word keywords.Goal m q r t us vs ws xs refl (no_count keywords.Goal us (prefixes_no_keyword keywords.Goal (λ f. absurd cc) prefixes)) (no_count keywords.Goal vs (expression_no_keyword keywords.Goal body)) in_proof.1 in_mode.1 in_end.1 in
    (omega (arith, so_far.0, s, count_append keywords.Session ts (word keywords.Goal p ∷ after)), omega (arith, so_far.1, g, count_append keywords.Goal ts (word keywords.Goal p ∷ after), length-append gs (goal ∷ [])))

goals_more : (ss : List RawSession) (s : RawSession) → goals_in (ss ++ s ∷ []) ≡ goals_in ss + length s.goals
goals_more ss s = omega (arith, sum_by-append (λ (x : RawSession). length x.goals) ss (s ∷ []))

sessions_count : {ss : List RawSession} {ts : List Placed} → Sessions ss ts → (count keywords.Session ts ≡ length ss) × (count keywords.Goal ts ≡ goals_in ss)
sessions_count no_session = (refl, refl)
sessions_count (next_session {ss = ss} {gs = gs} {ts = ts} {us = us} n p q before goals) =
    let session : RawSession = record { name = n.name; goals = gs } in
    let after : List Placed = word keywords.Session p ∷ name n ∷ sign signs.Dot q ∷ us in
    let so_far = sessions_count before in
    let inside = goals_count goals in
    (omega (arith, so_far.0, inside.0, count_append keywords.Session ts after, length-append ss (session ∷ [])), omega (arith, so_far.1, inside.1, count_append keywords.Goal ts after, goals_more ss session))

-- ---- the word after so many others

record Cut (k : Keyword) (test : Placed → Bool) (n : ℕ) (ts : List Placed) : Type 0 where
  pub before : List Placed
  pub after : List Placed
  pub one : Placed
  pub spelled : ts ≡ before ++ one ∷ after
  pub is : test one ≡ true
  pub counted : n ≤ count k before

longer : (k : Keyword) (test : Placed → Bool) (m n : ℕ) (t : Placed) (ts : List Placed) → n ≤ count_one k t.token + m → Cut k test m ts → Cut k test n (t ∷ ts)
longer k test m n t ts le c = record {
  before = t ∷ c.before;
  after = c.after;
  one = c.one;
  spelled = ap (λ (us : List Placed). t ∷ us) c.spelled;
  is = c.is;
  counted = omega (arith, le, c.counted);
}

cut : (k : Keyword) (test : Placed → Bool) → ((t : Placed) → one_if (test t) ≡ count_one k t.token) → (ts : List Placed) (n : ℕ) → n < count k ts → Cut k test n ts
cut k test same [] n lt = absurd (omega (arith, lt))
cut k test same (t ∷ ts) n lt = by (test t) refl n lt (λ m. cut k test same ts m)
  where
    by : (b : Bool) → test t ≡ b → (n : ℕ) → n < count k (t ∷ ts) → ((m : ℕ) → m < count k ts → Cut k test m ts) → Cut k test n (t ∷ ts)
    by false e n lt later = let none : count_one k t.token ≡ 0 = sym (same t) ∙ ap one_if e in longer k test n n t ts (omega (arith, none)) (later n (omega (arith, lt, none)))
    by true e zero lt later = record { before = []; after = ts; one = t; spelled = refl; is = e; counted = omega arith }
    by true e (suc m) lt later = let one : count_one k t.token ≡ 1 = sym (same t) ∙ ap one_if e in longer k test m (suc m) t ts (omega (arith, one)) (later m (omega (arith, lt, one)))

-- ---- few sessions and goals

begins : (before after : List Placed) (t : Placed) (ss : List RawSession) (ts : List Placed) → Sessions ss ts → ts ≡ before ++ t ∷ after → IsFront (before ++ t ∷ [])
begins before after t ss ts sessions e = (after, ss, subst (λ (us : List Placed). Sessions ss us) (e ∙ sym (append_assoc before (t ∷ []) after)) sessions)

at_most : (n limit : ℕ) → (limit < n → ⊥) → n ≤ limit
at_most n limit none = by (nat_le n limit) refl
  where
    by : (b : Bool) → nat_le n limit ≡ b → n ≤ limit
    by true e = grind arith
    by false e = let lt : limit < n = grind arith in absurd (none lt)

few_sessions : (ss : List RawSession) (ts : List Placed) → Sessions ss ts → IsWithin ts → count keywords.Session ts ≤ 64
few_sessions ss ts sessions within = at_most (count keywords.Session ts) 64 (λ lt. refuse (cut keywords.Session (λ t. is_session (kind_of t.token)) (λ t. session_counts t.token) ts 64 lt))
  where
    refuse : Cut keywords.Session (λ t. is_session (kind_of t.token)) 64 ts → ⊥
    refuse c = (within c.before c.after c.one c.spelled).1 (begins c.before c.after c.one ss ts sessions c.spelled, inl (session_is c.one c.is, c.counted))

few_goals : (ss : List RawSession) (ts : List Placed) → Sessions ss ts → IsWithin ts → count keywords.Goal ts ≤ 1024
few_goals ss ts sessions within = at_most (count keywords.Goal ts) 1024 (λ lt. refuse (cut keywords.Goal (λ t. is_goal (kind_of t.token)) (λ t. goal_counts t.token) ts 1024 lt))
  where
    refuse : Cut keywords.Goal (λ t. is_goal (kind_of t.token)) 1024 ts → ⊥
    refuse c = (within c.before c.after c.one c.spelled).1 (begins c.before c.after c.one ss ts sessions c.spelled, inr (goal_is c.one c.is, c.counted))

-- ---- names

names_of_sessions : {ss : List RawSession} {ts : List Placed} → Sessions ss ts → AllByRecursion (λ (t : Placed). IsNamed t.token) ts → AllByRecursion (λ (s : RawSession). IsName s.name.bytes) ss
names_of_sessions no_session all = tt
names_of_sessions (next_session {ss = ss} {gs = gs} {ts = ts} {us = us} n p q before goals) all =
    let after : List Placed = word keywords.Session p ∷ name n ∷ sign signs.Dot q ∷ us in
    let front = all_of_first (λ (t : Placed). IsNamed t.token) ts after all in
    let back = all_of_second (λ (t : Placed). IsNamed t.token) ts after all in
    all_join (λ (s : RawSession). IsName s.name.bytes) ss (record { name = n.name; goals = gs } ∷ []) (names_of_sessions before front) (back.1.0, tt)

-- a file within the limits
pub within_limits : (bytes : List ℕ) (ss : List RawSession) → Reads bytes ss → IsWithin (tokens_of bytes) → AreWithin ss
within_limits bytes ss reads within =
    let counted = sessions_count reads in
    record {
      sessions = omega (arith, counted.0, few_sessions ss (tokens_of bytes) reads within);
      goals = omega (arith, counted.1, few_goals ss (tokens_of bytes) reads within);
      named = names_of_sessions reads (of_name_token bytes);
    }
