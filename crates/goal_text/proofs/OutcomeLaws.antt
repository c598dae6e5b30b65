-- What reading all tokens comes to is the file, or its first refusal.
use Rattle.std.proofs.Common.{◌≡◌, ◌≢◌, ℕ, ◌+◌, ◌≤◌, Bool, true, false, cond, ◌⊎◌, inl, inr, List, [], ◌∷◌, ◌++◌, length, map, Option, Some, None, refl, sym, ap, subst, ◌∙◌, append_assoc, length-append, arith}
use Rattle.std.specs.Prelude.{nat_le, not, ◌&&◌, ◌||◌, Result, Ok, Err}
use Rattle.std.specs.Option.{option_map_or}
use Rattle.std.proofs.lemmas.Bool.{and_parts}
use Rattle.std.proofs.lemmas.List.{append-nil}
use Rattle.std.proofs.lemmas.Option.{same_Some}
use Rattle.mm_num.specs.Option.{◌>>=◌}
use Rattle.mm_num.proofs.OptionLaws.{bind_some, test_some}
use Rattle.goal_ast.specs.declared.goal.Name.{Name}
use Rattle.goal_token.specs.declared.token.Keyword.{Keyword}
use Rattle.goal_token.specs.declared.token.Keyword.TheVariants as keywords
use Rattle.goal_token.specs.declared.token.Sign.{Sign}
use Rattle.goal_token.specs.declared.token.Sign.TheVariants as signs
use Rattle.goal_token.specs.declared.token.Token.{Token}
use Rattle.goal_token.specs.declared.token.Token.TheVariants as tokens
use Rattle.goal_token.specs.declared.token.Placed.{Placed}
use Rattle.goal_text.specs.declared.fail.TextFail.{TextFail}
use Rattle.goal_text.specs.declared.fail.TextFail.TheVariants.{Bad, Long, Many, NoMemory}
use Rattle.goal_text.specs.declared.kind.Kind.{Kind}
use Rattle.goal_text.specs.declared.kind.Kind.TheVariants as kinds
use Rattle.goal_sort.specs.declared.raw.RawBound.{RawBound}
use Rattle.goal_sort.specs.declared.raw.RawSession.{RawSession}
use Rattle.goal_text.specs.declared.state.Named.{Named}
use Rattle.goal_text.specs.declared.state.State.TheVariants as states
use Rattle.goal_text.specs.declared.state.Between.TheVariants as betweens
use Rattle.goal_text.specs.declared.state.Part.{Part}
use Rattle.goal_text.specs.declared.state.Part.TheVariants as parts
use Rattle.goal_text.specs.Grammar.{sign}
use Rattle.goal_text.specs.Operands.{Reading}
use Rattle.goal_text.specs.Files.{word, name, Prefixes, Sessions, no_session}
use Rattle.goal_text.specs.Steps.{kind_of, named, is_dot, FileRead, file_with, file_with_all, nothing_read, file_of}
use Rattle.goal_text.specs.Counts.{body_count, bound_count}
use Rattle.goal_text.specs.Outcome.{is_session, is_goal, is_name, Begun, one_if, begun_with, is_many, is_long, limit_at, ended, outcome}
use Rattle.goal_text.specs.Refusals.{IsFront, IsBad, IsBadEnd, count_one, count, IsOneTooMany, BodySoFar, names_in, BoundSoFar, IsTooLong, IsLong, IsMany, IsWithin, At}
use Rattle.goal_text.proofs.FileLaws.{all_append, after_all, sessions_read}
use Rattle.goal_text.proofs.KnownLaws.{Is, kind_is, dot_is, KnownPart, InGroups}
use Rattle.goal_text.proofs.StandingLaws.{HasRead}
use Rattle.goal_text.proofs.SessionLaws.{KnownFile, file_known, file_ends}
use Rattle.goal_text.proofs.FrontLaws.{file_front}
use Rattle.goal_text.proofs.CleanLaws.{has_no_append, names_append, body_has_no_dot, body_begins, names_no_comma, names_count, groups_no_comma, groups_count}
use Rattle.goal_text.proofs.CountLaws.{body_counted, names_counted}

-- ---- a token that passes a limit, as reading tells

pub session_is : (t : Placed) → is_session (kind_of t.token) ≡ true → t.token ≡ tokens.Keyword keywords.Session
session_is t e = by_kind (kind_of t.token) (kind_is t) e
  where
    by_word : (k : Keyword) → t ≡ word k t.at → is_session (kinds.Keyword k) ≡ true → t.token ≡ tokens.Keyword keywords.Session
    by_word keywords.Session is e = ap (λ (t : Placed). t.token) is
    by_word keywords.Goal is e = absurd cc
    by_word keywords.Proof is e = absurd cc
    by_word keywords.Qed is e = absurd cc
    by_word keywords.Lia is e = absurd cc
    by_word keywords.Nia is e = absurd cc
    by_word keywords.Forall is e = absurd cc

    by_kind : (k : Kind) → Is k t → is_session k ≡ true → t.token ≡ tokens.Keyword keywords.Session
    by_kind (kinds.Keyword k) is e = by_word k is e
    by_kind kinds.Dot is e = absurd cc
    by_kind (kinds.Sort s) is e = absurd cc
    by_kind (kinds.Name x) is e = absurd cc
    by_kind kinds.Comma is e = absurd cc
    by_kind kinds.Colon is e = absurd cc
    by_kind kinds.Open is e = absurd cc
    by_kind kinds.Close is e = absurd cc
    by_kind kinds.Other is e = absurd cc

pub goal_is : (t : Placed) → is_goal (kind_of t.token) ≡ true → t.token ≡ tokens.Keyword keywords.Goal
goal_is t e = by_kind (kind_of t.token) (kind_is t) e
  where
    by_word : (k : Keyword) → t ≡ word k t.at → is_goal (kinds.Keyword k) ≡ true → t.token ≡ tokens.Keyword keywords.Goal
    by_word keywords.Goal is e = ap (λ (t : Placed). t.token) is
    by_word keywords.Session is e = absurd cc
    by_word keywords.Proof is e = absurd cc
    by_word keywords.Qed is e = absurd cc
    by_word keywords.Lia is e = absurd cc
    by_word keywords.Nia is e = absurd cc
    by_word keywords.Forall is e = absurd cc

    by_kind : (k : Kind) → Is k t → is_goal k ≡ true → t.token ≡ tokens.Keyword keywords.Goal
    by_kind (kinds.Keyword k) is e = by_word k is e
    by_kind kinds.Dot is e = absurd cc
    by_kind (kinds.Sort s) is e = absurd cc
    by_kind (kinds.Name x) is e = absurd cc
    by_kind kinds.Comma is e = absurd cc
    by_kind kinds.Colon is e = absurd cc
    by_kind kinds.Open is e = absurd cc
    by_kind kinds.Close is e = absurd cc
    by_kind kinds.Other is e = absurd cc

name_is : (t : Placed) → is_name (kind_of t.token) ≡ true → (x : Name) × (t.token ≡ tokens.Name x)
name_is t e = by_kind (kind_of t.token) (kind_is t) e
  where
    by_kind : (k : Kind) → Is k t → is_name k ≡ true → (x : Name) × (t.token ≡ tokens.Name x)
    by_kind (kinds.Name x) is e = (x, ap (λ (t : Placed). t.token) is)
    by_kind (kinds.Keyword k) is e = absurd cc
    by_kind kinds.Dot is e = absurd cc
    by_kind (kinds.Sort s) is e = absurd cc
    by_kind kinds.Comma is e = absurd cc
    by_kind kinds.Colon is e = absurd cc
    by_kind kinds.Open is e = absurd cc
    by_kind kinds.Close is e = absurd cc
    by_kind kinds.Other is e = absurd cc

-- the sessions and goals that have begun are those in the tokens
abbrev pub AreBegun : Begun → List Placed → Type 0
AreBegun b ts = (b.sessions ≡ count keywords.Session ts) × (b.goals ≡ count keywords.Goal ts)

pub count_append : (k : Keyword) (ts us : List Placed) → count k (ts ++ us) ≡ count k ts + count k us
count_append k [] us = omega arith
count_append k (t ∷ ts) us = omega (arith, count_append k ts us)

pub session_counts : (t : Token) → one_if (is_session (kind_of t)) ≡ count_one keywords.Session t
session_counts (tokens.Keyword keywords.Session) = refl
session_counts (tokens.Keyword keywords.Goal) = refl
session_counts (tokens.Keyword keywords.Proof) = refl
session_counts (tokens.Keyword keywords.Qed) = refl
session_counts (tokens.Keyword keywords.Lia) = refl
session_counts (tokens.Keyword keywords.Nia) = refl
session_counts (tokens.Keyword keywords.Forall) = refl
session_counts (tokens.Sort s) = refl
session_counts (tokens.Constant c) = refl
session_counts (tokens.Function f) = refl
session_counts (tokens.Name x) = refl
session_counts (tokens.Literal n) = refl
session_counts tokens.Wrong = refl
session_counts (tokens.Sign s) = by_sign s
  where
    by_sign : (s : Sign) → one_if (is_session (kind_of (tokens.Sign s))) ≡ 0
    by_sign signs.Dot = refl
    by_sign signs.Comma = refl
    by_sign signs.Colon = refl
    by_sign signs.Open = refl
    by_sign signs.Close = refl
    by_sign s = refl

pub goal_counts : (t : Token) → one_if (is_goal (kind_of t)) ≡ count_one keywords.Goal t
goal_counts (tokens.Keyword keywords.Session) = refl
goal_counts (tokens.Keyword keywords.Goal) = refl
goal_counts (tokens.Keyword keywords.Proof) = refl
goal_counts (tokens.Keyword keywords.Qed) = refl
goal_counts (tokens.Keyword keywords.Lia) = refl
goal_counts (tokens.Keyword keywords.Nia) = refl
goal_counts (tokens.Keyword keywords.Forall) = refl
goal_counts (tokens.Sort s) = refl
goal_counts (tokens.Constant c) = refl
goal_counts (tokens.Function f) = refl
goal_counts (tokens.Name x) = refl
goal_counts (tokens.Literal n) = refl
goal_counts tokens.Wrong = refl
goal_counts (tokens.Sign s) = by_sign s
  where
    by_sign : (s : Sign) → one_if (is_goal (kind_of (tokens.Sign s))) ≡ 0
    by_sign signs.Dot = refl
    by_sign signs.Comma = refl
    by_sign signs.Colon = refl
    by_sign signs.Open = refl
    by_sign signs.Close = refl
    by_sign s = refl

begun_more : (b : Begun) (ts : List Placed) (t : Placed) → AreBegun b ts → AreBegun (begun_with b (kind_of t.token)) (ts ++ t ∷ [])
begun_more b ts t h =
    let s = count_append keywords.Session ts (t ∷ []) in
    let g = count_append keywords.Goal ts (t ∷ []) in
    let one = session_counts t.token in
    let two = goal_counts t.token in
    (omega (arith, h.0, s, one), omega (arith, h.1, g, two))

-- one session or goal too many
many_is : (b : Begun) (ts : List Placed) (t : Placed) → AreBegun b ts → is_many b (kind_of t.token) ≡ true → IsOneTooMany ts t
many_is b ts t h e = both (is_session (kind_of t.token) && nat_le 64 b.sessions) (is_goal (kind_of t.token) && nat_le 1024 b.goals) refl refl e
  where
    both : (s g : Bool) → is_session (kind_of t.token) && nat_le 64 b.sessions ≡ s → is_goal (kind_of t.token) && nat_le 1024 b.goals ≡ g → s || g ≡ true → IsOneTooMany ts t
    both true g a c e = let p = and_parts (is_session (kind_of t.token)) (nat_le 64 b.sessions) a in let le : 64 ≤ b.sessions = let k = p.1 in grind arith in inl (session_is t p.0, omega (arith, le, h.0))
    both false true a c e = let p = and_parts (is_goal (kind_of t.token)) (nat_le 1024 b.goals) c in let le : 1024 ≤ b.goals = let k = p.1 in grind arith in inr (goal_is t p.0, omega (arith, le, h.1))
    both false false a c e = absurd cc

is_many_of : (b : Begun) (ts : List Placed) (t : Placed) → AreBegun b ts → IsOneTooMany ts t → is_many b (kind_of t.token) ≡ true
is_many_of b ts t h (inl k) =
    let s : is_session (kind_of t.token) ≡ true = ap (λ k. is_session (kind_of k)) k.0 in
    let n : nat_le 64 b.sessions ≡ true = let le = k.1 in let is = h.0 in grind arith in
    rw s (rw n refl)
is_many_of b ts t h (inr k) =
    let s : is_session (kind_of t.token) ≡ false = ap (λ k. is_session (kind_of k)) k.0 in
    let g : is_goal (kind_of t.token) ≡ true = ap (λ k. is_goal (kind_of k)) k.0 in
    let n : nat_le 1024 b.goals ≡ true = let le = k.1 in let is = h.1 in grind arith in
    rw s (rw g (rw n refl))

-- ---- a body or a prefix that grows too long

-- the tokens of a goal that is being read, in the whole
in_goal_at : (us vs : List Placed) (p : ℕ) (n : Named) (q : ℕ) (ts gs ws : List Placed) (o : ℕ) → ts ≡ us ++ word keywords.Session p ∷ name n ∷ sign signs.Dot q ∷ vs → vs ≡ gs ++ word keywords.Goal o ∷ ws
    → ts ≡ (us ++ word keywords.Session p ∷ name n ∷ sign signs.Dot q ∷ gs) ++ word keywords.Goal o ∷ ws
in_goal_at us vs p n q ts gs ws o e f =
    e ∙ ap (λ vs. us ++ word keywords.Session p ∷ name n ∷ sign signs.Dot q ∷ vs) f ∙ sym (append_assoc us (word keywords.Session p ∷ name n ∷ sign signs.Dot q ∷ gs) (word keywords.Goal o ∷ ws))

body_made : (ts outer hs xs : List Placed) (p : ℕ) (bs : List RawBound) (r : Reading) → Prefixes bs hs → HasRead r xs → ts ≡ outer ++ word keywords.Goal p ∷ (hs ++ xs) → 2048 ≤ length xs → BodySoFar ts 2048
body_made ts outer hs [] p bs r prefixes read is le = absurd (omega (arith, le))
body_made ts outer hs (x ∷ xs) p bs r prefixes read is le = record {
  outer = outer;
  place = p;
  bound = bs;
  head = hs;
  prefixes = prefixes;
  first = x;
  others = xs;
  spelled = is;
  no_prefix = body_begins r x xs read;
  no_dot = body_has_no_dot r (x ∷ xs) read;
  size = le;
}

-- the tokens of a goal that is being read, after those of what stands before it
abbrev pub GoalIn : List Placed → ℕ → List RawBound → Part → Type 0
GoalIn ts p bs part = (outer : List Placed) × (vs : List Placed) × KnownPart bs part vs × (ts ≡ outer ++ word keywords.Goal p ∷ vs)

goal_in : (done : List RawSession) (w : RawSession) (p : ℕ) (bs : List RawBound) (part : Part) (ts : List Placed) → KnownFile done (states.Within w (betweens.Goal p bs part)) ts → GoalIn ts p bs part
goal_in done w p bs part ts h = let b = h.7 in (h.0 ++ word keywords.Session h.2 ∷ name h.3 ∷ sign signs.Dot h.4 ∷ b.0, b.1, b.3, in_goal_at h.0 h.1 h.2 h.3 h.4 ts b.0 b.1 p h.8 b.4)

body_long : (ts : List Placed) (p : ℕ) (bs : List RawBound) (r : Reading) (k n : ℕ) → GoalIn ts p bs (parts.Body r k) → Some k ≡ Some n → 2048 ≤ n → BodySoFar ts 2048
body_long ts p bs r k n g is le =
    let b = g.2 in
    let same : k ≡ n = same_Some k n is in
    let size : k ≡ length b.1 = b.3.1 in
    body_made ts g.0 b.0 b.1 p bs r b.2 b.3.0 (g.3 ∙ ap (λ vs. g.0 ++ word keywords.Goal p ∷ vs) b.4) (omega (arith, le, same, size))

long_body : (f : FileRead) (ts : List Placed) (n : ℕ) → KnownFile f.0 f.1 ts → body_count f ≡ Some n → 2048 ≤ n → BodySoFar ts 2048
long_body (done, states.Within w (betweens.Goal p bs (parts.Body r k))) ts n h is le = body_long ts p bs r k n (goal_in done w p bs (parts.Body r k) ts h) is le
long_body (done, states.Within w (betweens.Goal p bs parts.Head)) ts n h is le = absurd cc
long_body (done, states.Within w (betweens.Goal p bs parts.Binders)) ts n h is le = absurd cc
long_body (done, states.Within w (betweens.Goal p bs (parts.Bare names))) ts n h is le = absurd cc
long_body (done, states.Within w (betweens.Goal p bs (parts.BareSort names))) ts n h is le = absurd cc
long_body (done, states.Within w (betweens.Goal p bs parts.BareEnd)) ts n h is le = absurd cc
long_body (done, states.Within w (betweens.Goal p bs (parts.Grouped names))) ts n h is le = absurd cc
long_body (done, states.Within w (betweens.Goal p bs (parts.GroupedSort names))) ts n h is le = absurd cc
long_body (done, states.Within w (betweens.Goal p bs parts.GroupedEnd)) ts n h is le = absurd cc
long_body (done, states.Within w (betweens.Goal p bs parts.NextGroup)) ts n h is le = absurd cc
long_body (done, states.Within w (betweens.Goal p bs (parts.Command e))) ts n h is le = absurd cc
long_body (done, states.Within w (betweens.Goal p bs (parts.ProofEnd e))) ts n h is le = absurd cc
long_body (done, states.Within w (betweens.Goal p bs (parts.ModeAfterProof e))) ts n h is le = absurd cc
long_body (done, states.Within w (betweens.Goal p bs (parts.ModeEnd e m))) ts n h is le = absurd cc
long_body (done, states.Within w betweens.Open) ts n h is le = absurd cc
long_body (done, states.Within w betweens.Ended) ts n h is le = absurd cc
long_body (done, states.Within w betweens.QedEnd) ts n h is le = absurd cc
long_body (done, states.Start) ts n h is le = absurd cc
long_body (done, states.Name) ts n h is le = absurd cc
long_body (done, states.NameEnd m) ts n h is le = absurd cc

binders_long : (ts : List Placed) (p : ℕ) (bs : List RawBound) (n : ℕ) → GoalIn ts p bs parts.Binders → length bs ≡ n → 256 ≤ n → BoundSoFar ts 256
binders_long ts p bs n g is le =
    let b = g.2 in
    record {
      outer = g.0;
      place = p;
      bound = bs;
      head = b.0;
      prefixes = b.2;
      opening = b.1;
      others = [];
      spelled = g.3 ∙ ap (λ vs. g.0 ++ word keywords.Goal p ∷ vs) b.3;
      no_comma = tt;
      size = omega (arith, is, le);
    }

bare_long : (ts : List Placed) (p : ℕ) (bs : List RawBound) (names : List Named) (n : ℕ) → GoalIn ts p bs (parts.Bare names) → length bs + length names ≡ n → 256 ≤ n → BoundSoFar ts 256
bare_long ts p bs names n g is le =
    let b = g.2 in
    let f = b.1 in
    let count = names_count names in
    let vs : g.1 ≡ f.0 ++ word keywords.Forall f.1 ∷ map name names = b.3 ∙ ap (λ ys. ys ++ map name names) f.3 ∙ append_assoc f.0 (word keywords.Forall f.1 ∷ []) (map name names) in
    record {
      outer = g.0;
      place = p;
      bound = bs;
      head = f.0;
      prefixes = f.2;
      opening = f.1;
      others = map name names;
      spelled = g.3 ∙ ap (λ vs. g.0 ++ word keywords.Goal p ∷ vs) vs;
      no_comma = names_no_comma names;
      size = omega (arith, is, le, count);
    }

grouped_long : (ts : List Placed) (p : ℕ) (bs : List RawBound) (names : List Named) (n : ℕ) (outer vs ys : List Placed) (o : ℕ) → ts ≡ outer ++ word keywords.Goal p ∷ vs → vs ≡ ys ++ sign signs.Open o ∷ map name names → InGroups bs ys
    → length bs + length names ≡ n → 256 ≤ n → BoundSoFar ts 256
grouped_long ts p bs names n outer vs ys o spelled inner (inl f) is le =
    let count = names_count names in
    let whole : vs ≡ f.0 ++ word keywords.Forall f.1 ∷ sign signs.Open o ∷ map name names =
    inner ∙ ap (λ ys. ys ++ sign signs.Open o ∷ map name names) f.3 ∙ append_assoc f.0 (word keywords.Forall f.1 ∷ []) (sign signs.Open o ∷ map name names) in
    record {
      outer = outer;
      place = p;
      bound = bs;
      head = f.0;
      prefixes = f.2;
      opening = f.1;
      others = sign signs.Open o ∷ map name names;
      spelled = spelled ∙ ap (λ vs. outer ++ word keywords.Goal p ∷ vs) whole;
      no_comma = ((λ e. cc), names_no_comma names);
      size = omega (arith, is, le, count);
    }
grouped_long ts p bs names n outer vs ys o spelled inner (inr f) is le =
    let more : List Placed = sign signs.Open o ∷ map name names in
    let count : names_in (map name names) ≡ length names = names_count names in
    let groups : names_in f.3 ≡ length f.1 = groups_count f.6 in
    let sum : names_in (f.3 ++ more) ≡ names_in f.3 + names_in more = names_append f.3 more in
    let all : length bs ≡ length f.0 + length f.1 = ap length f.7 ∙ length-append f.0 f.1 in
    let whole : vs ≡ f.2 ++ word keywords.Forall f.4 ∷ (f.3 ++ more) =
    inner ∙ ap (λ ys. ys ++ more) f.8 ∙ append_assoc f.2 (word keywords.Forall f.4 ∷ f.3) more in
    record {
      outer = outer;
      place = p;
      bound = f.0;
      head = f.2;
      prefixes = f.5;
      opening = f.4;
      others = f.3 ++ more;
      spelled = spelled ∙ ap (λ vs. outer ++ word keywords.Goal p ∷ vs) whole;
      no_comma = has_no_append (tokens.Sign signs.Comma) f.3 more (groups_no_comma f.6) ((λ e. cc), names_no_comma names);
      size = omega (arith, is, le, count, groups, sum, all);
    }

long_names : (f : FileRead) (ts : List Placed) (n : ℕ) → KnownFile f.0 f.1 ts → bound_count f ≡ Some n → 256 ≤ n → BoundSoFar ts 256
long_names (done, states.Within w (betweens.Goal p bs parts.Binders)) ts n h is le = binders_long ts p bs n (goal_in done w p bs parts.Binders ts h) (same_Some _ n is) le
long_names (done, states.Within w (betweens.Goal p bs (parts.Bare names))) ts n h is le = bare_long ts p bs names n (goal_in done w p bs (parts.Bare names) ts h) (same_Some _ n is) le
long_names (done, states.Within w (betweens.Goal p bs (parts.Grouped names))) ts n h is le =
    let g = goal_in done w p bs (parts.Grouped names) ts h in
    grouped_long ts p bs names n g.0 g.1 g.2.0 g.2.1 g.3 g.2.3 g.2.2 (same_Some _ n is) le
long_names (done, states.Within w (betweens.Goal p bs (parts.Body r k))) ts n h is le = absurd cc
long_names (done, states.Within w (betweens.Goal p bs parts.Head)) ts n h is le = absurd cc
long_names (done, states.Within w (betweens.Goal p bs (parts.BareSort names))) ts n h is le = absurd cc
long_names (done, states.Within w (betweens.Goal p bs parts.BareEnd)) ts n h is le = absurd cc
long_names (done, states.Within w (betweens.Goal p bs (parts.GroupedSort names))) ts n h is le = absurd cc
long_names (done, states.Within w (betweens.Goal p bs parts.GroupedEnd)) ts n h is le = absurd cc
long_names (done, states.Within w (betweens.Goal p bs parts.NextGroup)) ts n h is le = absurd cc
long_names (done, states.Within w (betweens.Goal p bs (parts.Command e))) ts n h is le = absurd cc
long_names (done, states.Within w (betweens.Goal p bs (parts.ProofEnd e))) ts n h is le = absurd cc
long_names (done, states.Within w (betweens.Goal p bs (parts.ModeAfterProof e))) ts n h is le = absurd cc
long_names (done, states.Within w (betweens.Goal p bs (parts.ModeEnd e m))) ts n h is le = absurd cc
long_names (done, states.Within w betweens.Open) ts n h is le = absurd cc
long_names (done, states.Within w betweens.Ended) ts n h is le = absurd cc
long_names (done, states.Within w betweens.QedEnd) ts n h is le = absurd cc
long_names (done, states.Start) ts n h is le = absurd cc
long_names (done, states.Name) ts n h is le = absurd cc
long_names (done, states.NameEnd m) ts n h is le = absurd cc

-- ---- what reading says of the limits

counted_some : (limit : ℕ) (o : Option ℕ) → option_map_or (λ n. nat_le limit n) o false ≡ true → (n : ℕ) × (o ≡ Some n) × (limit ≤ n)
counted_some limit (Some n) e = (n, refl, grind arith)
counted_some limit None e = absurd cc

not_dot : (t : Placed) → not (is_dot (kind_of t.token)) ≡ true → t.token ≢ tokens.Sign signs.Dot
not_dot t e is = let k = ap (λ k. is_dot (kind_of k)) is in cc

long_is : (f : FileRead) (ts : List Placed) (t : Placed) → KnownFile f.0 f.1 ts → is_long f (kind_of t.token) ≡ true → IsTooLong ts t
long_is f ts t h e = both (option_map_or (λ n. nat_le 2048 n) (body_count f) false && not (is_dot (kind_of t.token))) (option_map_or (λ n. nat_le 256 n) (bound_count f) false && is_name (kind_of t.token)) refl refl e
  where
    both : (a b : Bool) → option_map_or (λ n. nat_le 2048 n) (body_count f) false && not (is_dot (kind_of t.token)) ≡ a → option_map_or (λ n. nat_le 256 n) (bound_count f) false && is_name (kind_of t.token) ≡ b → a || b ≡ true → IsTooLong ts t
    both true b p q e =
        let k = and_parts (option_map_or (λ n. nat_le 2048 n) (body_count f) false) (not (is_dot (kind_of t.token))) p in
        let n = counted_some 2048 (body_count f) k.0 in
        inl (long_body f ts n.0 h n.1 n.2, not_dot t k.1)
    both false true p q e =
        let k = and_parts (option_map_or (λ n. nat_le 256 n) (bound_count f) false) (is_name (kind_of t.token)) q in
        let n = counted_some 256 (bound_count f) k.0 in
        let x = name_is t k.1 in
        inr (long_names f ts n.0 h n.1 n.2, x.0, x.1)
    both false false p q e = absurd cc

dot_or_not : (t : Placed) → t.token ≢ tokens.Sign signs.Dot → not (is_dot (kind_of t.token)) ≡ true
dot_or_not t other = decided (is_dot (kind_of t.token)) refl
  where
    decided : (b : Bool) → is_dot (kind_of t.token) ≡ b → not b ≡ true
    decided false e = refl
    decided true e = absurd (other (ap (λ (t : Placed). t.token) (dot_is t e)))

is_long_of : (f g : FileRead) (ts : List Placed) (t : Placed) → file_with_all nothing_read ts ≡ Some f → file_with f t ≡ Some g → IsTooLong ts t → is_long f (kind_of t.token) ≡ true
is_long_of f g ts t read next (inl k) =
    let n = body_counted ts 2048 f k.0 read in
    let full : option_map_or (λ n. nat_le 2048 n) (body_count f) false ≡ true = ap (λ o. option_map_or (λ n. nat_le 2048 n) o false) n.2 ∙ (let le = n.1 in grind arith) in
    rw full (rw (dot_or_not t k.1) refl)
is_long_of f g ts t read next (inr k) =
    let as_name : t ≡ name (named k.1 t.at) = ap (λ k. record { token = k; at = t.at }) k.2 in
    let n = names_counted ts 256 f g k.1 t.at k.0 read (subst (λ t. file_with f t ≡ Some g) as_name next) in
    let full : option_map_or (λ n. nat_le 256 n) (bound_count f) false ≡ true = ap (λ o. option_map_or (λ n. nat_le 256 n) o false) n.2 ∙ (let le = n.1 in grind arith) in
    let is : is_name (kind_of t.token) ≡ true = ap (λ k. is_name (kind_of k)) k.2 in
    last (option_map_or (λ n. nat_le 2048 n) (body_count f) false && not (is_dot (kind_of t.token))) (rw full (rw is refl))
  where
    last : (a : Bool) → option_map_or (λ n. nat_le 256 n) (bound_count f) false && is_name (kind_of t.token) ≡ true → a || (option_map_or (λ n. nat_le 256 n) (bound_count f) false && is_name (kind_of t.token)) ≡ true
    last true e = refl
    last false e = e

-- what a limit at a token is
abbrev pub LimitIs : List Placed → Placed → TextFail → Type 0
LimitIs ts t fail = (IsMany ts t × (Many t.at ≡ fail)) ⊎ (IsLong ts t × (Long t.at ≡ fail))

limit_is : (f : FileRead) (b : Begun) (ts : List Placed) (t : Placed) (fail : TextFail) → KnownFile f.0 f.1 ts → AreBegun b ts → IsFront (ts ++ t ∷ []) → limit_at f b t ≡ Some fail → LimitIs ts t fail
limit_is f b ts t fail h begun front e =
    elim (test_some (is_many b (kind_of t.token)) (Some (Many t.at)) (cond (is_long f (kind_of t.token)) (Some (Long t.at)) None) fail e) [
      | inl k ↦ inl ((front, many_is b ts t begun k.0), same_Some _ fail k.1)
      | inr k ↦ elim (test_some (is_long f (kind_of t.token)) (Some (Long t.at)) None fail k.1) [
        | inl j ↦ inr ((front, long_is f ts t h j.0), same_Some _ fail j.1)
        | inr j ↦ absurd cc
      ]
    ]

no_limit : (f g : FileRead) (b : Begun) (ts : List Placed) (t : Placed) → file_with_all nothing_read ts ≡ Some f → file_with f t ≡ Some g → AreBegun b ts → limit_at f b t ≡ None → (IsLong ts t → ⊥) × (IsMany ts t → ⊥)
no_limit f g b ts t read next begun e = (
  λ k. none (is_many b (kind_of t.token)) (is_long f (kind_of t.token)) (is_long_of f g ts t read next k.1) e,
  λ k. many (is_many b (kind_of t.token)) (is_many_of b ts t begun k.1) e,
) where
  many : (m : Bool) → m ≡ true → cond m (Some (Many t.at)) (cond (is_long f (kind_of t.token)) (Some (Long t.at)) None) ≡ None → ⊥
  many true is e = cc
  many false is e = cc

  none : (m l : Bool) → l ≡ true → cond m (Some (Many t.at)) (cond l (Some (Long t.at)) None) ≡ None → ⊥
  none true l is e = cc
  none false true is e = cc
  none false false is e = cc

-- ---- the tokens before a place

-- a place in a list with one more at its end is in the list, or its end
last_or_within : {A : Type 0} (xs ys zs : List A) (x y : A) → xs ++ x ∷ [] ≡ ys ++ y ∷ zs → ((ys ≡ xs) × (y ≡ x)) ⊎ ((rest : List A) × (xs ≡ ys ++ y ∷ rest))
last_or_within [] [] zs x y e = let k : x ∷ [] ≡ y ∷ zs = e in inl (refl, cc)
last_or_within [] (w ∷ []) zs x y e = absurd cc
last_or_within [] (w ∷ v ∷ ys) zs x y e = absurd cc
last_or_within (u ∷ xs) [] zs x y e = let k : u ∷ (xs ++ x ∷ []) ≡ y ∷ zs = e in let same : u ≡ y = cc in inr (xs, ap (λ u. u ∷ xs) same)
last_or_within (u ∷ xs) (w ∷ ys) zs x y e =
    let k : u ∷ (xs ++ x ∷ []) ≡ w ∷ (ys ++ y ∷ zs) = e in
    let same : u ≡ w = cc in
    let others : xs ++ x ∷ [] ≡ ys ++ y ∷ zs = cc in
    elim (last_or_within xs ys zs x y others) [
      | inl h ↦ inl ((ap (λ ys. w ∷ ys) h.0 ∙ ap (λ u. u ∷ xs) (sym same)), h.1)
      | inr h ↦ inr (h.0, ap (λ u. u ∷ xs) same ∙ ap (λ xs. w ∷ xs) h.1)
    ]

within_more : (ts : List Placed) (t : Placed) → IsWithin ts → (IsLong ts t → ⊥) × (IsMany ts t → ⊥) → IsWithin (ts ++ t ∷ [])
within_more ts t within one before after u e = elim (last_or_within ts before after t u e) [
  | inl h ↦ subst (λ before. (IsLong before u → ⊥) × (IsMany before u → ⊥)) (sym h.0) (subst (λ u. (IsLong ts u → ⊥) × (IsMany ts u → ⊥)) (sym h.1) one)
  | inr h ↦ within before h.0 u h.1
]

nothing_within : IsWithin []
nothing_within [] after t e = absurd cc
nothing_within (b ∷ before) after t e = absurd cc

-- ---- all tokens

-- what reading comes to is the file, or its first refusal; the end of the input is at this place
abbrev pub IsRight : List Placed → ℕ → Result (List RawSession) TextFail → Type 0
IsRight all end (Ok ss) = Sessions ss all × IsWithin all
IsRight all end (Err (Bad at)) = At IsBad at all ⊎ (IsBadEnd all × IsWithin all × (at ≡ end))
IsRight all end (Err (Long at)) = At IsLong at all
IsRight all end (Err (Many at)) = At IsMany at all
IsRight all end (Err NoMemory) = Unit {0}

front_of : (f : FileRead) (ts : List Placed) → KnownFile f.0 f.1 ts → IsFront ts
front_of f ts h = let k = file_front f ts h in (k.0, k.1, k.2)

-- reading goes on over what some file begins with
front_run : (f : FileRead) (ts us : List Placed) → file_with_all nothing_read ts ≡ Some f → IsFront (ts ++ us) → (g : FileRead) × (file_with_all f us ≡ Some g)
front_run f ts us read front =
    let k = sessions_read front.2 in
    let a = bind_some (file_with_all nothing_read (ts ++ us)) (λ g. file_with_all g front.0) k.left (sym (all_append nothing_read (ts ++ us) front.0) ∙ k.read) in
    (a.0, sym (after_all nothing_read f ts us read) ∙ a.1)

bad_token : (f : FileRead) (ts : List Placed) (t : Placed) → KnownFile f.0 f.1 ts → file_with_all nothing_read ts ≡ Some f → file_with f t ≡ None → IsBad ts t
bad_token f ts t h read none = (front_of f ts h, λ front. let k = front_run f ts (t ∷ []) read front in let j : (file_with f t >>= λ g. Some g) ≡ Some k.0 = k.1 in let i = sym (ap (λ o. o >>= λ g. Some g) none) ∙ j in cc)

end_is_right : (end : ℕ) (f : FileRead) (ts : List Placed) (o : Option (List RawSession)) → KnownFile f.0 f.1 ts → file_with_all nothing_read ts ≡ Some f → IsWithin ts → file_of f ≡ o → IsRight ts end (ended end o)
end_is_right end f ts (Some ss) h read within is = (file_ends f ts ss h is, within)
end_is_right end f ts None h read within is =
    inr ((front_of f ts h, λ ss file. let k = sessions_read file in let same : k.left ≡ f = same_Some k.left f (sym k.read ∙ read) in let j = sym k.whole ∙ ap file_of same ∙ is in cc), within, refl)

refused : (before after all : List Placed) (t : Placed) (end : ℕ) (fail : TextFail) → all ≡ before ++ t ∷ after → IsWithin before → LimitIs before t fail → IsRight all end (Err fail)
refused before after all t end fail split within (inl k) = subst (λ fail. IsRight all end (Err fail)) k.1 (before, after, t, split, k.0, within, refl)
refused before after all t end fail split within (inr k) = subst (λ fail. IsRight all end (Err fail)) k.1 (before, after, t, split, k.0, within, refl)

-- reading on from what was read comes to what is right
pub outcome_right : (end : ℕ) (f : FileRead) (b : Begun) (before left all : List Placed) → all ≡ before ++ left → KnownFile f.0 f.1 before → file_with_all nothing_read before ≡ Some f → AreBegun b before → IsWithin before
    → IsRight all end (outcome end f b left)
outcome_right end f b before [] all split h read begun within =
    let same : all ≡ before = split ∙ append-nil before in
    subst (λ ts. IsRight ts end (ended end (file_of f))) (sym same) (end_is_right end f before (file_of f) h read within refl)
outcome_right end f b before (t ∷ left) all split h read begun within = by_step (file_with f t) refl (λ g next ts. outcome_right end g (begun_with b (kind_of t.token)) (before ++ t ∷ []) left all ts)
  where
    goes : (g : FileRead) → Type 0
    goes g = file_with f t ≡ Some g → all ≡ (before ++ t ∷ []) ++ left → KnownFile g.0 g.1 (before ++ t ∷ []) → file_with_all nothing_read (before ++ t ∷ []) ≡ Some g
        → AreBegun (begun_with b (kind_of t.token)) (before ++ t ∷ []) → IsWithin (before ++ t ∷ []) → IsRight all end (outcome end g (begun_with b (kind_of t.token)) left)

    by_limit : (g : FileRead) → file_with f t ≡ Some g → goes g → (l : Option TextFail) → limit_at f b t ≡ l → IsRight all end (elim l [ Some fail ↦ Err fail | None ↦ outcome end g (begun_with b (kind_of t.token)) left ])
    by_limit g next go (Some fail) is = refused before left all t end fail split within (limit_is f b before t fail h begun (front_of g (before ++ t ∷ []) (file_known f g t before h next)) is)
    by_limit g next go None is =
        go next (split ∙ sym (append_assoc before (t ∷ []) left)) (file_known f g t before h next)
        (after_all nothing_read f before (t ∷ []) read ∙ ap (λ (o : Option FileRead). o >>= λ g. Some g) next)
        (begun_more b before t begun) (within_more before t within (no_limit f g b before t read next begun is))

    by_step : (o : Option FileRead) → file_with f t ≡ o → ((g : FileRead) → goes g)
        → IsRight all end (elim o [ None ↦ Err (Bad t.at) | Some g ↦ elim (limit_at f b t) [ Some fail ↦ Err fail | None ↦ outcome end g (begun_with b (kind_of t.token)) left ] ])
    by_step None is go = inl (before, left, t, split, bad_token f before t h read is, within, refl)
    by_step (Some g) is go = by_limit g is (go g) (limit_at f b t) refl

-- all tokens, from the beginning on
pub reading_right : (end : ℕ) (all : List Placed) → IsRight all end (outcome end nothing_read (record { sessions = 0; goals = 0 }) all)
reading_right end all = outcome_right end nothing_read (record { sessions = 0; goals = 0 }) [] all all refl no_session refl (refl, refl) nothing_within
