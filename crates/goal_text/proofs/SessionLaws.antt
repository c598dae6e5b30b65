-- What was read of a file is the front of one, and what was read to the end is one.
use Rattle.std.proofs.Common.{◌≡◌, ℕ, List, [], ◌∷◌, ◌++◌, Some, refl, sym, ap, subst, ◌∙◌, append_assoc}
use Rattle.std.proofs.lemmas.List.{append-nil}
use Rattle.std.proofs.lemmas.Option.{same_Some}
use Rattle.mm_num.specs.Option.{◌>>=◌}
use Rattle.mm_num.proofs.OptionLaws.{bind_some}
use Rattle.goal_ast.specs.declared.goal.Mode.{Mode}
use Rattle.goal_token.specs.declared.token.Keyword.TheVariants as keywords
use Rattle.goal_token.specs.declared.token.Sign.TheVariants as signs
use Rattle.goal_token.specs.declared.token.Placed.{Placed}
use Rattle.goal_text.specs.declared.kind.Kind.{Kind}
use Rattle.goal_text.specs.declared.kind.Kind.TheVariants as kinds
use Rattle.goal_sort.specs.declared.raw.RawBound.{RawBound}
use Rattle.goal_sort.specs.declared.raw.RawExpr.{RawExpr}
use Rattle.goal_sort.specs.declared.raw.RawGoal.{RawGoal}
use Rattle.goal_sort.specs.declared.raw.RawSession.{RawSession}
use Rattle.goal_text.specs.declared.state.Named.{Named}
use Rattle.goal_text.specs.declared.state.State.{State}
use Rattle.goal_text.specs.declared.state.State.TheVariants as states
use Rattle.goal_text.specs.declared.state.Between.{Between}
use Rattle.goal_text.specs.declared.state.Between.TheVariants as betweens
use Rattle.goal_text.specs.declared.state.Part.{Part}
use Rattle.goal_text.specs.declared.state.Part.TheVariants as parts
use Rattle.goal_text.specs.Grammar.{sign}
use Rattle.goal_text.specs.Files.{word, name, no_prefix, mode_word, MayEnd, no_end, qed, Goals, no_goal, next_goal, Sessions, next_session}
use Rattle.goal_text.specs.Steps.{kind_of, in_goal, goal_end, goal_on, goal_next, FileRead, at_start, name_next, name_end, after_goals, after_goal, qed_end, file_with, file_with_all, file_of}
use Rattle.goal_text.proofs.KnownLaws.{Is, kind_is, KnownPart, snoc, part_known}

-- ---- what was read of a session and of a file

-- the last goal may still get its `Qed`
abbrev pub MayGetEnd : List RawGoal → List Placed → Type 0
MayGetEnd gs ts = (p q : ℕ) → Goals gs (ts ++ word keywords.Qed p ∷ sign signs.Dot q ∷ [])

abbrev pub KnownBetween : List RawGoal → Between → List Placed → Type 0
KnownBetween gs betweens.Open ts = Goals gs ts
KnownBetween gs betweens.Ended ts = Goals gs ts × MayGetEnd gs ts
KnownBetween gs betweens.QedEnd ts = (us : List Placed) × (p : ℕ) × MayGetEnd gs us × (ts ≡ us ++ word keywords.Qed p ∷ [])
KnownBetween gs (betweens.Goal p bs part) ts = (us : List Placed) × (vs : List Placed) × Goals gs us × KnownPart bs part vs × (ts ≡ us ++ word keywords.Goal p ∷ vs)

-- the tokens of a session's beginning
abbrev pub session_front : List Placed → ℕ → Named → ℕ → List Placed → List Placed
session_front us p n q vs = us ++ word keywords.Session p ∷ name n ∷ sign signs.Dot q ∷ vs

abbrev pub KnownFile : List RawSession → State → List Placed → Type 0
KnownFile done states.Start ts = Sessions done ts
KnownFile done states.Name ts = (us : List Placed) × (p : ℕ) × Sessions done us × (ts ≡ us ++ word keywords.Session p ∷ [])
KnownFile done (states.NameEnd n) ts = (us : List Placed) × (p : ℕ) × Sessions done us × (ts ≡ us ++ word keywords.Session p ∷ name n ∷ [])
KnownFile done (states.Within w b) ts = (us : List Placed) × (vs : List Placed) × (p : ℕ) × (n : Named) × (q : ℕ) × Sessions done us × (w.name ≡ n.name) × KnownBetween w.goals b vs × (ts ≡ session_front us p n q vs)

-- what is known of where a token leads
abbrev pub FileLeads : FileRead → List Placed → Placed → Type 0
FileLeads f ts t = KnownFile f.0 f.1 (ts ++ t ∷ [])

led : (f g : FileRead) (ts : List Placed) (t : Placed) → Some f ≡ Some g → FileLeads f ts t → FileLeads g ts t
led f g ts t is k = subst (λ (g : FileRead). FileLeads g ts t) (same_Some f g is) k

-- ---- one more token between goals

start_known : (done : List RawSession) (t : Placed) (k : Kind) → Is k t → (ts : List Placed) (g : FileRead) → Sessions done ts → at_start done k ≡ Some g → FileLeads g ts t
start_known done t (kinds.Keyword keywords.Session) is ts g h read = led _ g ts t read (ts, t.at, h, ap (λ t. ts ++ t ∷ []) is)
start_known done t (kinds.Keyword keywords.Goal) is ts g h read = absurd cc
start_known done t (kinds.Keyword keywords.Proof) is ts g h read = absurd cc
start_known done t (kinds.Keyword keywords.Qed) is ts g h read = absurd cc
start_known done t (kinds.Keyword keywords.Lia) is ts g h read = absurd cc
start_known done t (kinds.Keyword keywords.Nia) is ts g h read = absurd cc
start_known done t (kinds.Keyword keywords.Forall) is ts g h read = absurd cc
start_known done t (kinds.Sort s) is ts g h read = absurd cc
start_known done t (kinds.Name x) is ts g h read = absurd cc
start_known done t kinds.Dot is ts g h read = absurd cc
start_known done t kinds.Comma is ts g h read = absurd cc
start_known done t kinds.Colon is ts g h read = absurd cc
start_known done t kinds.Open is ts g h read = absurd cc
start_known done t kinds.Close is ts g h read = absurd cc
start_known done t kinds.Other is ts g h read = absurd cc

name_known : (done : List RawSession) (t : Placed) (k : Kind) → Is k t → (ts : List Placed) (g : FileRead) → KnownFile done states.Name ts → name_next done k t.at ≡ Some g → FileLeads g ts t
name_known done t (kinds.Name x) is ts g h read = led _ g ts t read (h.0, h.1, h.2, snoc ts h.0 (word keywords.Session h.1 ∷ []) t h.3 ∙ ap (λ t. h.0 ++ word keywords.Session h.1 ∷ t ∷ []) is)
name_known done t (kinds.Keyword k) is ts g h read = absurd cc
name_known done t (kinds.Sort s) is ts g h read = absurd cc
name_known done t kinds.Dot is ts g h read = absurd cc
name_known done t kinds.Comma is ts g h read = absurd cc
name_known done t kinds.Colon is ts g h read = absurd cc
name_known done t kinds.Open is ts g h read = absurd cc
name_known done t kinds.Close is ts g h read = absurd cc
name_known done t kinds.Other is ts g h read = absurd cc

name_end_known : (done : List RawSession) (n : Named) (t : Placed) (k : Kind) → Is k t → (ts : List Placed) (g : FileRead) → KnownFile done (states.NameEnd n) ts → name_end done n k ≡ Some g → FileLeads g ts t
name_end_known done n t kinds.Dot is ts g h read =
    led _ g ts t read (h.0, [], h.1, n, t.at, h.2, refl, no_goal, snoc ts h.0 (word keywords.Session h.1 ∷ name n ∷ []) t h.3 ∙ ap (λ t. h.0 ++ word keywords.Session h.1 ∷ name n ∷ t ∷ []) is)
name_end_known done n t (kinds.Keyword k) is ts g h read = absurd cc
name_end_known done n t (kinds.Sort s) is ts g h read = absurd cc
name_end_known done n t (kinds.Name x) is ts g h read = absurd cc
name_end_known done n t kinds.Comma is ts g h read = absurd cc
name_end_known done n t kinds.Colon is ts g h read = absurd cc
name_end_known done n t kinds.Open is ts g h read = absurd cc
name_end_known done n t kinds.Close is ts g h read = absurd cc
name_end_known done n t kinds.Other is ts g h read = absurd cc

-- a session's goals so far
abbrev pub SessionSoFar : List RawSession → RawSession → List Placed → Type 0
SessionSoFar done w ts = KnownFile done (states.Within w betweens.Open) ts

-- more of a session
more_within : (us : List Placed) (p : ℕ) (n : Named) (q : ℕ) (vs ts : List Placed) (t : Placed) → ts ≡ session_front us p n q vs → ts ++ t ∷ [] ≡ session_front us p n q (vs ++ t ∷ [])
more_within us p n q vs ts t e = snoc ts us (word keywords.Session p ∷ name n ∷ sign signs.Dot q ∷ vs) t e

session_made : (done : List RawSession) (w : RawSession) (ts : List Placed) → SessionSoFar done w ts → Sessions (done ++ w ∷ []) ts
session_made done w ts h =
    let made : Sessions (done ++ record { name = h.3.name; goals = w.goals } ∷ []) (session_front h.0 h.2 h.3 h.4 h.1) = next_session h.3 h.2 h.4 h.5 h.7 in
    subst (λ ts. Sessions (done ++ w ∷ []) ts) (sym h.8) (subst (λ x. Sessions (done ++ record { name = x; goals = w.goals } ∷ []) (session_front h.0 h.2 h.3 h.4 h.1)) (sym h.6) made)

goals_known : (done : List RawSession) (w : RawSession) (t : Placed) (k : Kind) → Is k t → (ts : List Placed) (g : FileRead) → SessionSoFar done w ts → after_goals done w k t.at ≡ Some g → FileLeads g ts t
goals_known done w t (kinds.Keyword keywords.Goal) is ts g h read =
    led _ g ts t read (h.0, h.1 ++ t ∷ [], h.2, h.3, h.4, h.5, h.6, (h.1, [], h.7, no_prefix, ap (λ t. h.1 ++ t ∷ []) is), more_within h.0 h.2 h.3 h.4 h.1 ts t h.8)
goals_known done w t (kinds.Keyword keywords.Session) is ts g h read = led _ g ts t read (ts, t.at, session_made done w ts h, ap (λ t. ts ++ t ∷ []) is)
goals_known done w t (kinds.Keyword keywords.Proof) is ts g h read = absurd cc
goals_known done w t (kinds.Keyword keywords.Qed) is ts g h read = absurd cc
goals_known done w t (kinds.Keyword keywords.Lia) is ts g h read = absurd cc
goals_known done w t (kinds.Keyword keywords.Nia) is ts g h read = absurd cc
goals_known done w t (kinds.Keyword keywords.Forall) is ts g h read = absurd cc
goals_known done w t (kinds.Sort s) is ts g h read = absurd cc
goals_known done w t (kinds.Name x) is ts g h read = absurd cc
goals_known done w t kinds.Dot is ts g h read = absurd cc
goals_known done w t kinds.Comma is ts g h read = absurd cc
goals_known done w t kinds.Colon is ts g h read = absurd cc
goals_known done w t kinds.Open is ts g h read = absurd cc
goals_known done w t kinds.Close is ts g h read = absurd cc
goals_known done w t kinds.Other is ts g h read = absurd cc

ended_known : (done : List RawSession) (w : RawSession) (t : Placed) (k : Kind) → Is k t → (ts : List Placed) (g : FileRead) → KnownFile done (states.Within w betweens.Ended) ts → after_goal done w k t.at ≡ Some g → FileLeads g ts t
ended_known done w t k is ts g h read = by_kind k is read
  where
    so_far : SessionSoFar done w ts
    so_far = (h.0, h.1, h.2, h.3, h.4, h.5, h.6, h.7.0, h.8)

    by_kind : (k : Kind) → Is k t → after_goal done w k t.at ≡ Some g → FileLeads g ts t
    by_kind (kinds.Keyword keywords.Qed) is read =
        led _ g ts t read (h.0, h.1 ++ t ∷ [], h.2, h.3, h.4, h.5, h.6, (h.1, t.at, h.7.1, ap (λ t. h.1 ++ t ∷ []) is), more_within h.0 h.2 h.3 h.4 h.1 ts t h.8)
    by_kind (kinds.Keyword keywords.Goal) is read = goals_known done w t (kinds.Keyword keywords.Goal) is ts g so_far read
    by_kind (kinds.Keyword keywords.Session) is read = goals_known done w t (kinds.Keyword keywords.Session) is ts g so_far read
    by_kind (kinds.Keyword keywords.Proof) is read = absurd cc
    by_kind (kinds.Keyword keywords.Lia) is read = absurd cc
    by_kind (kinds.Keyword keywords.Nia) is read = absurd cc
    by_kind (kinds.Keyword keywords.Forall) is read = absurd cc
    by_kind (kinds.Sort s) is read = absurd cc
    by_kind (kinds.Name x) is read = absurd cc
    by_kind kinds.Dot is read = absurd cc
    by_kind kinds.Comma is read = absurd cc
    by_kind kinds.Colon is read = absurd cc
    by_kind kinds.Open is read = absurd cc
    by_kind kinds.Close is read = absurd cc
    by_kind kinds.Other is read = absurd cc

qed_known : (done : List RawSession) (w : RawSession) (t : Placed) (k : Kind) → Is k t → (ts : List Placed) (g : FileRead) → KnownFile done (states.Within w betweens.QedEnd) ts → qed_end done w k ≡ Some g → FileLeads g ts t
qed_known done w t kinds.Dot is ts g h read =
    let b = h.7 in
    let tokens : h.1 ++ t ∷ [] ≡ b.0 ++ word keywords.Qed b.1 ∷ sign signs.Dot t.at ∷ [] = snoc h.1 b.0 (word keywords.Qed b.1 ∷ []) t b.3 ∙ ap (λ t. b.0 ++ word keywords.Qed b.1 ∷ t ∷ []) is in
    led _ g ts t read (h.0, h.1 ++ t ∷ [], h.2, h.3, h.4, h.5, h.6, subst (λ ts. Goals w.goals ts) (sym tokens) (b.2 b.1 t.at), more_within h.0 h.2 h.3 h.4 h.1 ts t h.8)
qed_known done w t (kinds.Keyword k) is ts g h read = absurd cc
qed_known done w t (kinds.Sort s) is ts g h read = absurd cc
qed_known done w t (kinds.Name x) is ts g h read = absurd cc
qed_known done w t kinds.Comma is ts g h read = absurd cc
qed_known done w t kinds.Colon is ts g h read = absurd cc
qed_known done w t kinds.Open is ts g h read = absurd cc
qed_known done w t kinds.Close is ts g h read = absurd cc
qed_known done w t kinds.Other is ts g h read = absurd cc

-- ---- one more token of a goal in its session

-- a goal is whole, and `Qed` may come
goal_made : (gs : List RawGoal) (p : ℕ) (bs : List RawBound) (e : RawExpr) (m : Mode) (t : ℕ) (ts us vs xs : List Placed) → Goals gs us → KnownPart bs (parts.ModeEnd e m) vs → MayEnd xs → ts ≡ us ++ word keywords.Goal p ∷ vs
    → Goals (gs ++ record { mode = m; bound = bs; body = e; at = p } ∷ []) (ts ++ sign signs.Dot t ∷ xs)
goal_made gs p bs e m t ts us vs xs goals h end is =
    let b = h.3 in
    let made : Goals (gs ++ record { mode = m; bound = bs; body = e; at = p } ∷ []) (us ++ word keywords.Goal p ∷ (h.0 ++ (b.0 ++ sign signs.Dot b.2 ∷ (b.1 ++ word (mode_word m) b.3 ∷ sign signs.Dot t ∷ xs)))) =
    next_goal m p b.2 b.3 t goals h.2 b.4 b.5 end in
    let inner : vs ++ sign signs.Dot t ∷ xs ≡ h.0 ++ (b.0 ++ sign signs.Dot b.2 ∷ (b.1 ++ word (mode_word m) b.3 ∷ sign signs.Dot t ∷ xs)) =
    ap (λ vs. vs ++ sign signs.Dot t ∷ xs) (h.4 ∙ ap (λ ws. h.0 ++ ws) b.6)
    ∙ append_assoc h.0 (b.0 ++ sign signs.Dot b.2 ∷ (b.1 ++ word (mode_word m) b.3 ∷ [])) (sign signs.Dot t ∷ xs)
    ∙ ap (λ ws. h.0 ++ ws) (append_assoc b.0 (sign signs.Dot b.2 ∷ (b.1 ++ word (mode_word m) b.3 ∷ [])) (sign signs.Dot t ∷ xs) ∙ ap (λ ws. b.0 ++ sign signs.Dot b.2 ∷ ws) (append_assoc b.1 (word (mode_word m) b.3 ∷ []) (sign signs.Dot t ∷ xs))) in
    let tokens : ts ++ sign signs.Dot t ∷ xs ≡ us ++ word keywords.Goal p ∷ (h.0 ++ (b.0 ++ sign signs.Dot b.2 ∷ (b.1 ++ word (mode_word m) b.3 ∷ sign signs.Dot t ∷ xs))) =
    ap (λ ts. ts ++ sign signs.Dot t ∷ xs) is ∙ append_assoc us (word keywords.Goal p ∷ vs) (sign signs.Dot t ∷ xs) ∙ ap (λ ws. us ++ word keywords.Goal p ∷ ws) inner in
    subst (λ ts. Goals (gs ++ record { mode = m; bound = bs; body = e; at = p } ∷ []) ts) (sym tokens) made

goal_end_known : (done : List RawSession) (w : RawSession) (p : ℕ) (bs : List RawBound) (e : RawExpr) (m : Mode) (t : Placed) (k : Kind) → Is k t → (ts : List Placed) (g : FileRead)
    → KnownFile done (states.Within w (betweens.Goal p bs (parts.ModeEnd e m))) ts → (goal_end w p bs e m k >>= λ s. Some (done, s)) ≡ Some g → FileLeads g ts t
goal_end_known done w p bs e m t kinds.Dot is ts g h read =
    let b = h.7 in
    let whole : List RawGoal = w.goals ++ record { mode = m; bound = bs; body = e; at = p } ∷ [] in
    let made : Goals whole (h.1 ++ t ∷ []) = subst (λ t. Goals whole (h.1 ++ t ∷ [])) (sym is) (goal_made w.goals p bs e m t.at h.1 b.0 b.1 [] b.2 b.3 no_end b.4) in
    let gets : MayGetEnd whole (h.1 ++ t ∷ []) = λ o q.
    subst (λ ts. Goals whole ts) (sym (append_assoc h.1 (t ∷ []) (word keywords.Qed o ∷ sign signs.Dot q ∷ [])))
    (subst (λ t. Goals whole (h.1 ++ t ∷ word keywords.Qed o ∷ sign signs.Dot q ∷ [])) (sym is) (goal_made w.goals p bs e m t.at h.1 b.0 b.1 (word keywords.Qed o ∷ sign signs.Dot q ∷ []) b.2 b.3 (qed o q) b.4)) in
    led _ g ts t read (h.0, h.1 ++ t ∷ [], h.2, h.3, h.4, h.5, h.6, (made, gets), more_within h.0 h.2 h.3 h.4 h.1 ts t h.8)
goal_end_known done w p bs e m t (kinds.Keyword k) is ts g h read = absurd cc
goal_end_known done w p bs e m t (kinds.Sort s) is ts g h read = absurd cc
goal_end_known done w p bs e m t (kinds.Name x) is ts g h read = absurd cc
goal_end_known done w p bs e m t kinds.Comma is ts g h read = absurd cc
goal_end_known done w p bs e m t kinds.Colon is ts g h read = absurd cc
goal_end_known done w p bs e m t kinds.Open is ts g h read = absurd cc
goal_end_known done w p bs e m t kinds.Close is ts g h read = absurd cc
goal_end_known done w p bs e m t kinds.Other is ts g h read = absurd cc

goal_on_known : (done : List RawSession) (w : RawSession) (p : ℕ) (bs : List RawBound) (part : Part) (t : Placed) (ts : List Placed) (g : FileRead)
    → KnownFile done (states.Within w (betweens.Goal p bs part)) ts → (goal_on w p (in_goal bs part t) >>= λ s. Some (done, s)) ≡ Some g → FileLeads g ts t
goal_on_known done w p bs part t ts g h read =
    let s = bind_some (goal_on w p (in_goal bs part t)) (λ s. Some (done, s)) g read in
    let k = bind_some (in_goal bs part t) (λ g. Some (states.Within w (betweens.Goal p g.0 g.1))) s.0 s.1 in
    let b = h.7 in
    let whole : FileRead = (done, states.Within w (betweens.Goal p k.0.0 k.0.1)) in
    led whole g ts t (ap (λ s. Some (done, s)) (same_Some _ s.0 k.2) ∙ s.2)
    (h.0, h.1 ++ t ∷ [], h.2, h.3, h.4, h.5, h.6, (b.0, b.1 ++ t ∷ [], b.2, part_known bs part t b.1 k.0 b.3 k.1, snoc h.1 b.0 (word keywords.Goal p ∷ b.1) t b.4), more_within h.0 h.2 h.3 h.4 h.1 ts t h.8)

goal_known : (done : List RawSession) (w : RawSession) (p : ℕ) (bs : List RawBound) (part : Part) (t : Placed) (ts : List Placed) (g : FileRead)
    → KnownFile done (states.Within w (betweens.Goal p bs part)) ts → (goal_next w p bs part t >>= λ s. Some (done, s)) ≡ Some g → FileLeads g ts t
goal_known done w p bs (parts.ModeEnd e m) t ts g h read = goal_end_known done w p bs e m t (kind_of t.token) (kind_is t) ts g h read
goal_known done w p bs parts.Head t ts g h read = goal_on_known done w p bs parts.Head t ts g h read
goal_known done w p bs parts.Binders t ts g h read = goal_on_known done w p bs parts.Binders t ts g h read
goal_known done w p bs (parts.Bare names) t ts g h read = goal_on_known done w p bs (parts.Bare names) t ts g h read
goal_known done w p bs (parts.BareSort names) t ts g h read = goal_on_known done w p bs (parts.BareSort names) t ts g h read
goal_known done w p bs parts.BareEnd t ts g h read = goal_on_known done w p bs parts.BareEnd t ts g h read
goal_known done w p bs (parts.Grouped names) t ts g h read = goal_on_known done w p bs (parts.Grouped names) t ts g h read
goal_known done w p bs (parts.GroupedSort names) t ts g h read = goal_on_known done w p bs (parts.GroupedSort names) t ts g h read
goal_known done w p bs parts.GroupedEnd t ts g h read = goal_on_known done w p bs parts.GroupedEnd t ts g h read
goal_known done w p bs parts.NextGroup t ts g h read = goal_on_known done w p bs parts.NextGroup t ts g h read
goal_known done w p bs (parts.Body r n) t ts g h read = goal_on_known done w p bs (parts.Body r n) t ts g h read
goal_known done w p bs (parts.Command e) t ts g h read = goal_on_known done w p bs (parts.Command e) t ts g h read
goal_known done w p bs (parts.ProofEnd e) t ts g h read = goal_on_known done w p bs (parts.ProofEnd e) t ts g h read
goal_known done w p bs (parts.ModeAfterProof e) t ts g h read = goal_on_known done w p bs (parts.ModeAfterProof e) t ts g h read

-- what a token of a file leads to is known
pub file_known : (f g : FileRead) (t : Placed) (ts : List Placed) → KnownFile f.0 f.1 ts → file_with f t ≡ Some g → FileLeads g ts t
file_known (done, states.Start) g t ts h read = start_known done t (kind_of t.token) (kind_is t) ts g h read
file_known (done, states.Name) g t ts h read = name_known done t (kind_of t.token) (kind_is t) ts g h read
file_known (done, states.NameEnd n) g t ts h read = name_end_known done n t (kind_of t.token) (kind_is t) ts g h read
file_known (done, states.Within w betweens.Open) g t ts h read = goals_known done w t (kind_of t.token) (kind_is t) ts g h read
file_known (done, states.Within w betweens.Ended) g t ts h read = ended_known done w t (kind_of t.token) (kind_is t) ts g h read
file_known (done, states.Within w betweens.QedEnd) g t ts h read = qed_known done w t (kind_of t.token) (kind_is t) ts g h read
file_known (done, states.Within w (betweens.Goal p bs part)) g t ts h read = goal_known done w p bs part t ts g h read

-- what was read from the beginning on is known
pub read_known : (f g : FileRead) (before ts : List Placed) → KnownFile f.0 f.1 before → file_with_all f ts ≡ Some g → KnownFile g.0 g.1 (before ++ ts)
read_known f g before [] h read = subst (λ (g : FileRead). KnownFile g.0 g.1 (before ++ [])) (same_Some f g read) (subst (λ ts. KnownFile f.0 f.1 ts) (sym (append-nil before)) h)
read_known f g before (t ∷ ts) h read =
    let k = bind_some (file_with f t) (λ f. file_with_all f ts) g read in
    subst (λ us. KnownFile g.0 g.1 us) (append_assoc before (t ∷ []) ts) (read_known k.0 g (before ++ t ∷ []) ts (file_known f k.0 t before h k.1) k.2)

-- what may end is a file
pub file_ends : (f : FileRead) (ts : List Placed) (ss : List RawSession) → KnownFile f.0 f.1 ts → file_of f ≡ Some ss → Sessions ss ts
file_ends (done, states.Start) ts ss h read = subst (λ ss. Sessions ss ts) (same_Some done ss read) h
file_ends (done, states.Name) ts ss h read = absurd cc
file_ends (done, states.NameEnd n) ts ss h read = absurd cc
file_ends (done, states.Within w betweens.Open) ts ss h read = subst (λ ss. Sessions ss ts) (same_Some _ ss read) (session_made done w ts h)
file_ends (done, states.Within w betweens.Ended) ts ss h read = subst (λ ss. Sessions ss ts) (same_Some _ ss read) (session_made done w ts (h.0, h.1, h.2, h.3, h.4, h.5, h.6, h.7.0, h.8))
file_ends (done, states.Within w betweens.QedEnd) ts ss h read = absurd cc
file_ends (done, states.Within w (betweens.Goal p bs part)) ts ss h read = absurd cc
