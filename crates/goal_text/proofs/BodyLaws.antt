-- How many tokens a body has after one more token of the file.
use Rattle.std.proofs.Common.{◌≡◌, ℕ, ◌+◌, List, [], ◌∷◌, Bool, false, inl, inr, Option, Some, None, refl, sym, ap, subst}
use Rattle.mm_num.specs.Option.{◌>>=◌}
use Rattle.mm_num.proofs.OptionLaws.{bind_some, test_some}
use Rattle.goal_ast.specs.declared.goal.Mode.{Mode}
use Rattle.goal_token.specs.declared.token.Keyword.TheVariants as keywords
use Rattle.goal_token.specs.declared.token.Placed.{Placed}
use Rattle.goal_text.specs.declared.kind.Kind.{Kind}
use Rattle.goal_text.specs.declared.kind.Kind.TheVariants as kinds
use Rattle.goal_sort.specs.declared.raw.RawBound.{RawBound}
use Rattle.goal_sort.specs.declared.raw.RawExpr.{RawExpr}
use Rattle.goal_sort.specs.declared.raw.RawSession.{RawSession}
use Rattle.goal_text.specs.declared.state.Named.{Named}
use Rattle.goal_text.specs.declared.state.State.{State}
use Rattle.goal_text.specs.declared.state.State.TheVariants as states
use Rattle.goal_text.specs.declared.state.Between.{Between}
use Rattle.goal_text.specs.declared.state.Between.TheVariants as betweens
use Rattle.goal_text.specs.declared.state.Part.{Part}
use Rattle.goal_text.specs.declared.state.Part.TheVariants as parts
use Rattle.goal_text.specs.Operands.{Reading, with_token, read_of}
use Rattle.goal_text.specs.Steps.{kind_of, GoalRead, FileRead, after_forall, in_bare, in_group, sort_next, comma_next, close_next, after_group, mode_next, command_next, dot_next, is_dot, is_forall, body_next, in_goal, goal_end, goal_on, goal_next, at_start, name_next, name_end, after_goals, after_goal, qed_end, in_session, in_file, file_with}
use Rattle.goal_text.specs.Counts.{part_count, body_between, body_in, body_count}

-- ---- what is no body

abbrev HasNoBody : Option GoalRead → Type 0
HasNoBody None = Unit {0}
HasNoBody (Some g) = part_count g.1 ≡ None

abbrev StateHasNoBody : Option State → Type 0
StateHasNoBody None = Unit {0}
StateHasNoBody (Some s) = body_in s ≡ None

abbrev FileHasNoBody : Option FileRead → Type 0
FileHasNoBody None = Unit {0}
FileHasNoBody (Some f) = body_in f.1 ≡ None

after_forall_none : (bs : List RawBound) (k : Kind) (p : ℕ) → HasNoBody (after_forall bs k p)
after_forall_none bs (kinds.Keyword k) p = tt
after_forall_none bs (kinds.Sort s) p = tt
after_forall_none bs (kinds.Name x) p = refl
after_forall_none bs kinds.Dot p = tt
after_forall_none bs kinds.Comma p = tt
after_forall_none bs kinds.Colon p = tt
after_forall_none bs kinds.Open p = refl
after_forall_none bs kinds.Close p = tt
after_forall_none bs kinds.Other p = tt

in_bare_none : (bs : List RawBound) (names : List Named) (k : Kind) (p : ℕ) → HasNoBody (in_bare bs names k p)
in_bare_none bs names (kinds.Keyword k) p = tt
in_bare_none bs names (kinds.Sort s) p = tt
in_bare_none bs names (kinds.Name x) p = refl
in_bare_none bs names kinds.Dot p = tt
in_bare_none bs names kinds.Comma p = tt
in_bare_none bs names kinds.Colon p = refl
in_bare_none bs names kinds.Open p = tt
in_bare_none bs names kinds.Close p = tt
in_bare_none bs names kinds.Other p = tt

in_group_none : (bs : List RawBound) (names : List Named) (k : Kind) (p : ℕ) → HasNoBody (in_group bs names k p)
in_group_none bs names (kinds.Keyword k) p = tt
in_group_none bs names (kinds.Sort s) p = tt
in_group_none bs names (kinds.Name x) p = refl
in_group_none bs names kinds.Dot p = tt
in_group_none bs names kinds.Comma p = tt
in_group_none bs [] kinds.Colon p = tt
in_group_none bs (n ∷ names) kinds.Colon p = refl
in_group_none bs names kinds.Open p = tt
in_group_none bs names kinds.Close p = tt
in_group_none bs names kinds.Other p = tt

sort_next_none : (bs : List RawBound) (names : List Named) (next : Part) (k : Kind) → part_count next ≡ None → HasNoBody (sort_next bs names next k)
sort_next_none bs names next (kinds.Keyword k) h = tt
sort_next_none bs names next (kinds.Sort s) h = h
sort_next_none bs names next (kinds.Name x) h = tt
sort_next_none bs names next kinds.Dot h = tt
sort_next_none bs names next kinds.Comma h = tt
sort_next_none bs names next kinds.Colon h = tt
sort_next_none bs names next kinds.Open h = tt
sort_next_none bs names next kinds.Close h = tt
sort_next_none bs names next kinds.Other h = tt

comma_next_none : (bs : List RawBound) (k : Kind) → HasNoBody (comma_next bs k)
comma_next_none bs (kinds.Keyword k) = tt
comma_next_none bs (kinds.Sort s) = tt
comma_next_none bs (kinds.Name x) = tt
comma_next_none bs kinds.Dot = tt
comma_next_none bs kinds.Comma = refl
comma_next_none bs kinds.Colon = tt
comma_next_none bs kinds.Open = tt
comma_next_none bs kinds.Close = tt
comma_next_none bs kinds.Other = tt

close_next_none : (bs : List RawBound) (k : Kind) → HasNoBody (close_next bs k)
close_next_none bs (kinds.Keyword k) = tt
close_next_none bs (kinds.Sort s) = tt
close_next_none bs (kinds.Name x) = tt
close_next_none bs kinds.Dot = tt
close_next_none bs kinds.Comma = tt
close_next_none bs kinds.Colon = tt
close_next_none bs kinds.Open = tt
close_next_none bs kinds.Close = refl
close_next_none bs kinds.Other = tt

after_group_none : (bs : List RawBound) (k : Kind) → HasNoBody (after_group bs k)
after_group_none bs (kinds.Keyword k) = tt
after_group_none bs (kinds.Sort s) = tt
after_group_none bs (kinds.Name x) = tt
after_group_none bs kinds.Dot = tt
after_group_none bs kinds.Comma = refl
after_group_none bs kinds.Colon = tt
after_group_none bs kinds.Open = refl
after_group_none bs kinds.Close = tt
after_group_none bs kinds.Other = tt

mode_next_none : (bs : List RawBound) (e : RawExpr) (k : Kind) → HasNoBody (mode_next bs e k)
mode_next_none bs e (kinds.Keyword keywords.Session) = tt
mode_next_none bs e (kinds.Keyword keywords.Goal) = tt
mode_next_none bs e (kinds.Keyword keywords.Proof) = tt
mode_next_none bs e (kinds.Keyword keywords.Qed) = tt
mode_next_none bs e (kinds.Keyword keywords.Lia) = refl
mode_next_none bs e (kinds.Keyword keywords.Nia) = refl
mode_next_none bs e (kinds.Keyword keywords.Forall) = tt
mode_next_none bs e (kinds.Sort s) = tt
mode_next_none bs e (kinds.Name x) = tt
mode_next_none bs e kinds.Dot = tt
mode_next_none bs e kinds.Comma = tt
mode_next_none bs e kinds.Colon = tt
mode_next_none bs e kinds.Open = tt
mode_next_none bs e kinds.Close = tt
mode_next_none bs e kinds.Other = tt

command_next_none : (bs : List RawBound) (e : RawExpr) (k : Kind) → HasNoBody (command_next bs e k)
command_next_none bs e (kinds.Keyword keywords.Session) = tt
command_next_none bs e (kinds.Keyword keywords.Goal) = tt
command_next_none bs e (kinds.Keyword keywords.Proof) = refl
command_next_none bs e (kinds.Keyword keywords.Qed) = tt
command_next_none bs e (kinds.Keyword keywords.Lia) = refl
command_next_none bs e (kinds.Keyword keywords.Nia) = refl
command_next_none bs e (kinds.Keyword keywords.Forall) = tt
command_next_none bs e (kinds.Sort s) = tt
command_next_none bs e (kinds.Name x) = tt
command_next_none bs e kinds.Dot = tt
command_next_none bs e kinds.Comma = tt
command_next_none bs e kinds.Colon = tt
command_next_none bs e kinds.Open = tt
command_next_none bs e kinds.Close = tt
command_next_none bs e kinds.Other = tt

dot_next_none : (bs : List RawBound) (next : Part) (k : Kind) → part_count next ≡ None → HasNoBody (dot_next bs next k)
dot_next_none bs next (kinds.Keyword k) h = tt
dot_next_none bs next (kinds.Sort s) h = tt
dot_next_none bs next (kinds.Name x) h = tt
dot_next_none bs next kinds.Dot h = h
dot_next_none bs next kinds.Comma h = tt
dot_next_none bs next kinds.Colon h = tt
dot_next_none bs next kinds.Open h = tt
dot_next_none bs next kinds.Close h = tt
dot_next_none bs next kinds.Other h = tt

goal_end_none : (w : RawSession) (p : ℕ) (bs : List RawBound) (e : RawExpr) (m : Mode) (k : Kind) → StateHasNoBody (goal_end w p bs e m k)
goal_end_none w p bs e m (kinds.Keyword k) = tt
goal_end_none w p bs e m (kinds.Sort s) = tt
goal_end_none w p bs e m (kinds.Name x) = tt
goal_end_none w p bs e m kinds.Dot = refl
goal_end_none w p bs e m kinds.Comma = tt
goal_end_none w p bs e m kinds.Colon = tt
goal_end_none w p bs e m kinds.Open = tt
goal_end_none w p bs e m kinds.Close = tt
goal_end_none w p bs e m kinds.Other = tt

at_start_none : (done : List RawSession) (k : Kind) → FileHasNoBody (at_start done k)
at_start_none done (kinds.Keyword keywords.Session) = refl
at_start_none done (kinds.Keyword keywords.Goal) = tt
at_start_none done (kinds.Keyword keywords.Proof) = tt
at_start_none done (kinds.Keyword keywords.Qed) = tt
at_start_none done (kinds.Keyword keywords.Lia) = tt
at_start_none done (kinds.Keyword keywords.Nia) = tt
at_start_none done (kinds.Keyword keywords.Forall) = tt
at_start_none done (kinds.Sort s) = tt
at_start_none done (kinds.Name x) = tt
at_start_none done kinds.Dot = tt
at_start_none done kinds.Comma = tt
at_start_none done kinds.Colon = tt
at_start_none done kinds.Open = tt
at_start_none done kinds.Close = tt
at_start_none done kinds.Other = tt

name_next_none : (done : List RawSession) (k : Kind) (p : ℕ) → FileHasNoBody (name_next done k p)
name_next_none done (kinds.Keyword k) p = tt
name_next_none done (kinds.Sort s) p = tt
name_next_none done (kinds.Name x) p = refl
name_next_none done kinds.Dot p = tt
name_next_none done kinds.Comma p = tt
name_next_none done kinds.Colon p = tt
name_next_none done kinds.Open p = tt
name_next_none done kinds.Close p = tt
name_next_none done kinds.Other p = tt

name_end_none : (done : List RawSession) (n : Named) (k : Kind) → FileHasNoBody (name_end done n k)
name_end_none done n (kinds.Keyword k) = tt
name_end_none done n (kinds.Sort s) = tt
name_end_none done n (kinds.Name x) = tt
name_end_none done n kinds.Dot = refl
name_end_none done n kinds.Comma = tt
name_end_none done n kinds.Colon = tt
name_end_none done n kinds.Open = tt
name_end_none done n kinds.Close = tt
name_end_none done n kinds.Other = tt

after_goals_none : (done : List RawSession) (w : RawSession) (k : Kind) (p : ℕ) → FileHasNoBody (after_goals done w k p)
after_goals_none done w (kinds.Keyword keywords.Session) p = refl
after_goals_none done w (kinds.Keyword keywords.Goal) p = refl
after_goals_none done w (kinds.Keyword keywords.Proof) p = tt
after_goals_none done w (kinds.Keyword keywords.Qed) p = tt
after_goals_none done w (kinds.Keyword keywords.Lia) p = tt
after_goals_none done w (kinds.Keyword keywords.Nia) p = tt
after_goals_none done w (kinds.Keyword keywords.Forall) p = tt
after_goals_none done w (kinds.Sort s) p = tt
after_goals_none done w (kinds.Name x) p = tt
after_goals_none done w kinds.Dot p = tt
after_goals_none done w kinds.Comma p = tt
after_goals_none done w kinds.Colon p = tt
after_goals_none done w kinds.Open p = tt
after_goals_none done w kinds.Close p = tt
after_goals_none done w kinds.Other p = tt

after_goal_none : (done : List RawSession) (w : RawSession) (k : Kind) (p : ℕ) → FileHasNoBody (after_goal done w k p)
after_goal_none done w (kinds.Keyword keywords.Session) p = refl
after_goal_none done w (kinds.Keyword keywords.Goal) p = refl
after_goal_none done w (kinds.Keyword keywords.Proof) p = tt
after_goal_none done w (kinds.Keyword keywords.Qed) p = refl
after_goal_none done w (kinds.Keyword keywords.Lia) p = tt
after_goal_none done w (kinds.Keyword keywords.Nia) p = tt
after_goal_none done w (kinds.Keyword keywords.Forall) p = tt
after_goal_none done w (kinds.Sort s) p = tt
after_goal_none done w (kinds.Name x) p = tt
after_goal_none done w kinds.Dot p = tt
after_goal_none done w kinds.Comma p = tt
after_goal_none done w kinds.Colon p = tt
after_goal_none done w kinds.Open p = tt
after_goal_none done w kinds.Close p = tt
after_goal_none done w kinds.Other p = tt

qed_end_none : (done : List RawSession) (w : RawSession) (k : Kind) → FileHasNoBody (qed_end done w k)
qed_end_none done w (kinds.Keyword k) = tt
qed_end_none done w (kinds.Sort s) = tt
qed_end_none done w (kinds.Name x) = tt
qed_end_none done w kinds.Dot = refl
qed_end_none done w kinds.Comma = tt
qed_end_none done w kinds.Colon = tt
qed_end_none done w kinds.Open = tt
qed_end_none done w kinds.Close = tt
qed_end_none done w kinds.Other = tt

-- ---- one more token

-- a body's count after a token that was a dot or not: it is 1, or one more than it was and the token no dot
abbrev pub IsNext : Option ℕ → Bool → Option ℕ → Type 0
IsNext before dot None = Unit {0}
IsNext None dot (Some n) = n ≡ 1
IsNext (Some m) dot (Some n) = (n ≡ m + 1) × (dot ≡ false)

no_body : (before after : Option ℕ) (dot : Bool) → after ≡ None → IsNext before dot after
no_body before after dot e = subst (λ after. IsNext before dot after) (sym e) tt

of_none : (before : Option ℕ) (dot : Bool) (o : Option GoalRead) (g : GoalRead) → HasNoBody o → o ≡ Some g → IsNext before dot (part_count g.1)
of_none before dot (Some h) g none e = let k : h ≡ g = cc in no_body before (part_count g.1) dot (subst (λ (g : GoalRead). part_count g.1 ≡ None) k none)
of_none before dot None g none e = absurd cc

of_state : (before : Option ℕ) (dot : Bool) (o : Option State) (s : State) → StateHasNoBody o → o ≡ Some s → IsNext before dot (body_in s)
of_state before dot (Some h) s none e = let k : h ≡ s = cc in no_body before (body_in s) dot (subst (λ (s : State). body_in s ≡ None) k none)
of_state before dot None s none e = absurd cc

of_file : (before : Option ℕ) (dot : Bool) (o : Option FileRead) (f : FileRead) → FileHasNoBody o → o ≡ Some f → IsNext before dot (body_in f.1)
of_file before dot (Some h) f none e = let k : h ≡ f = cc in no_body before (body_in f.1) dot (subst (λ (f : FileRead). body_in f.1 ≡ None) k none)
of_file before dot None f none e = absurd cc

body_step : (bs : List RawBound) (r : Reading) (n : ℕ) (t : Placed) (g : GoalRead) → body_next bs r n t ≡ Some g → part_count g.1 ≡ Some (n + 1)
body_step bs r n t g e =
    let make : Reading → Option GoalRead = λ s. Some (bs, parts.Body s (n + 1)) in
    let k = bind_some (with_token r t) make g e in
    let same : Some (bs, parts.Body k.0 (n + 1)) ≡ Some g = k.2 in
    let is : (bs, parts.Body k.0 (n + 1)) ≡ g = cc in
    sym (ap (λ (g : GoalRead). part_count g.1) is)

body_end : (bs : List RawBound) (r : Reading) (g : GoalRead) → (read_of r >>= λ e. Some (bs, parts.Command e)) ≡ Some g → part_count g.1 ≡ None
body_end bs r g e =
    let make : RawExpr → Option GoalRead = λ e. Some (bs, parts.Command e) in
    let k = bind_some (read_of r) make g e in
    let same : Some (bs, parts.Command k.0) ≡ Some g = k.2 in
    let is : (bs, parts.Command k.0) ≡ g = cc in
    sym (ap (λ (g : GoalRead). part_count g.1) is)

next_part : (bs : List RawBound) (part : Part) (t : Placed) (g : GoalRead) → in_goal bs part t ≡ Some g → IsNext (part_count part) (is_dot (kind_of t.token)) (part_count g.1)
next_part bs parts.Head t g e =
    let first : Option GoalRead = Some (bs, parts.Binders) in
    elim (test_some (is_forall (kind_of t.token)) first (body_next bs ([], None) 0 t) g e) [
      | inl k ↦ of_none None (is_dot (kind_of t.token)) first g refl k.1
      | inr k ↦ subst (λ after. IsNext None (is_dot (kind_of t.token)) after) (sym (body_step bs ([], None) 0 t g k.1)) refl
    ]
next_part bs parts.Binders t g e = of_none None (is_dot (kind_of t.token)) (after_forall bs (kind_of t.token) t.at) g (after_forall_none bs (kind_of t.token) t.at) e
next_part bs (parts.Bare names) t g e = of_none None (is_dot (kind_of t.token)) (in_bare bs names (kind_of t.token) t.at) g (in_bare_none bs names (kind_of t.token) t.at) e
next_part bs (parts.BareSort names) t g e = of_none None (is_dot (kind_of t.token)) (sort_next bs names parts.BareEnd (kind_of t.token)) g (sort_next_none bs names parts.BareEnd (kind_of t.token) refl) e
next_part bs parts.BareEnd t g e = of_none None (is_dot (kind_of t.token)) (comma_next bs (kind_of t.token)) g (comma_next_none bs (kind_of t.token)) e
next_part bs (parts.Grouped names) t g e = of_none None (is_dot (kind_of t.token)) (in_group bs names (kind_of t.token) t.at) g (in_group_none bs names (kind_of t.token) t.at) e
next_part bs (parts.GroupedSort names) t g e = of_none None (is_dot (kind_of t.token)) (sort_next bs names parts.GroupedEnd (kind_of t.token)) g (sort_next_none bs names parts.GroupedEnd (kind_of t.token) refl) e
next_part bs parts.GroupedEnd t g e = of_none None (is_dot (kind_of t.token)) (close_next bs (kind_of t.token)) g (close_next_none bs (kind_of t.token)) e
next_part bs parts.NextGroup t g e = of_none None (is_dot (kind_of t.token)) (after_group bs (kind_of t.token)) g (after_group_none bs (kind_of t.token)) e
next_part bs (parts.Body r n) t g e = elim (test_some (is_dot (kind_of t.token)) (read_of r >>= λ e. Some (bs, parts.Command e)) (body_next bs r n t) g e) [
  | inl k ↦ no_body (Some n) (part_count g.1) (is_dot (kind_of t.token)) (body_end bs r g k.1)
  | inr k ↦ subst (λ after. IsNext (Some n) (is_dot (kind_of t.token)) after) (sym (body_step bs r n t g k.1)) (refl, k.0)
]
next_part bs (parts.Command b) t g e = of_none None (is_dot (kind_of t.token)) (command_next bs b (kind_of t.token)) g (command_next_none bs b (kind_of t.token)) e
next_part bs (parts.ProofEnd b) t g e = of_none None (is_dot (kind_of t.token)) (dot_next bs (parts.ModeAfterProof b) (kind_of t.token)) g (dot_next_none bs (parts.ModeAfterProof b) (kind_of t.token) refl) e
next_part bs (parts.ModeAfterProof b) t g e = of_none None (is_dot (kind_of t.token)) (mode_next bs b (kind_of t.token)) g (mode_next_none bs b (kind_of t.token)) e
next_part bs (parts.ModeEnd b m) t g e = absurd cc

goal_on_next : (w : RawSession) (p : ℕ) (bs : List RawBound) (part : Part) (t : Placed) (s : State) → goal_on w p (in_goal bs part t) ≡ Some s → IsNext (part_count part) (is_dot (kind_of t.token)) (body_in s)
goal_on_next w p bs part t s e =
    let make : GoalRead → Option State = λ g. Some (states.Within w (betweens.Goal p g.0 g.1)) in
    let k = bind_some (in_goal bs part t) make s e in
    let same : Some (states.Within w (betweens.Goal p k.0.0 k.0.1)) ≡ Some s = k.2 in
    let is : states.Within w (betweens.Goal p k.0.0 k.0.1) ≡ s = cc in
    subst (λ s. IsNext (part_count part) (is_dot (kind_of t.token)) (body_in s)) is (next_part bs part t k.0 k.1)

next_goal : (w : RawSession) (p : ℕ) (bs : List RawBound) (part : Part) (t : Placed) (s : State) → goal_next w p bs part t ≡ Some s → IsNext (part_count part) (is_dot (kind_of t.token)) (body_in s)
next_goal w p bs (parts.ModeEnd b m) t s e = of_state None (is_dot (kind_of t.token)) (goal_end w p bs b m (kind_of t.token)) s (goal_end_none w p bs b m (kind_of t.token)) e
next_goal w p bs parts.Head t s e = goal_on_next w p bs parts.Head t s e
next_goal w p bs parts.Binders t s e = goal_on_next w p bs parts.Binders t s e
next_goal w p bs (parts.Bare names) t s e = goal_on_next w p bs (parts.Bare names) t s e
next_goal w p bs (parts.BareSort names) t s e = goal_on_next w p bs (parts.BareSort names) t s e
next_goal w p bs parts.BareEnd t s e = goal_on_next w p bs parts.BareEnd t s e
next_goal w p bs (parts.Grouped names) t s e = goal_on_next w p bs (parts.Grouped names) t s e
next_goal w p bs (parts.GroupedSort names) t s e = goal_on_next w p bs (parts.GroupedSort names) t s e
next_goal w p bs parts.GroupedEnd t s e = goal_on_next w p bs parts.GroupedEnd t s e
next_goal w p bs parts.NextGroup t s e = goal_on_next w p bs parts.NextGroup t s e
next_goal w p bs (parts.Body r n) t s e = goal_on_next w p bs (parts.Body r n) t s e
next_goal w p bs (parts.Command b) t s e = goal_on_next w p bs (parts.Command b) t s e
next_goal w p bs (parts.ProofEnd b) t s e = goal_on_next w p bs (parts.ProofEnd b) t s e
next_goal w p bs (parts.ModeAfterProof b) t s e = goal_on_next w p bs (parts.ModeAfterProof b) t s e

next_between : (done : List RawSession) (w : RawSession) (b : Between) (t : Placed) (g : FileRead) → in_session done w b t ≡ Some g → IsNext (body_between b) (is_dot (kind_of t.token)) (body_in g.1)
next_between done w betweens.Open t g e = of_file None (is_dot (kind_of t.token)) (after_goals done w (kind_of t.token) t.at) g (after_goals_none done w (kind_of t.token) t.at) e
next_between done w betweens.Ended t g e = of_file None (is_dot (kind_of t.token)) (after_goal done w (kind_of t.token) t.at) g (after_goal_none done w (kind_of t.token) t.at) e
next_between done w betweens.QedEnd t g e = of_file None (is_dot (kind_of t.token)) (qed_end done w (kind_of t.token)) g (qed_end_none done w (kind_of t.token)) e
next_between done w (betweens.Goal p bs part) t g e =
    let make : State → Option FileRead = λ s. Some (done, s) in
    let k = bind_some (goal_next w p bs part t) make g e in
    let same : Some (done, k.0) ≡ Some g = k.2 in
    let is : (done, k.0) ≡ g = cc in
    subst (λ (g : FileRead). IsNext (part_count part) (is_dot (kind_of t.token)) (body_in g.1)) is (next_goal w p bs part t k.0 k.1)

next_in : (done : List RawSession) (s : State) (t : Placed) (g : FileRead) → in_file done s t ≡ Some g → IsNext (body_in s) (is_dot (kind_of t.token)) (body_in g.1)
next_in done states.Start t g e = of_file None (is_dot (kind_of t.token)) (at_start done (kind_of t.token)) g (at_start_none done (kind_of t.token)) e
next_in done states.Name t g e = of_file None (is_dot (kind_of t.token)) (name_next done (kind_of t.token) t.at) g (name_next_none done (kind_of t.token) t.at) e
next_in done (states.NameEnd n) t g e = of_file None (is_dot (kind_of t.token)) (name_end done n (kind_of t.token)) g (name_end_none done n (kind_of t.token)) e
next_in done (states.Within w b) t g e = next_between done w b t g e

-- how a body's count goes on
pub body_next_count : (f g : FileRead) (t : Placed) → file_with f t ≡ Some g → IsNext (body_count f) (is_dot (kind_of t.token)) (body_count g)
body_next_count f g t e = next_in f.0 f.1 t g e
