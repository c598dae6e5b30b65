-- Reading a file token by token.
use Rattle.std.specs.Prelude.{ℕ, ◌+◌, List, [], ◌∷◌, ◌++◌, Bool, true, false, Option, Some, None, if◌then◌else◌}
use Rattle.mm_num.specs.Option.{◌>>=◌}
use Rattle.goal_ast.specs.declared.goal.Mode.{Mode}
use Rattle.goal_ast.specs.declared.goal.Mode.TheVariants.{Lia, Nia}
use Rattle.goal_ast.specs.declared.goal.Name.{Name}
use Rattle.goal_token.specs.declared.token.Keyword.TheVariants as keywords
use Rattle.goal_token.specs.declared.token.Sign.{Sign}
use Rattle.goal_token.specs.declared.token.Sign.TheVariants as signs
use Rattle.goal_token.specs.declared.token.Token.{Token}
use Rattle.goal_token.specs.declared.token.Token.TheVariants as tokens
use Rattle.goal_token.specs.declared.token.Placed.{Placed}
use Rattle.goal_text.specs.declared.kind.Kind.{Kind}
use Rattle.goal_text.specs.declared.kind.Kind.TheVariants as kinds
use Rattle.goal_sort.specs.declared.raw.RawBound.{RawBound}
use Rattle.goal_sort.specs.declared.raw.RawExpr.{RawExpr}
use Rattle.goal_sort.specs.declared.raw.RawSession.{RawSession}
use Rattle.goal_text.specs.declared.state.Named.{Named}
use Rattle.goal_text.specs.declared.state.State.{State}
use Rattle.goal_text.specs.declared.state.State.TheVariants as states
use Rattle.goal_text.specs.declared.state.Between.{Between}
use Rattle.goal_text.specs.declared.state.Between.TheVariants as betweens
use Rattle.goal_text.specs.declared.state.Part.{Part}
use Rattle.goal_text.specs.declared.state.Part.TheVariants as parts
use Rattle.goal_text.specs.Operands.{Reading, with_token, read_of}
use Rattle.goal_text.specs.Files.{bounds}

-- ---- what a token is outside an expression

abbrev pub sign_kind : Sign → Kind
sign_kind signs.Dot = kinds.Dot
sign_kind signs.Comma = kinds.Comma
sign_kind signs.Colon = kinds.Colon
sign_kind signs.Open = kinds.Open
sign_kind signs.Close = kinds.Close
sign_kind s = kinds.Other

abbrev pub kind_of : Token → Kind
kind_of (tokens.Keyword k) = kinds.Keyword k
kind_of (tokens.Sort s) = kinds.Sort s
kind_of (tokens.Name x) = kinds.Name x
kind_of (tokens.Sign s) = sign_kind s
kind_of (tokens.Constant c) = kinds.Other
kind_of (tokens.Function f) = kinds.Other
kind_of (tokens.Literal n) = kinds.Other
kind_of tokens.Wrong = kinds.Other

-- ---- in a goal

-- what it binds so far, and where reading stands in it
abbrev pub GoalRead : Type 0
GoalRead = List RawBound × Part

abbrev pub named : Name → ℕ → Named
named x p = record { name = x; at = p }

abbrev pub after_forall : List RawBound → Kind → ℕ → Option GoalRead
after_forall bs (kinds.Name x) p = Some (bs, parts.Bare (named x p ∷ []))
after_forall bs kinds.Open p = Some (bs, parts.Grouped [])
after_forall bs k p = None

abbrev pub in_bare : List RawBound → List Named → Kind → ℕ → Option GoalRead
in_bare bs names (kinds.Name x) p = Some (bs, parts.Bare (names ++ named x p ∷ []))
in_bare bs names kinds.Colon p = Some (bs, parts.BareSort names)
in_bare bs names k p = None

abbrev pub in_group : List RawBound → List Named → Kind → ℕ → Option GoalRead
in_group bs names (kinds.Name x) p = Some (bs, parts.Grouped (names ++ named x p ∷ []))
in_group bs [] kinds.Colon p = None
in_group bs (n ∷ names) kinds.Colon p = Some (bs, parts.GroupedSort (n ∷ names))
in_group bs names k p = None

abbrev pub sort_next : List RawBound → List Named → Part → Kind → Option GoalRead
sort_next bs names next (kinds.Sort s) = Some (bs ++ bounds s names, next)
sort_next bs names next k = None

abbrev pub comma_next : List RawBound → Kind → Option GoalRead
comma_next bs kinds.Comma = Some (bs, parts.Head)
comma_next bs k = None

abbrev pub close_next : List RawBound → Kind → Option GoalRead
close_next bs kinds.Close = Some (bs, parts.NextGroup)
close_next bs k = None

abbrev pub after_group : List RawBound → Kind → Option GoalRead
after_group bs kinds.Open = Some (bs, parts.Grouped [])
after_group bs kinds.Comma = Some (bs, parts.Head)
after_group bs k = None

abbrev pub mode_next : List RawBound → RawExpr → Kind → Option GoalRead
mode_next bs e (kinds.Keyword keywords.Lia) = Some (bs, parts.ModeEnd e Lia)
mode_next bs e (kinds.Keyword keywords.Nia) = Some (bs, parts.ModeEnd e Nia)
mode_next bs e k = None

abbrev pub command_next : List RawBound → RawExpr → Kind → Option GoalRead
command_next bs e (kinds.Keyword keywords.Proof) = Some (bs, parts.ProofEnd e)
command_next bs e k = mode_next bs e k

abbrev pub dot_next : List RawBound → Part → Kind → Option GoalRead
dot_next bs next kinds.Dot = Some (bs, next)
dot_next bs next k = None

abbrev pub is_dot : Kind → Bool
is_dot kinds.Dot = true
is_dot k = false

abbrev pub is_forall : Kind → Bool
is_forall (kinds.Keyword keywords.Forall) = true
is_forall k = false

-- one more token of the body, after so many
abbrev pub body_next : List RawBound → Reading → ℕ → Placed → Option GoalRead
body_next bs r n t = with_token r t >>= λ s. Some (bs, parts.Body s (n + 1))

-- a token of a goal
abbrev pub in_goal : List RawBound → Part → Placed → Option GoalRead
in_goal bs parts.Head t = if is_forall (kind_of t.token) then Some (bs, parts.Binders) else body_next bs ([], None) 0 t
in_goal bs parts.Binders t = after_forall bs (kind_of t.token) t.at
in_goal bs (parts.Bare names) t = in_bare bs names (kind_of t.token) t.at
in_goal bs (parts.BareSort names) t = sort_next bs names parts.BareEnd (kind_of t.token)
in_goal bs parts.BareEnd t = comma_next bs (kind_of t.token)
in_goal bs (parts.Grouped names) t = in_group bs names (kind_of t.token) t.at
in_goal bs (parts.GroupedSort names) t = sort_next bs names parts.GroupedEnd (kind_of t.token)
in_goal bs parts.GroupedEnd t = close_next bs (kind_of t.token)
in_goal bs parts.NextGroup t = after_group bs (kind_of t.token)
in_goal bs (parts.Body r n) t = if is_dot (kind_of t.token) then (read_of r >>= λ e. Some (bs, parts.Command e)) else body_next bs r n t
in_goal bs (parts.Command e) t = command_next bs e (kind_of t.token)
in_goal bs (parts.ProofEnd e) t = dot_next bs (parts.ModeAfterProof e) (kind_of t.token)
in_goal bs (parts.ModeAfterProof e) t = mode_next bs e (kind_of t.token)
in_goal bs (parts.ModeEnd e m) t = None

-- ---- in a session

-- a goal that is whole
abbrev pub with_goal : RawSession → ℕ → List RawBound → RawExpr → Mode → RawSession
with_goal w p bs e m = record { name = w.name; goals = w.goals ++ record { mode = m; bound = bs; body = e; at = p } ∷ [] }

abbrev pub goal_end : RawSession → ℕ → List RawBound → RawExpr → Mode → Kind → Option State
goal_end w p bs e m kinds.Dot = Some (states.Within (with_goal w p bs e m) betweens.Ended)
goal_end w p bs e m k = None

abbrev pub goal_on : RawSession → ℕ → Option GoalRead → Option State
goal_on w p o = o >>= λ g. Some (states.Within w (betweens.Goal p g.0 g.1))

abbrev pub goal_next : RawSession → ℕ → List RawBound → Part → Placed → Option State
goal_next w p bs (parts.ModeEnd e m) t = goal_end w p bs e m (kind_of t.token)
goal_next w p bs parts.Head t = goal_on w p (in_goal bs parts.Head t)
goal_next w p bs parts.Binders t = goal_on w p (in_goal bs parts.Binders t)
goal_next w p bs (parts.Bare names) t = goal_on w p (in_goal bs (parts.Bare names) t)
goal_next w p bs (parts.BareSort names) t = goal_on w p (in_goal bs (parts.BareSort names) t)
goal_next w p bs parts.BareEnd t = goal_on w p (in_goal bs parts.BareEnd t)
goal_next w p bs (parts.Grouped names) t = goal_on w p (in_goal bs (parts.Grouped names) t)
goal_next w p bs (parts.GroupedSort names) t = goal_on w p (in_goal bs (parts.GroupedSort names) t)
goal_next w p bs parts.GroupedEnd t = goal_on w p (in_goal bs parts.GroupedEnd t)
goal_next w p bs parts.NextGroup t = goal_on w p (in_goal bs parts.NextGroup t)
goal_next w p bs (parts.Body r n) t = goal_on w p (in_goal bs (parts.Body r n) t)
goal_next w p bs (parts.Command e) t = goal_on w p (in_goal bs (parts.Command e) t)
goal_next w p bs (parts.ProofEnd e) t = goal_on w p (in_goal bs (parts.ProofEnd e) t)
goal_next w p bs (parts.ModeAfterProof e) t = goal_on w p (in_goal bs (parts.ModeAfterProof e) t)

-- ---- in a file

-- the sessions that are whole, and where reading stands
abbrev pub FileRead : Type 0
FileRead = List RawSession × State

abbrev pub at_start : List RawSession → Kind → Option FileRead
at_start done (kinds.Keyword keywords.Session) = Some (done, states.Name)
at_start done k = None

abbrev pub name_next : List RawSession → Kind → ℕ → Option FileRead
name_next done (kinds.Name x) p = Some (done, states.NameEnd (named x p))
name_next done k p = None

abbrev pub name_end : List RawSession → Named → Kind → Option FileRead
name_end done n kinds.Dot = Some (done, states.Within (record { name = n.name; goals = [] }) betweens.Open)
name_end done n k = None

abbrev pub after_goals : List RawSession → RawSession → Kind → ℕ → Option FileRead
after_goals done w (kinds.Keyword keywords.Goal) p = Some (done, states.Within w (betweens.Goal p [] parts.Head))
after_goals done w (kinds.Keyword keywords.Session) p = Some (done ++ w ∷ [], states.Name)
after_goals done w k p = None

abbrev pub after_goal : List RawSession → RawSession → Kind → ℕ → Option FileRead
after_goal done w (kinds.Keyword keywords.Qed) p = Some (done, states.Within w betweens.QedEnd)
after_goal done w k p = after_goals done w k p

abbrev pub qed_end : List RawSession → RawSession → Kind → Option FileRead
qed_end done w kinds.Dot = Some (done, states.Within w betweens.Open)
qed_end done w k = None

abbrev pub in_session : List RawSession → RawSession → Between → Placed → Option FileRead
in_session done w betweens.Open t = after_goals done w (kind_of t.token) t.at
in_session done w betweens.Ended t = after_goal done w (kind_of t.token) t.at
in_session done w betweens.QedEnd t = qed_end done w (kind_of t.token)
in_session done w (betweens.Goal p bs part) t = goal_next w p bs part t >>= λ s. Some (done, s)

abbrev pub in_file : List RawSession → State → Placed → Option FileRead
in_file done states.Start t = at_start done (kind_of t.token)
in_file done states.Name t = name_next done (kind_of t.token) t.at
in_file done (states.NameEnd n) t = name_end done n (kind_of t.token)
in_file done (states.Within w b) t = in_session done w b t

-- one more token, where it may stand
abbrev pub file_with : FileRead → Placed → Option FileRead
file_with f t = in_file f.0 f.1 t

-- the tokens, one after the other
abbrev pub file_with_all : FileRead → List Placed → Option FileRead
file_with_all f [] = Some f
file_with_all f (t ∷ ts) = file_with f t >>= λ g. file_with_all g ts

-- where reading begins
abbrev pub nothing_read : FileRead
nothing_read = ([], states.Start)

abbrev pub ends_within : List RawSession → RawSession → Between → Option (List RawSession)
ends_within done w betweens.Open = Some (done ++ w ∷ [])
ends_within done w betweens.Ended = Some (done ++ w ∷ [])
ends_within done w betweens.QedEnd = None
ends_within done w (betweens.Goal p bs part) = None

-- the sessions of a file that may end here
abbrev pub file_of : FileRead → Option (List RawSession)
file_of (done, states.Start) = Some done
file_of (done, states.Name) = None
file_of (done, states.NameEnd n) = None
file_of (done, states.Within w b) = ends_within done w b
