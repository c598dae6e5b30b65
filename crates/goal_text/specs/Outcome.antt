-- Reading all tokens of a file, up to the first refusal.
use Rattle.std.specs.Prelude.{ℕ, ◌+◌, List, [], ◌∷◌, Bool, true, false, not, nat_le, ◌&&◌, ◌||◌, Option, Some, None, Result, Ok, Err, if◌then◌else◌}
use Rattle.std.specs.Option.{option_map_or}
use Rattle.goal_token.specs.declared.token.Keyword.TheVariants as keywords
use Rattle.goal_token.specs.declared.token.Placed.{Placed}
use Rattle.goal_text.specs.declared.fail.TextFail.{TextFail}
use Rattle.goal_text.specs.declared.fail.TextFail.TheVariants.{Bad, Long, Many}
use Rattle.goal_text.specs.declared.kind.Kind.{Kind}
use Rattle.goal_text.specs.declared.kind.Kind.TheVariants as kinds
use Rattle.goal_sort.specs.declared.raw.RawSession.{RawSession}
use Rattle.goal_text.specs.Steps.{kind_of, is_dot, FileRead, file_with, file_of}
use Rattle.goal_text.specs.Counts.{body_count, bound_count}

abbrev pub is_session : Kind → Bool
is_session (kinds.Keyword keywords.Session) = true
is_session k = false

abbrev pub is_goal : Kind → Bool
is_goal (kinds.Keyword keywords.Goal) = true
is_goal k = false

abbrev pub is_name : Kind → Bool
is_name (kinds.Name x) = true
is_name k = false

-- so many sessions and goals have begun
pub record Begun : Type 0 where
  pub sessions : ℕ
  pub goals : ℕ

abbrev pub one_if : Bool → ℕ
one_if true = 1
one_if false = 0

abbrev pub begun_with : Begun → Kind → Begun
begun_with b k = record { sessions = b.sessions + one_if (is_session k); goals = b.goals + one_if (is_goal k) }

-- whether a token is one too many
abbrev pub is_many : Begun → Kind → Bool
is_many b k = (is_session k && nat_le 64 b.sessions) || (is_goal k && nat_le 1024 b.goals)

abbrev pub is_long : FileRead → Kind → Bool
is_long f k = (option_map_or (λ n. nat_le 2048 n) (body_count f) false && not (is_dot k)) || (option_map_or (λ n. nat_le 256 n) (bound_count f) false && is_name k)

abbrev pub limit_at : FileRead → Begun → Placed → Option TextFail
limit_at f b t = if is_many b (kind_of t.token) then Some (Many t.at) else if is_long f (kind_of t.token) then Some (Long t.at) else None

abbrev pub ended : ℕ → Option (List RawSession) → Result (List RawSession) TextFail
ended end (Some ss) = Ok ss
ended end None = Err (Bad end)

-- the sessions that the tokens are, or the first refusal; the end of the input is at this place
abbrev pub outcome : ℕ → FileRead → Begun → List Placed → Result (List RawSession) TextFail
outcome end f b [] = ended end (file_of f)
outcome end f b (t ∷ ts) = elim (file_with f t) [
  | None ↦ Err (Bad t.at)
  | Some g ↦ elim (limit_at f b t) [ Some fail ↦ Err fail | None ↦ outcome end g (begun_with b (kind_of t.token)) ts ]
]
