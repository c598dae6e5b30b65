-- When bytes are no goal file, or one past the limits, and at which place.
use Rattle.std.specs.Prelude.{◌≡◌, ◌≢◌, ℕ, ◌+◌, List, [], ◌∷◌, ◌++◌, ◌≤◌, length, ◌⊎◌}
use Rattle.goal_ast.specs.declared.goal.Name.{Name}
use Rattle.goal_token.specs.declared.token.Keyword.{Keyword}
use Rattle.goal_token.specs.declared.token.Keyword.TheVariants as keywords
use Rattle.goal_token.specs.declared.token.Sign.TheVariants as signs
use Rattle.goal_token.specs.declared.token.Token.{Token}
use Rattle.goal_token.specs.declared.token.Token.TheVariants as tokens
use Rattle.goal_token.specs.declared.token.Placed.{Placed}
use Rattle.goal_token.specs.Tokens.{tokens_of}
use Rattle.goal_text.specs.declared.fail.TextFail.{TextFail}
use Rattle.goal_text.specs.declared.fail.TextFail.TheVariants.{Bad, Long, Many, NoMemory}
use Rattle.goal_sort.specs.declared.raw.RawBound.{RawBound}
use Rattle.goal_sort.specs.declared.raw.RawSession.{RawSession}
use Rattle.goal_text.specs.Files.{word, Prefixes, Sessions}

-- tokens that some file begins with
abbrev pub IsFront : List Placed → Type 0
IsFront ts = (rest : List Placed) × (ss : List RawSession) × Sessions ss (ts ++ rest)

-- no file has the token after those before it, though some file begins with those
abbrev pub IsBad : List Placed → Placed → Type 0
IsBad before t = IsFront before × (IsFront (before ++ t ∷ []) → ⊥)

-- no file ends after the tokens, though some file begins with them
abbrev pub IsBadEnd : List Placed → Type 0
IsBadEnd ts = IsFront ts × ((ss : List RawSession) → Sessions ss ts → ⊥)

-- ---- limits

-- how many of the tokens are this word
abbrev pub count_one : Keyword → Token → ℕ
count_one keywords.Session (tokens.Keyword keywords.Session) = 1
count_one keywords.Goal (tokens.Keyword keywords.Goal) = 1
count_one k t = 0

abbrev pub count : Keyword → List Placed → ℕ
count k [] = 0
count k (t ∷ ts) = count_one k t.token + count k ts

-- a session after 64 others, or a goal after 1,024
abbrev pub IsOneTooMany : List Placed → Placed → Type 0
IsOneTooMany before t = ((t.token ≡ tokens.Keyword keywords.Session) × (64 ≤ count keywords.Session before)) ⊎ ((t.token ≡ tokens.Keyword keywords.Goal) × (1024 ≤ count keywords.Goal before))

-- no token is this one
abbrev pub HasNo : Token → List Placed → Type 0
HasNo k [] = Unit {0}
HasNo k (t ∷ ts) = (t.token ≢ k) × HasNo k ts

-- the tokens of a goal after its prefixes, so many or more and no dot among them: its body so far
pub record BodySoFar (before : List Placed) (n : ℕ) : Type 0 where
  pub outer : List Placed
  pub place : ℕ
  pub bound : List RawBound
  pub head : List Placed
  pub prefixes : Prefixes bound head
  pub first : Placed
  pub others : List Placed
  pub spelled : before ≡ outer ++ word keywords.Goal place ∷ (head ++ first ∷ others)
  pub no_prefix : first.token ≢ tokens.Keyword keywords.Forall
  pub no_dot : HasNo (tokens.Sign signs.Dot) (first ∷ others)
  pub size : n ≤ length (first ∷ others)

abbrev pub is_name_token : Token → ℕ
is_name_token (tokens.Name x) = 1
is_name_token t = 0

-- how many of the tokens are names
abbrev pub names_in : List Placed → ℕ
names_in [] = 0
names_in (t ∷ ts) = is_name_token t.token + names_in ts

-- the tokens of a goal in a prefix that no comma has ended, with so many names or more bound by it and those before it
pub record BoundSoFar (before : List Placed) (n : ℕ) : Type 0 where
  pub outer : List Placed
  pub place : ℕ
  pub bound : List RawBound
  pub head : List Placed
  pub prefixes : Prefixes bound head
  pub opening : ℕ
  pub others : List Placed
  pub spelled : before ≡ outer ++ word keywords.Goal place ∷ (head ++ word keywords.Forall opening ∷ others)
  pub no_comma : HasNo (tokens.Sign signs.Comma) others
  pub size : n ≤ length bound + names_in others

-- a token of a body after 2,048 others, or a name that a goal binds after 256 others
abbrev pub IsTooLong : List Placed → Placed → Type 0
IsTooLong before t = (BodySoFar before 2048 × (t.token ≢ tokens.Sign signs.Dot)) ⊎ (BoundSoFar before 256 × (x : Name) × (t.token ≡ tokens.Name x))

-- a file has the token there, and it passes a limit
abbrev pub IsLong : List Placed → Placed → Type 0
IsLong before t = IsFront (before ++ t ∷ []) × IsTooLong before t

abbrev pub IsMany : List Placed → Placed → Type 0
IsMany before t = IsFront (before ++ t ∷ []) × IsOneTooMany before t

-- no token passes a limit
abbrev pub IsWithin : List Placed → Type 0
IsWithin ts = (before after : List Placed) (t : Placed) → ts ≡ before ++ t ∷ after → (IsLong before t → ⊥) × (IsMany before t → ⊥)

-- ---- the least refusal

-- the token at a place, after tokens none of which passes a limit
abbrev pub At : (List Placed → Placed → Type 0) → ℕ → List Placed → Type 0
At IsIt at ts = (before : List Placed) × (after : List Placed) × (t : Placed) × (ts ≡ before ++ t ∷ after) × IsIt before t × IsWithin before × (at ≡ t.at)

-- why bytes are refused
abbrev pub IsRefused : List ℕ → TextFail → Type 0
IsRefused bytes (Bad at) = At IsBad at (tokens_of bytes) ⊎ (IsBadEnd (tokens_of bytes) × IsWithin (tokens_of bytes) × (at ≡ length bytes))
IsRefused bytes (Long at) = At IsLong at (tokens_of bytes)
IsRefused bytes (Many at) = At IsMany at (tokens_of bytes)
IsRefused bytes NoMemory = Unit {0}
