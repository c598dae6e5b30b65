-- Texts that spell tokens, whatever follows them.
use Rattle.std.specs.Prelude.{◌≡◌, ℕ, ◌+◌, List, [], ◌∷◌, ◌++◌, length, map, Bool, false, true, None, ◌||◌, ◌==◌}
use Rattle.std.specs.List.{AllByRecursion}
use Rattle.goal_token.specs.declared.token.Token.{Token}
use Rattle.goal_token.specs.declared.token.Placed.{Placed}
use Rattle.goal_token.specs.Words.{lookup, words}
use Rattle.goal_token.specs.Tokens.{is_digit, begins_name, is_name_byte, name_length, tokens_at}

-- a name or a word may end before these bytes: they begin with no byte of a name, nor with a dot and one
abbrev pub EndsWord : List ℕ → Type 0
EndsWord [] = Unit {0}
EndsWord (c ∷ bytes) = (is_name_byte c ≡ false) × (c ≡ 46 → name_length bytes ≡ 0)

-- the bytes that an expression begins with: that of a name, a digit, `(`, `-` or `~`
abbrev pub begins_expression : ℕ → Bool
begins_expression c = begins_name c || is_digit c || c == 40 || c == 45 || c == 126

abbrev pub BeginsExpression : List ℕ → Type 0
BeginsExpression [] = ⊥
BeginsExpression (c ∷ bytes) = begins_expression c ≡ true

-- the shape of a name
abbrev pub IsNameText : List ℕ → Type 0
IsNameText [] = ⊥
IsNameText (c ∷ bytes) = (begins_name c ≡ true) × AllByRecursion (λ d. is_name_byte d ≡ true) bytes

-- a name: it has that shape and is no word of the language
pub record IsName (text : List ℕ) : Type 0 where
  pub shape : IsNameText text
  pub free : lookup text words ≡ None

-- the tokens without their places
abbrev pub kinds_of : List Placed → List Token
kinds_of ts = map (λ (t : Placed). t.token) ts

-- from a place on, a text is cut into these tokens, and what follows it into its own
pub record IsCut (text : List ℕ) (kinds : List Token) (place : ℕ) (rest : List ℕ) : Type 0 where
  pub cut : List Placed
  pub kinds_are : kinds_of cut ≡ kinds
  pub tokens_are : tokens_at place (text ++ rest) ≡ cut ++ tokens_at (place + length text) rest

-- a text spells these tokens, wherever it stands and whatever follows it that ends a word
abbrev pub Spells : List ℕ → List Token → Type 0
Spells text kinds = (place : ℕ) (rest : List ℕ) → EndsWord rest → IsCut text kinds place rest
