-- The parts of an expression's text, with parentheses where the grammar needs them.
use Rattle.std.specs.Prelude.{ℕ, ℤ, pos, int_le, nat_le, List, [], ◌++◌, if◌then◌else◌, codes}
use Rattle.std.specs.Fmt.{signed_decimal}
use Rattle.std.specs.Option.{option_map_or}
use Rattle.goal_token.specs.declared.token.Function.{Function}
use Rattle.goal_token.specs.declared.token.Sign.{Sign}
use Rattle.goal_token.specs.declared.token.Sign.TheVariants as signs
use Rattle.goal_text.specs.declared.precedence.Levels.{Levels}
use Rattle.goal_text.specs.Levels.{infix_levels, prefix_level}
use Rattle.goal_token.specs.Spelling.{sign_text, function_text}

-- an expression's level in the grammar, and its text
pub record Part : Type 0 where
  pub level : ℕ
  pub text : List ℕ

-- a text between parentheses
abbrev pub grouped : List ℕ → List ℕ
grouped text = codes "(" ++ (text ++ codes ")")

-- a part where only levels up to this one may stand without parentheses
unfoldable pub at_most : ℕ → Part → List ℕ
at_most highest part = if nat_le part.level highest then part.text else grouped part.text

-- what is an expression alone
abbrev pub leaf : List ℕ → Part
leaf text = record { level = 9; text = text }

-- a number; one below 0 is a unary minus
abbrev pub number : ℤ → Part
number z = record { level = if int_le (pos 0) z then 9 else 35; text = signed_decimal z }

-- a sign before its operand: a space follows `~`, and none the minus
abbrev pub before : Sign → List ℕ
before signs.Not = codes "~ "
before s = sign_text s

-- a sign between its operands
abbrev pub between : Sign → List ℕ
between s = codes " " ++ (sign_text s ++ codes " ")

-- an operand after a sign
abbrev pub prefixed : Sign → Part → Part
prefixed s a = option_map_or (λ (l : ℕ). record { level = l; text = before s ++ at_most l a }) (prefix_level s) (leaf [])

-- two operands with a sign between them
abbrev pub joined : Sign → Part → Part → Part
joined s a b = option_map_or (λ (l : Levels). record { level = l.level; text = at_most l.left a ++ (between s ++ at_most l.right b) }) (infix_levels s) (leaf [])

-- three operands with a comparison between each two
abbrev pub chained : Sign → Sign → Part → Part → Part → Part
chained s t a b c = record { level = 70; text = at_most 69 a ++ (between s ++ (at_most 69 b ++ (between t ++ at_most 69 c))) }

-- a function with its argument
abbrev pub applied : Function → Part → Part
applied f a = record { level = 10; text = function_text f ++ (codes " " ++ at_most 9 a) }

-- a function with its two arguments
abbrev pub applied_to_two : Function → Part → Part → Part
applied_to_two f a b = record { level = 10; text = function_text f ++ (codes " " ++ (at_most 9 a ++ (codes " " ++ at_most 9 b))) }
