-- The levels of the signs and functions of an expression. A lower level binds tighter.
use Rattle.std.specs.Prelude.{ℕ, Bool, true, false, Option, Some, None}
use Rattle.goal_token.specs.declared.token.Sign.{Sign}
use Rattle.goal_token.specs.declared.token.Sign.TheVariants as signs
use Rattle.goal_text.specs.declared.precedence.Levels.{Levels}
use Rattle.goal_token.specs.declared.token.Function.{Function}
use Rattle.goal_token.specs.declared.token.Function.TheVariants as functions

abbrev pub between : ℕ → ℕ → ℕ → Option Levels
between left level right = Some (record { level = level; left = left; right = right })

-- the signs between operands. A bare `mod` stands at 41, above the products at 40, so that it's no left side of one.
abbrev pub infix_levels : Sign → Option Levels
infix_levels signs.Arrow = between 98 99 99
infix_levels signs.Iff = between 94 95 94
infix_levels signs.Or = between 84 85 85
infix_levels signs.And = between 79 80 80
infix_levels signs.Eq = between 69 70 69
infix_levels signs.Ne = between 69 70 69
infix_levels signs.Lt = between 69 70 69
infix_levels signs.Le = between 69 70 69
infix_levels signs.Gt = between 69 70 69
infix_levels signs.Ge = between 69 70 69
infix_levels signs.EqTest = between 69 70 69
infix_levels signs.LtTest = between 69 70 69
infix_levels signs.LeTest = between 69 70 69
infix_levels signs.GtTest = between 69 70 69
infix_levels signs.GeTest = between 69 70 69
infix_levels signs.Plus = between 50 50 49
infix_levels signs.Minus = between 50 50 49
infix_levels signs.BoolOr = between 50 50 49
infix_levels signs.Times = between 40 40 39
infix_levels signs.Divide = between 40 40 39
infix_levels signs.BoolAnd = between 40 40 39
infix_levels signs.Mod = between 39 41 39
infix_levels signs.Power = between 29 30 30
infix_levels signs.Open = None
infix_levels signs.Close = None
infix_levels signs.Comma = None
infix_levels signs.Colon = None
infix_levels signs.Dot = None
infix_levels signs.Not = None

-- the signs before an operand: their level, which is also the operand's highest
abbrev pub prefix_level : Sign → Option ℕ
prefix_level signs.Minus = Some 35
prefix_level signs.Not = Some 75
prefix_level s = None

-- the comparisons of which two may stand between three operands
abbrev pub can_chain : Sign → Bool
can_chain signs.Lt = true
can_chain signs.Le = true
can_chain s = false

abbrev pub arity : Function → ℕ
arity (functions.One f) = 1
arity functions.Negb = 1
arity (functions.Two f) = 2
arity (functions.Bool f) = 2
