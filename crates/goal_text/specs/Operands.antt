-- Reading an expression token by token: a stack of what is open, the innermost first, and either an operand to come or
-- one that is whole.
use Rattle.std.specs.Prelude.{ℕ, List, [], ◌∷◌, Bool, nat_le, ◌&&◌, ◌==◌, Option, Some, None, if◌then◌else◌}
use Rattle.std.specs.Option.{option_map_or}
use Rattle.mm_num.specs.Option.{◌>>=◌}
use Rattle.goal_token.specs.declared.token.Sign.{Sign}
use Rattle.goal_token.specs.declared.token.Sign.TheVariants as signs
use Rattle.goal_token.specs.declared.token.Function.{Function}
use Rattle.goal_token.specs.declared.token.Token.{Token}
use Rattle.goal_token.specs.declared.token.Token.TheVariants as tokens
use Rattle.goal_token.specs.declared.token.Placed.{Placed}
use Rattle.goal_token.specs.Numbers.{sign_number, function_number}
use Rattle.goal_sort.specs.declared.raw.Head.TheVariants as heads
use Rattle.goal_sort.specs.declared.raw.RawExpr.{RawExpr}
use Rattle.goal_text.specs.declared.frame.Frame.{Frame}
use Rattle.goal_text.specs.declared.frame.Frame.TheVariants.{Open, Prefix, Infix, Chain, First, Last}
use Rattle.goal_text.specs.declared.precedence.Levels.{Levels}
use Rattle.goal_text.specs.Levels.{infix_levels, prefix_level, can_chain, arity}
use Rattle.goal_text.specs.Grammar.{constant_text}
use Rattle.goal_sort.specs.IsSorted.{node}

-- the highest level that an operand may have right after a sign
abbrev pub right_of : Sign → ℕ
right_of s = option_map_or (λ (l : Levels). l.right) (infix_levels s) 0

abbrev pub level_of : Sign → ℕ
level_of s = option_map_or (λ (l : Levels). l.level) (infix_levels s) 0

abbrev pub prefix_of : Sign → ℕ
prefix_of s = option_map_or (λ (l : ℕ). l) (prefix_level s) 0

-- the highest level of what may come next in an open construct
abbrev pub highest : Frame → ℕ
highest Open = 100
highest (Prefix s p) = prefix_of s
highest (Infix s p a) = right_of s
highest (Chain s p t a b) = 69
highest (First f p) = 9
highest (Last f p before) = 9

abbrev pub room : List Frame → ℕ
room [] = 100
room (f ∷ fs) = highest f

-- an expression with its level; what is closed in itself has level 0
abbrev pub Whole : Type 0
Whole = RawExpr × ℕ

abbrev pub arguments : Option RawExpr → RawExpr → List RawExpr
arguments None e = e ∷ []
arguments (Some before) e = before ∷ e ∷ []

-- what an open construct is with its last operand, where an operand ends it
abbrev pub closed : Frame → RawExpr → Option Whole
closed Open e = None
closed (Prefix s p) e = Some (node (heads.Prefix (sign_number s)) p (e ∷ []), prefix_of s)
closed (Infix s p a) e = Some (node (heads.Infix (sign_number s)) p (a ∷ e ∷ []), level_of s)
closed (Chain s p t a b) e = Some (node (heads.Chain (sign_number s) (sign_number t)) p (a ∷ b ∷ e ∷ []), 70)
closed (First f p) e = None
closed (Last f p before) e = Some (node (heads.Apply (function_number f)) p (arguments before e), 10)

-- the constructs that are open, the innermost first, and the operand that is whole, where none is to come
abbrev pub Reading : Type 0
Reading = List Frame × Option Whole

abbrev pub wanted_if : Bool → List Frame → Option Reading
wanted_if b fs = if b then Some (fs, None) else None

-- a second comparison makes a chain of the first
abbrev pub chain_with : Frame → Sign → RawExpr → Option Frame
chain_with (Infix s p a) t e = if can_chain s && can_chain t then Some (Chain s p t a e) else None
chain_with Open t e = None
chain_with (Prefix s p) t e = None
chain_with (Chain s p u a b) t e = None
chain_with (First f p) t e = None
chain_with (Last f p before) t e = None

-- the sign takes what is whole as its left side
abbrev pub attached : Sign → ℕ → ℕ → List Frame → Whole → Option Reading
attached t q left fs w = wanted_if (nat_le w.1 left) (Infix t q w.0 ∷ fs)

-- a sign ends the constructs that have no room for it, from the innermost on
abbrev pub joins : Sign → ℕ → Levels → List Frame → Whole → Option Reading
joins t q l [] w = attached t q l.left [] w
joins t q l (f ∷ fs) w = elim (chain_with f t w.0) [
  | Some g ↦ Some (g ∷ fs, None)
  | None ↦ if nat_le l.level (highest f) then attached t q l.left (f ∷ fs) w else (closed f w.0 >>= λ v. joins t q l fs v)
]

abbrev pub after_group : Frame → List Frame → RawExpr → Option Reading
after_group Open fs e = Some (fs, Some (e, 0))
after_group (Prefix s p) fs e = None
after_group (Infix s p a) fs e = None
after_group (Chain s p t a b) fs e = None
after_group (First f p) fs e = None
after_group (Last f p before) fs e = None

-- a closing parenthesis ends all up to the innermost open one
abbrev pub ends_group : List Frame → RawExpr → Option Reading
ends_group [] e = None
ends_group (f ∷ fs) e = elim (closed f e) [ Some w ↦ ends_group fs w.0 | None ↦ after_group f fs e ]

-- the end of the expression ends all that is open
abbrev pub finished : List Frame → RawExpr → Option RawExpr
finished [] e = Some e
finished (f ∷ fs) e = closed f e >>= λ w. finished fs w.0

-- a function opens its first argument
abbrev pub call : Function → ℕ → Frame
call f p = if arity f == 1 then Last f p None else First f p

abbrev pub opens_group : Sign → List Frame → Option Reading
opens_group signs.Open fs = Some (Open ∷ fs, None)
opens_group s fs = None

-- a sign where an operand is to come
abbrev pub sign_opens : Sign → ℕ → List Frame → Option Reading
sign_opens s p fs = elim (prefix_level s) [ Some l ↦ wanted_if (nat_le l (room fs)) (Prefix s p ∷ fs) | None ↦ opens_group s fs ]

-- a token where an operand is to come
abbrev pub opens : Token → ℕ → List Frame → Option Reading
opens (tokens.Literal n) p fs = Some (fs, Some (node (heads.Lit n) p [], 0))
opens (tokens.Name x) p fs = Some (fs, Some (node (heads.Name x) p [], 0))
opens (tokens.Constant c) p fs = Some (fs, Some (node (heads.Name (record { bytes = constant_text c })) p [], 0))
opens (tokens.Function f) p fs = wanted_if (nat_le 10 (room fs)) (call f p ∷ fs)
opens (tokens.Sign s) p fs = sign_opens s p fs
opens (tokens.Keyword k) p fs = None
opens (tokens.Sort s) p fs = None
opens tokens.Wrong p fs = None

abbrev pub closes_group : Sign → List Frame → RawExpr → Option Reading
closes_group signs.Close fs e = ends_group fs e
closes_group s fs e = None

-- a sign after a whole operand
abbrev pub sign_follows : Sign → ℕ → List Frame → Whole → Option Reading
sign_follows s p fs w = elim (infix_levels s) [ Some l ↦ joins s p l fs w | None ↦ closes_group s fs w.0 ]

abbrev pub token_follows : Token → ℕ → List Frame → Whole → Option Reading
token_follows (tokens.Sign s) p fs w = sign_follows s p fs w
token_follows (tokens.Literal n) p fs w = None
token_follows (tokens.Name x) p fs w = None
token_follows (tokens.Constant c) p fs w = None
token_follows (tokens.Function f) p fs w = None
token_follows (tokens.Keyword k) p fs w = None
token_follows (tokens.Sort s) p fs w = None
token_follows tokens.Wrong p fs w = None

-- a token after a whole operand; the first of two arguments is followed by the second
abbrev pub follows : Token → ℕ → List Frame → Whole → Option Reading
follows t p [] w = token_follows t p [] w
follows t p (First f q ∷ fs) w = opens t p (Last f q (Some w.0) ∷ fs)
follows t p (Open ∷ fs) w = token_follows t p (Open ∷ fs) w
follows t p (Prefix s q ∷ fs) w = token_follows t p (Prefix s q ∷ fs) w
follows t p (Infix s q a ∷ fs) w = token_follows t p (Infix s q a ∷ fs) w
follows t p (Chain s q u a b ∷ fs) w = token_follows t p (Chain s q u a b ∷ fs) w
follows t p (Last f q before ∷ fs) w = token_follows t p (Last f q before ∷ fs) w

abbrev pub after_operand : Option Whole → Token → ℕ → List Frame → Option Reading
after_operand None t p fs = opens t p fs
after_operand (Some w) t p fs = follows t p fs w

-- one more token, where it may stand
abbrev pub with_token : Reading → Placed → Option Reading
with_token r t = after_operand r.1 t.token t.at r.0

-- the tokens, one after the other
abbrev pub with_tokens : Reading → List Placed → Option Reading
with_tokens r [] = Some r
with_tokens r (t ∷ ts) = with_token r t >>= λ s. with_tokens s ts

-- the expression that was read, where it is whole
abbrev pub read_of : Reading → Option RawExpr
read_of r = r.1 >>= λ w. finished r.0 w.0
