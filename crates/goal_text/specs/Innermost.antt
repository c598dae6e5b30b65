-- What the innermost of the open constructs says about the next token.
use Rattle.std.specs.Prelude.{ℕ, List, [], ◌∷◌, Bool, true, false, not, nat_lt, ◌&&◌, Option, Some, None}
use Rattle.mm_num.specs.Option.{◌>>=◌}
use Rattle.goal_token.specs.declared.token.Sign.{Sign}
use Rattle.goal_sort.specs.declared.raw.RawExpr.{RawExpr}
use Rattle.goal_text.specs.declared.frame.Frame.{Frame}
use Rattle.goal_text.specs.declared.frame.Frame.TheVariants.{Open, Prefix, Infix, Chain, First, Last}
use Rattle.goal_text.specs.Levels.{can_chain}
use Rattle.goal_text.specs.Operands.{highest, Whole, closed, chain_with, Reading, attached}

-- whether a sign makes a chain of the construct
abbrev pub is_chained : Frame → Sign → Bool
is_chained (Infix s p a) t = can_chain s && can_chain t
is_chained Open t = false
is_chained (Prefix s p) t = false
is_chained (Chain s p u a b) t = false
is_chained (First f p) t = false
is_chained (Last f p before) t = false

-- whether a sign makes a chain of the innermost
abbrev pub chains_top : Sign → List Frame → Bool
chains_top t [] = false
chains_top t (f ∷ fs) = is_chained f t

-- whether a sign of this level ends the innermost
abbrev pub ends_top : Sign → ℕ → List Frame → Bool
ends_top t level [] = false
ends_top t level (f ∷ fs) = not (is_chained f t) && nat_lt (highest f) level

-- the innermost made a chain
abbrev pub chained_top : Sign → RawExpr → List Frame → Option Reading
chained_top t e [] = None
chained_top t e (f ∷ fs) = chain_with f t e >>= λ g. Some (g ∷ fs, None)

-- a sign that ends nothing makes a chain, or takes what is whole as its left side
abbrev pub landed : Sign → ℕ → ℕ → List Frame → Whole → Option Reading
landed t q left fs w = elim (chains_top t fs) [ true ↦ chained_top t w.0 fs | false ↦ attached t q left fs w ]

-- the innermost is ended by its last operand
abbrev pub closed_top : List Frame → RawExpr → Option (List Frame × Whole)
closed_top [] e = None
closed_top (f ∷ fs) e = closed f e >>= λ w. Some (fs, w)

-- whether the construct is a parenthesis
abbrev pub is_group : Frame → Bool
is_group Open = true
is_group (Prefix s p) = false
is_group (Infix s p a) = false
is_group (Chain s p t a b) = false
is_group (First f p) = false
is_group (Last f p before) = false

-- whether the innermost is a parenthesis
abbrev pub is_in_group : List Frame → Bool
is_in_group [] = false
is_in_group (f ∷ fs) = is_group f

-- whether the construct is a function before the first of its two arguments
abbrev pub is_first : Frame → Bool
is_first (First f p) = true
is_first Open = false
is_first (Prefix s p) = false
is_first (Infix s p a) = false
is_first (Chain s p t a b) = false
is_first (Last f p before) = false

-- whether the innermost is such a function
abbrev pub is_at_first : List Frame → Bool
is_at_first [] = false
is_at_first (f ∷ fs) = is_first f

-- a function that got its first argument, before the second
abbrev pub second_of : Frame → RawExpr → Option Frame
second_of (First f p) e = Some (Last f p (Some e))
second_of Open e = None
second_of (Prefix s p) e = None
second_of (Infix s p a) e = None
second_of (Chain s p t a b) e = None
second_of (Last f p before) e = None

-- the innermost is such a function, and gets its first argument
abbrev pub with_first : List Frame → RawExpr → Option (List Frame)
with_first [] e = None
with_first (f ∷ fs) e = second_of f e >>= λ g. Some (g ∷ fs)
