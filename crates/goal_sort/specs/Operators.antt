-- The operators and functions, by the numbers of their tokens.
use Rattle.std.specs.Prelude.{ℕ, List, [], ◌∷◌, ◌++◌, map, Option, Some, None, if◌then◌else◌, ◌==◌}
use Rattle.goal_ast.specs.declared.term.Fn1.TheVariants as one
use Rattle.goal_ast.specs.declared.term.Fn2.TheVariants as two
use Rattle.goal_ast.specs.declared.formula.Cmp.{Cmp}
use Rattle.goal_ast.specs.declared.formula.Cmp.TheVariants as cmps
use Rattle.goal_ast.specs.declared.formula.BCmp.TheVariants as tests
use Rattle.goal_ast.specs.declared.formula.BFn.TheVariants as bools
use Rattle.goal_token.specs.declared.token.Sign.TheVariants as signs
use Rattle.goal_token.specs.declared.token.Function.TheVariants as functions
use Rattle.goal_token.specs.Numbers.{sign_number, one_number, two_number, function_number}
use Rattle.goal_sort.specs.declared.raw.Head.{Head}
use Rattle.goal_sort.specs.declared.raw.Head.TheVariants as heads
use Rattle.goal_sort.specs.declared.operator.Unary.{Unary}
use Rattle.goal_sort.specs.declared.operator.Unary.TheVariants as unary
use Rattle.goal_sort.specs.declared.operator.Arithmetic.TheVariants as arithmetic
use Rattle.goal_sort.specs.declared.operator.ByLiteral.{ByLiteral}
use Rattle.goal_sort.specs.declared.operator.ByLiteral.TheVariants as literal
use Rattle.goal_sort.specs.declared.operator.BoolOperator.TheVariants as connect
use Rattle.goal_sort.specs.declared.operator.Connective.TheVariants as connective
use Rattle.goal_sort.specs.declared.operator.Binary.{Binary}
use Rattle.goal_sort.specs.declared.operator.Binary.TheVariants as binary

-- what stands beside a number in a table
abbrev pub entry : {A : Type 0} → ℕ → List (ℕ × A) → Option A
entry n [] = None
entry n (e ∷ table) = if n == e.0 then Some e.1 else entry n table

-- signs before their operand
abbrev pub prefixes : List (ℕ × Unary)
prefixes = (sign_number signs.Minus, unary.Minus) ∷ (sign_number signs.Not, unary.Not) ∷ []

-- functions of one argument
abbrev pub functions_of_one : List (ℕ × Unary)
functions_of_one =
    map (λ f. (one_number f, unary.Call f))
    (one.ZSucc ∷ one.ZPred ∷ one.ZOpp ∷ one.ZAbs ∷ one.ZSgn ∷ one.S ∷ one.NatPred ∷ one.NSucc ∷ one.NPred ∷ one.PosSucc ∷ one.PosPred ∷ one.OfNat ∷ one.OfN ∷ one.OfPos ∷ one.ToNat ∷ one.ToN ∷ [])
    ++ (function_number functions.Negb, unary.Negb) ∷ []

-- what has one operand
unfoldable pub unary_of : Head → Option Unary
unary_of (heads.Prefix n) = entry n prefixes
unary_of (heads.Apply n) = entry n functions_of_one
unary_of (heads.Lit n) = None
unary_of (heads.Name x) = None
unary_of (heads.Infix n) = None
unary_of (heads.Chain m n) = None

-- signs whose right side is a literal
abbrev pub by_literals : List (ℕ × ByLiteral)
by_literals = (sign_number signs.Power, literal.Power) ∷ (sign_number signs.Divide, literal.Quotient) ∷ (sign_number signs.Mod, literal.Remainder) ∷ []

-- what has a literal for its right side
unfoldable pub by_literal_of : Head → Option ByLiteral
by_literal_of (heads.Infix n) = entry n by_literals
by_literal_of (heads.Lit n) = None
by_literal_of (heads.Name x) = None
by_literal_of (heads.Prefix n) = None
by_literal_of (heads.Apply n) = None
by_literal_of (heads.Chain m n) = None

-- the other signs between two operands
abbrev pub infixes : List (ℕ × Binary)
infixes =
    (sign_number signs.Plus, binary.Arithmetic arithmetic.Sum)
    ∷ (sign_number signs.Minus, binary.Arithmetic arithmetic.Difference)
    ∷ (sign_number signs.Times, binary.Arithmetic arithmetic.Product)
    ∷ (sign_number signs.Eq, binary.Equal) ∷ (sign_number signs.Ne, binary.Differ)
    ∷ (sign_number signs.Lt, binary.Compare cmps.Lt) ∷ (sign_number signs.Le, binary.Compare cmps.Le)
    ∷ (sign_number signs.Gt, binary.Compare cmps.Gt) ∷ (sign_number signs.Ge, binary.Compare cmps.Ge)
    ∷ (sign_number signs.EqTest, binary.Test tests.Eq) ∷ (sign_number signs.LtTest, binary.Test tests.Lt)
    ∷ (sign_number signs.LeTest, binary.Test tests.Le) ∷ (sign_number signs.GtTest, binary.Test tests.Gt)
    ∷ (sign_number signs.GeTest, binary.Test tests.Ge)
    ∷ (sign_number signs.BoolAnd, binary.Bool connect.And) ∷ (sign_number signs.BoolOr, binary.Bool connect.Or)
    ∷ (sign_number signs.And, binary.Connect connective.And) ∷ (sign_number signs.Or, binary.Connect connective.Or)
    ∷ (sign_number signs.Arrow, binary.Connect connective.Imp) ∷ (sign_number signs.Iff, binary.Connect connective.Iff)
    ∷ []

-- functions of two arguments
abbrev pub functions_of_two : List (ℕ × Binary)
functions_of_two =
    map (λ f. (two_number f, binary.Call f)) (two.ZMin ∷ two.ZMax ∷ two.NatMin ∷ two.NatMax ∷ two.NMin ∷ two.NMax ∷ two.PosMin ∷ two.PosMax ∷ [])
    ++ map (λ f. (function_number (functions.Bool f), binary.Bool (connect.Call f))) (bools.Imp ∷ bools.Xor ∷ bools.Eqb ∷ [])

-- what has two operands
unfoldable pub binary_of : Head → Option Binary
binary_of (heads.Infix n) = entry n infixes
binary_of (heads.Apply n) = entry n functions_of_two
binary_of (heads.Lit n) = None
binary_of (heads.Name x) = None
binary_of (heads.Prefix n) = None
binary_of (heads.Chain m n) = None

-- signs of chains
abbrev pub chained : List (ℕ × Cmp)
chained = (sign_number signs.Lt, cmps.Lt) ∷ (sign_number signs.Le, cmps.Le) ∷ []

abbrev pub both : {A : Type 0} → Option A → Option A → Option (A × A)
both None b = None
both (Some x) None = None
both (Some x) (Some y) = Some (x, y)

-- what has three operands
unfoldable pub chain_of : Head → Option (Cmp × Cmp)
chain_of (heads.Chain m n) = both (entry m chained) (entry n chained)
chain_of (heads.Infix n) = None
chain_of (heads.Lit n) = None
chain_of (heads.Name x) = None
chain_of (heads.Prefix n) = None
chain_of (heads.Apply n) = None
