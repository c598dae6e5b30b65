-- What stands at the nodes of operators and functions.
use Rattle.goal_ast.specs.declared.formula.Cmp.{Cmp}
use Rattle.goal_token.specs.declared.token.Sign.TheVariants as signs
use Rattle.goal_token.specs.declared.token.Function.TheVariants as functions
use Rattle.goal_token.specs.Numbers.{sign_number, function_number}
use Rattle.goal_token.specs.Spelling.{cmp_sign, test_sign}
use Rattle.goal_sort.specs.declared.raw.Head.{Head}
use Rattle.goal_sort.specs.declared.raw.Head.TheVariants as heads
use Rattle.goal_sort.specs.declared.operator.Unary.{Unary}
use Rattle.goal_sort.specs.declared.operator.Unary.TheVariants as unary
use Rattle.goal_sort.specs.declared.operator.Arithmetic.TheVariants as arithmetics
use Rattle.goal_sort.specs.declared.operator.ByLiteral.{ByLiteral}
use Rattle.goal_sort.specs.declared.operator.ByLiteral.TheVariants as literals
use Rattle.goal_sort.specs.declared.operator.BoolOperator.TheVariants as operators
use Rattle.goal_sort.specs.declared.operator.Connective.TheVariants as connectives
use Rattle.goal_sort.specs.declared.operator.Binary.{Binary}
use Rattle.goal_sort.specs.declared.operator.Binary.TheVariants as binary

abbrev pub unary_head : Unary → Head
unary_head unary.Minus = heads.Prefix (sign_number signs.Minus)
unary_head unary.Not = heads.Prefix (sign_number signs.Not)
unary_head (unary.Call f) = heads.Apply (function_number (functions.One f))
unary_head unary.Negb = heads.Apply (function_number functions.Negb)

abbrev pub literal_head : ByLiteral → Head
literal_head literals.Power = heads.Infix (sign_number signs.Power)
literal_head literals.Quotient = heads.Infix (sign_number signs.Divide)
literal_head literals.Remainder = heads.Infix (sign_number signs.Mod)

abbrev pub binary_head : Binary → Head
binary_head (binary.Arithmetic arithmetics.Sum) = heads.Infix (sign_number signs.Plus)
binary_head (binary.Arithmetic arithmetics.Difference) = heads.Infix (sign_number signs.Minus)
binary_head (binary.Arithmetic arithmetics.Product) = heads.Infix (sign_number signs.Times)
binary_head binary.Equal = heads.Infix (sign_number signs.Eq)
binary_head binary.Differ = heads.Infix (sign_number signs.Ne)
binary_head (binary.Compare c) = heads.Infix (sign_number (cmp_sign c))
binary_head (binary.Test c) = heads.Infix (sign_number (test_sign c))
binary_head (binary.Bool operators.And) = heads.Infix (sign_number signs.BoolAnd)
binary_head (binary.Bool operators.Or) = heads.Infix (sign_number signs.BoolOr)
binary_head (binary.Bool (operators.Call f)) = heads.Apply (function_number (functions.Bool f))
binary_head (binary.Connect connectives.And) = heads.Infix (sign_number signs.And)
binary_head (binary.Connect connectives.Or) = heads.Infix (sign_number signs.Or)
binary_head (binary.Connect connectives.Imp) = heads.Infix (sign_number signs.Arrow)
binary_head (binary.Connect connectives.Iff) = heads.Infix (sign_number signs.Iff)
binary_head (binary.Call f) = heads.Apply (function_number (functions.Two f))

abbrev pub chain_head : Cmp → Cmp → Head
chain_head c d = heads.Chain (sign_number (cmp_sign c)) (sign_number (cmp_sign d))
