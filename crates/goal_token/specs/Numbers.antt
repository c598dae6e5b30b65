-- The numbers of signs and functions, one count.
use Rattle.std.specs.Prelude.{ℕ}
use Rattle.goal_ast.specs.declared.term.Fn1.{Fn1}
use Rattle.goal_ast.specs.declared.term.Fn1.TheVariants as one
use Rattle.goal_ast.specs.declared.term.Fn2.{Fn2}
use Rattle.goal_ast.specs.declared.term.Fn2.TheVariants as two
use Rattle.goal_ast.specs.declared.formula.BFn.TheVariants as bools
use Rattle.goal_token.specs.declared.token.Function.{Function}
use Rattle.goal_token.specs.declared.token.Function.TheVariants as function
use Rattle.goal_token.specs.declared.token.Sign.{Sign}
use Rattle.goal_token.specs.declared.token.Sign.TheVariants as sign

-- the signs from 0, then mod
abbrev pub sign_number : Sign → ℕ
sign_number sign.Iff = 0
sign_number sign.LeTest = 1
sign_number sign.GeTest = 2
sign_number sign.Arrow = 3
sign_number sign.And = 4
sign_number sign.Or = 5
sign_number sign.Ne = 6
sign_number sign.Le = 7
sign_number sign.Ge = 8
sign_number sign.EqTest = 9
sign_number sign.LtTest = 10
sign_number sign.GtTest = 11
sign_number sign.BoolAnd = 12
sign_number sign.BoolOr = 13
sign_number sign.Open = 14
sign_number sign.Close = 15
sign_number sign.Comma = 16
sign_number sign.Colon = 17
sign_number sign.Dot = 18
sign_number sign.Eq = 19
sign_number sign.Lt = 20
sign_number sign.Gt = 21
sign_number sign.Plus = 22
sign_number sign.Minus = 23
sign_number sign.Times = 24
sign_number sign.Divide = 25
sign_number sign.Power = 26
sign_number sign.Not = 27
sign_number sign.Mod = 28

-- the functions of one number from 29
abbrev pub one_number : Fn1 → ℕ
one_number one.ZSucc = 29
one_number one.ZPred = 30
one_number one.ZOpp = 31
one_number one.ZAbs = 32
one_number one.ZSgn = 33
one_number one.S = 34
one_number one.NatPred = 35
one_number one.NSucc = 36
one_number one.NPred = 37
one_number one.PosSucc = 38
one_number one.PosPred = 39
one_number one.OfNat = 40
one_number one.OfN = 41
one_number one.OfPos = 42
one_number one.ToNat = 43
one_number one.ToN = 44

-- the functions of two numbers from 45
abbrev pub two_number : Fn2 → ℕ
two_number two.ZMin = 45
two_number two.ZMax = 46
two_number two.NatMin = 47
two_number two.NatMax = 48
two_number two.NMin = 49
two_number two.NMax = 50
two_number two.PosMin = 51
two_number two.PosMax = 52

-- the functions from 29
abbrev pub function_number : Function → ℕ
function_number (function.One f) = one_number f
function_number (function.Two f) = two_number f
function_number function.Negb = 53
function_number (function.Bool bools.Imp) = 54
function_number (function.Bool bools.Xor) = 55
function_number (function.Bool bools.Eqb) = 56
