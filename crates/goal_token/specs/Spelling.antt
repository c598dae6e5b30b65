-- The texts of signs, sorts and functions.
use Rattle.std.specs.Prelude.{ℕ, List, codes}
use Rattle.goal_ast.specs.declared.term.Sort.{Sort}
use Rattle.goal_ast.specs.declared.term.Sort.TheVariants as sorts
use Rattle.goal_ast.specs.declared.term.Fn1.{Fn1}
use Rattle.goal_ast.specs.declared.term.Fn1.TheVariants as one
use Rattle.goal_ast.specs.declared.term.Fn2.{Fn2}
use Rattle.goal_ast.specs.declared.term.Fn2.TheVariants as two
use Rattle.goal_ast.specs.declared.formula.Cmp.{Cmp}
use Rattle.goal_ast.specs.declared.formula.Cmp.TheVariants as cmps
use Rattle.goal_ast.specs.declared.formula.BCmp.{BCmp}
use Rattle.goal_ast.specs.declared.formula.BCmp.TheVariants as tests
use Rattle.goal_ast.specs.declared.formula.BFn.{BFn}
use Rattle.goal_ast.specs.declared.formula.BFn.TheVariants as bools
use Rattle.goal_token.specs.declared.token.Function.{Function}
use Rattle.goal_token.specs.declared.token.Function.TheVariants as functions
use Rattle.goal_token.specs.declared.token.Sign.{Sign}
use Rattle.goal_token.specs.declared.token.Sign.TheVariants as signs

abbrev pub sign_text : Sign → List ℕ
sign_text signs.Iff = codes "<->"
sign_text signs.LeTest = codes "<=?"
sign_text signs.GeTest = codes ">=?"
sign_text signs.Arrow = codes "->"
sign_text signs.And = codes "/\\"
sign_text signs.Or = codes "\\/"
sign_text signs.Ne = codes "<>"
sign_text signs.Le = codes "<="
sign_text signs.Ge = codes ">="
sign_text signs.EqTest = codes "=?"
sign_text signs.LtTest = codes "<?"
sign_text signs.GtTest = codes ">?"
sign_text signs.BoolAnd = codes "&&"
sign_text signs.BoolOr = codes "||"
sign_text signs.Open = codes "("
sign_text signs.Close = codes ")"
sign_text signs.Comma = codes ","
sign_text signs.Colon = codes ":"
sign_text signs.Dot = codes "."
sign_text signs.Eq = codes "="
sign_text signs.Lt = codes "<"
sign_text signs.Gt = codes ">"
sign_text signs.Plus = codes "+"
sign_text signs.Minus = codes "-"
sign_text signs.Times = codes "*"
sign_text signs.Divide = codes "/"
sign_text signs.Power = codes "^"
sign_text signs.Not = codes "~"
sign_text signs.Mod = codes "mod"

abbrev pub sort_text : Sort → List ℕ
sort_text sorts.Int = codes "Z"
sort_text sorts.Bin = codes "N"
sort_text sorts.Nat = codes "nat"
sort_text sorts.Pos = codes "positive"
sort_text sorts.Bool = codes "bool"

abbrev pub one_text : Fn1 → List ℕ
one_text one.ZSucc = codes "Z.succ"
one_text one.ZPred = codes "Z.pred"
one_text one.ZOpp = codes "Z.opp"
one_text one.ZAbs = codes "Z.abs"
one_text one.ZSgn = codes "Z.sgn"
one_text one.S = codes "S"
one_text one.NatPred = codes "Nat.pred"
one_text one.NSucc = codes "N.succ"
one_text one.NPred = codes "N.pred"
one_text one.PosSucc = codes "Pos.succ"
one_text one.PosPred = codes "Pos.pred"
one_text one.OfNat = codes "Z.of_nat"
one_text one.OfN = codes "Z.of_N"
one_text one.OfPos = codes "Z.pos"
one_text one.ToNat = codes "Z.to_nat"
one_text one.ToN = codes "Z.to_N"

abbrev pub two_text : Fn2 → List ℕ
two_text two.ZMin = codes "Z.min"
two_text two.ZMax = codes "Z.max"
two_text two.NatMin = codes "Nat.min"
two_text two.NatMax = codes "Nat.max"
two_text two.NMin = codes "N.min"
two_text two.NMax = codes "N.max"
two_text two.PosMin = codes "Pos.min"
two_text two.PosMax = codes "Pos.max"

abbrev pub bool_text : BFn → List ℕ
bool_text bools.Imp = codes "implb"
bool_text bools.Xor = codes "xorb"
bool_text bools.Eqb = codes "Bool.eqb"

abbrev pub function_text : Function → List ℕ
function_text (functions.One f) = one_text f
function_text (functions.Two f) = two_text f
function_text functions.Negb = codes "negb"
function_text (functions.Bool f) = bool_text f

-- the sign of a comparison of numbers
abbrev pub cmp_sign : Cmp → Sign
cmp_sign cmps.Eq = signs.Eq
cmp_sign cmps.Ne = signs.Ne
cmp_sign cmps.Lt = signs.Lt
cmp_sign cmps.Le = signs.Le
cmp_sign cmps.Gt = signs.Gt
cmp_sign cmps.Ge = signs.Ge

-- the sign of a comparison of numbers that is a bool
abbrev pub test_sign : BCmp → Sign
test_sign tests.Eq = signs.EqTest
test_sign tests.Lt = signs.LtTest
test_sign tests.Le = signs.LeTest
test_sign tests.Gt = signs.GtTest
test_sign tests.Ge = signs.GeTest
