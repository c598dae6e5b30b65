-- The texts are those of the words and signs of goal files.
use Rattle.std.proofs.Common.{◌≡◌, [], ◌∷◌, ◌++◌, Some, codes, refl}
use Rattle.goal_ast.specs.declared.term.Sort.{Sort}
use Rattle.goal_ast.specs.declared.term.Sort.TheVariants as sort
use Rattle.goal_ast.specs.declared.term.Fn1.TheVariants as one
use Rattle.goal_ast.specs.declared.term.Fn2.TheVariants as two
use Rattle.goal_ast.specs.declared.formula.BFn.TheVariants as bools
use Rattle.goal_token.specs.declared.token.Function.{Function}
use Rattle.goal_token.specs.declared.token.Function.TheVariants.{One, Two, Negb, Bool}
use Rattle.goal_token.specs.declared.token.Sign.{Sign}
use Rattle.goal_token.specs.declared.token.Sign.TheVariants as sign
use Rattle.goal_token.specs.Words.{Table, lookup, functions, sorts, signs_of_3, signs_of_2, signs_of_1}
use Rattle.goal_token.specs.Spelling.{sign_text, sort_text, function_text}

pub sort_spelled : (s : Sort) → lookup (sort_text s) sorts ≡ Some s
sort_spelled sort.Int = refl
sort_spelled sort.Bin = refl
sort_spelled sort.Nat = refl
sort_spelled sort.Pos = refl
sort_spelled sort.Bool = refl

pub function_spelled : (f : Function) → lookup (function_text f) functions ≡ Some f
function_spelled (One one.ZSucc) = refl
function_spelled (One one.ZPred) = refl
function_spelled (One one.ZOpp) = refl
function_spelled (One one.ZAbs) = refl
function_spelled (One one.ZSgn) = refl
function_spelled (One one.S) = refl
function_spelled (One one.NatPred) = refl
function_spelled (One one.NSucc) = refl
function_spelled (One one.NPred) = refl
function_spelled (One one.PosSucc) = refl
function_spelled (One one.PosPred) = refl
function_spelled (One one.OfNat) = refl
function_spelled (One one.OfN) = refl
function_spelled (One one.OfPos) = refl
function_spelled (One one.ToNat) = refl
function_spelled (One one.ToN) = refl
function_spelled (Two two.ZMin) = refl
function_spelled (Two two.ZMax) = refl
function_spelled (Two two.NatMin) = refl
function_spelled (Two two.NatMax) = refl
function_spelled (Two two.NMin) = refl
function_spelled (Two two.NMax) = refl
function_spelled (Two two.PosMin) = refl
function_spelled (Two two.PosMax) = refl
function_spelled Negb = refl
function_spelled (Bool bools.Imp) = refl
function_spelled (Bool bools.Xor) = refl
function_spelled (Bool bools.Eqb) = refl

-- the signs with their texts, and `mod` as the last
abbrev pub signs : Table Sign
signs = signs_of_3 ++ (signs_of_2 ++ (signs_of_1 ++ (codes "mod", sign.Mod) ∷ []))

pub sign_spelled : (s : Sign) → lookup (sign_text s) signs ≡ Some s
unfolding signs_of_3 signs_of_2 signs_of_1
sign_spelled sign.Iff = refl
sign_spelled sign.LeTest = refl
sign_spelled sign.GeTest = refl
sign_spelled sign.Arrow = refl
sign_spelled sign.And = refl
sign_spelled sign.Or = refl
sign_spelled sign.Ne = refl
sign_spelled sign.Le = refl
sign_spelled sign.Ge = refl
sign_spelled sign.EqTest = refl
sign_spelled sign.LtTest = refl
sign_spelled sign.GtTest = refl
sign_spelled sign.BoolAnd = refl
sign_spelled sign.BoolOr = refl
sign_spelled sign.Open = refl
sign_spelled sign.Close = refl
sign_spelled sign.Comma = refl
sign_spelled sign.Colon = refl
sign_spelled sign.Dot = refl
sign_spelled sign.Eq = refl
sign_spelled sign.Lt = refl
sign_spelled sign.Gt = refl
sign_spelled sign.Plus = refl
sign_spelled sign.Minus = refl
sign_spelled sign.Times = refl
sign_spelled sign.Divide = refl
sign_spelled sign.Power = refl
sign_spelled sign.Not = refl
sign_spelled sign.Mod = refl
