-- The texts of words and signs.
use Rattle.std.specs.Prelude.{ℕ, nat_eq, List, [], ◌∷◌, ◌++◌, ◌==◌, length, map, filter, Option, Some, None, if◌then◌else◌, codes}
use Rattle.std.specs.Cmp.Lexicographic.{pointwise}
use Rattle.goal_ast.specs.declared.term.Sort.{Sort}
use Rattle.goal_ast.specs.declared.term.Sort.TheVariants as sort
use Rattle.goal_ast.specs.declared.term.Fn1.TheVariants as one
use Rattle.goal_ast.specs.declared.term.Fn2.TheVariants as two
use Rattle.goal_ast.specs.declared.formula.BFn.TheVariants as bools
use Rattle.goal_token.specs.declared.token.Keyword.{Keyword}
use Rattle.goal_token.specs.declared.token.Keyword.TheVariants as keyword
use Rattle.goal_token.specs.declared.token.Constant.{Constant}
use Rattle.goal_token.specs.declared.token.Constant.TheVariants as constant
use Rattle.goal_token.specs.declared.token.Function.{Function}
use Rattle.goal_token.specs.declared.token.Function.TheVariants.{One, Two, Negb, Bool}
use Rattle.goal_token.specs.declared.token.Sign.{Sign}
use Rattle.goal_token.specs.declared.token.Sign.TheVariants as sign
use Rattle.goal_token.specs.declared.token.Token.{Token}
use Rattle.goal_token.specs.declared.token.Token.TheVariants as token

-- texts, each with what it stands for
abbrev pub Table : Type 0 → Type 0
Table A = List (List ℕ × A)

-- what a text stands for, where the table has it
abbrev pub lookup : {A : Type 0} → List ℕ → Table A → Option A
lookup text [] = None
lookup text (entry ∷ table) = if pointwise nat_eq text entry.0 then Some entry.1 else lookup text table

-- the words of the shape of a file
abbrev pub keywords : Table Keyword
keywords =
    (codes "Session", keyword.Session) ∷ (codes "Goal", keyword.Goal) ∷ (codes "Proof", keyword.Proof) ∷ (codes "Qed", keyword.Qed)
    ∷ (codes "lia", keyword.Lia) ∷ (codes "nia", keyword.Nia) ∷ (codes "forall", keyword.Forall) ∷ []

-- the two propositions and the two bools
abbrev pub constants : Table Constant
constants =
    (codes "True", constant.True) ∷ (codes "False", constant.False) ∷ (codes "true", constant.BoolTrue) ∷ (codes "false", constant.BoolFalse) ∷ []

-- the sorts
abbrev pub sorts : Table Sort
sorts =
    (codes "Z", sort.Int) ∷ (codes "N", sort.Bin) ∷ (codes "nat", sort.Nat) ∷ (codes "positive", sort.Pos) ∷ (codes "bool", sort.Bool) ∷ []

-- the functions, in the order of their numbers
abbrev pub functions : Table Function
functions =
    (codes "Z.succ", One one.ZSucc) ∷ (codes "Z.pred", One one.ZPred) ∷ (codes "Z.opp", One one.ZOpp) ∷ (codes "Z.abs", One one.ZAbs)
    ∷ (codes "Z.sgn", One one.ZSgn) ∷ (codes "S", One one.S) ∷ (codes "Nat.pred", One one.NatPred) ∷ (codes "N.succ", One one.NSucc)
    ∷ (codes "N.pred", One one.NPred) ∷ (codes "Pos.succ", One one.PosSucc) ∷ (codes "Pos.pred", One one.PosPred)
    ∷ (codes "Z.of_nat", One one.OfNat) ∷ (codes "Z.of_N", One one.OfN) ∷ (codes "Z.pos", One one.OfPos)
    ∷ (codes "Z.to_nat", One one.ToNat) ∷ (codes "Z.to_N", One one.ToN) ∷ (codes "Z.min", Two two.ZMin) ∷ (codes "Z.max", Two two.ZMax)
    ∷ (codes "Nat.min", Two two.NatMin) ∷ (codes "Nat.max", Two two.NatMax) ∷ (codes "N.min", Two two.NMin) ∷ (codes "N.max", Two two.NMax)
    ∷ (codes "Pos.min", Two two.PosMin) ∷ (codes "Pos.max", Two two.PosMax) ∷ (codes "negb", Negb) ∷ (codes "implb", Bool bools.Imp)
    ∷ (codes "xorb", Bool bools.Xor) ∷ (codes "Bool.eqb", Bool bools.Eqb) ∷ []

-- a table with each of its values made a token
abbrev pub tokens_by : {A : Type 0} → (A → Token) → Table A → Table Token
tokens_by f table = map (λ entry. (entry.0, f entry.1)) table

-- the words that aren't names
unfoldable pub words : Table Token
words =
    tokens_by token.Keyword keywords ++ tokens_by token.Constant constants ++ tokens_by token.Sort sorts ++ tokens_by token.Function functions
    ++ (codes "mod", token.Sign sign.Mod) ∷ []

-- the signs of three bytes
unfoldable pub signs_of_3 : Table Sign
signs_of_3 = (codes "<->", sign.Iff) ∷ (codes "<=?", sign.LeTest) ∷ (codes ">=?", sign.GeTest) ∷ []

-- the signs of two bytes
unfoldable pub signs_of_2 : Table Sign
signs_of_2 =
    (codes "->", sign.Arrow) ∷ (codes "/\\", sign.And) ∷ (codes "\\/", sign.Or) ∷ (codes "<>", sign.Ne) ∷ (codes "<=", sign.Le)
    ∷ (codes ">=", sign.Ge) ∷ (codes "=?", sign.EqTest) ∷ (codes "<?", sign.LtTest) ∷ (codes ">?", sign.GtTest)
    ∷ (codes "&&", sign.BoolAnd) ∷ (codes "||", sign.BoolOr) ∷ []

-- the signs of one byte
unfoldable pub signs_of_1 : Table Sign
signs_of_1 =
    (codes "(", sign.Open) ∷ (codes ")", sign.Close) ∷ (codes ",", sign.Comma) ∷ (codes ":", sign.Colon) ∷ (codes ".", sign.Dot)
    ∷ (codes "=", sign.Eq) ∷ (codes "<", sign.Lt) ∷ (codes ">", sign.Gt) ∷ (codes "+", sign.Plus) ∷ (codes "-", sign.Minus)
    ∷ (codes "*", sign.Times) ∷ (codes "/", sign.Divide) ∷ (codes "^", sign.Power) ∷ (codes "~", sign.Not) ∷ []

-- the entries whose texts have this length
abbrev pub of_length : {A : Type 0} → ℕ → Table A → Table A
of_length n table = filter (λ entry. length entry.0 == n) table
