-- Equality of terms: the same operator over equal parts.
use Rattle.std.specs.Prelude.{ℕ, ◌==◌, List, [], ◌∷◌, Bool, true, false, ◌&&◌}
use Rattle.std.specs.Ordering.{int_eq}
use Rattle.goal_ast.specs.declared.term.Sort.{Sort}
use Rattle.goal_ast.specs.declared.term.Sort.TheVariants as sorts
use Rattle.goal_ast.specs.declared.term.Fn1.{Fn1}
use Rattle.goal_ast.specs.declared.term.Fn1.TheVariants.{ZSucc, ZPred, ZOpp, ZAbs, ZSgn, S, NatPred, NSucc, NPred, PosSucc, PosPred, OfNat, OfN, OfPos, ToNat, ToN}
use Rattle.goal_ast.specs.declared.term.Fn2.{Fn2}
use Rattle.goal_ast.specs.declared.term.Fn2.TheVariants.{ZMin, ZMax, NatMin, NatMax, NMin, NMax, PosMin, PosMax}
use Rattle.goal_ast.specs.declared.term.Operator.{Operator}
use Rattle.goal_ast.specs.declared.term.Operator.TheVariants as operators
use Rattle.goal_ast.specs.declared.term.Term.{Term}
use Rattle.goal_ast.specs.declared.term.Term.TheOpen.{Term-F}
use Rattle.goal_ast.specs.declared.term.Term.TheViews.{out-Term}
use Rattle.goal_ast.specs.declared.term.Term.TheFolds.{fold-Term}

-- what stands at a node
abbrev pub operator_of : {A : Type 0} → Term-F A → Operator
operator_of (Term-F.Lit n) = operators.Lit n
operator_of (Term-F.Var v) = operators.Var v
operator_of (Term-F.Neg a) = operators.Neg
operator_of (Term-F.Add a b) = operators.Add
operator_of (Term-F.Sub s a b) = operators.Sub s
operator_of (Term-F.Mul a b) = operators.Mul
operator_of (Term-F.Pow a k) = operators.Pow k
operator_of (Term-F.Div a k) = operators.Div k
operator_of (Term-F.Rem a k) = operators.Rem k
operator_of (Term-F.Call1 f a) = operators.Call1 f
operator_of (Term-F.Call2 f a b) = operators.Call2 f

-- the parts of a node
abbrev pub parts_of : {A : Type 0} → Term-F A → List A
parts_of (Term-F.Lit n) = []
parts_of (Term-F.Var v) = []
parts_of (Term-F.Neg a) = a ∷ []
parts_of (Term-F.Add a b) = a ∷ b ∷ []
parts_of (Term-F.Sub s a b) = a ∷ b ∷ []
parts_of (Term-F.Mul a b) = a ∷ b ∷ []
parts_of (Term-F.Pow a k) = a ∷ []
parts_of (Term-F.Div a k) = a ∷ []
parts_of (Term-F.Rem a k) = a ∷ []
parts_of (Term-F.Call1 f a) = a ∷ []
parts_of (Term-F.Call2 f a b) = a ∷ b ∷ []

-- the places of sorts and functions among their kind
abbrev pub sort_number : Sort → ℕ
sort_number sorts.Int = 0
sort_number sorts.Bin = 1
sort_number sorts.Nat = 2
sort_number sorts.Pos = 3
sort_number sorts.Bool = 4

abbrev pub number_1 : Fn1 → ℕ
number_1 ZSucc = 0
number_1 ZPred = 1
number_1 ZOpp = 2
number_1 ZAbs = 3
number_1 ZSgn = 4
number_1 S = 5
number_1 NatPred = 6
number_1 NSucc = 7
number_1 NPred = 8
number_1 PosSucc = 9
number_1 PosPred = 10
number_1 OfNat = 11
number_1 OfN = 12
number_1 OfPos = 13
number_1 ToNat = 14
number_1 ToN = 15

abbrev pub number_2 : Fn2 → ℕ
number_2 ZMin = 0
number_2 ZMax = 1
number_2 NatMin = 2
number_2 NatMax = 3
number_2 NMin = 4
number_2 NMax = 5
number_2 PosMin = 6
number_2 PosMax = 7

abbrev pub same_operator : Operator → Operator → Bool
same_operator (operators.Lit n) (operators.Lit m) = int_eq n m
same_operator (operators.Var v) (operators.Var w) = v == w
same_operator operators.Neg operators.Neg = true
same_operator operators.Add operators.Add = true
same_operator (operators.Sub s) (operators.Sub t) = sort_number s == sort_number t
same_operator operators.Mul operators.Mul = true
same_operator (operators.Pow k) (operators.Pow l) = int_eq k l
same_operator (operators.Div k) (operators.Div l) = int_eq k l
same_operator (operators.Rem k) (operators.Rem l) = int_eq k l
same_operator (operators.Call1 f) (operators.Call1 g) = number_1 f == number_1 g
same_operator (operators.Call2 f) (operators.Call2 g) = number_2 f == number_2 g
same_operator o p = false

-- whether there are as many parts, each equal to its counterpart
abbrev pub same_parts : List (Term → Bool) → List Term → Bool
same_parts [] [] = true
same_parts [] (t ∷ ts) = false
same_parts (is ∷ tests) [] = false
same_parts (is ∷ tests) (t ∷ ts) = is t && same_parts tests ts

abbrev pub same_level : Term-F (Term → Bool) → Term → Bool
same_level y u = same_operator (operator_of y) (operator_of (out-Term u)) && same_parts (parts_of y) (parts_of (out-Term u))

-- whether two terms are equal
abbrev pub same_term : Term → Term → Bool
same_term = fold-Term (Term → Bool) same_level
