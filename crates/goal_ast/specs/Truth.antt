-- The truth of a goal at an assignment, over unbounded integers (the Rocq manual and its standard library).
use Rattle.std.specs.Prelude.{◌≡◌, ℕ, zero, suc, ℤ, pos, negsuc, neg_ℤ, ◌+ℤ◌, ◌-ℤ◌, ◌*ℤ◌, unsigned_abs, Bool, true, false, not, ◌&&◌, ◌||◌, int_lt, int_le}
use Rattle.std.specs.Ordering.{int_eq}
use Rattle.std.specs.Int.{int_max, int_min}
use Rattle.mm_num.specs.Power.{power}
use Rattle.mm_num.specs.Quotient.{floor_by}
use Rattle.goal_ast.specs.declared.term.Sort.{Sort}
use Rattle.goal_ast.specs.declared.term.Sort.TheVariants as sorts
use Rattle.goal_ast.specs.declared.term.Fn1.{Fn1}
use Rattle.goal_ast.specs.declared.term.Fn1.TheVariants.{ZSucc, ZPred, ZOpp, ZAbs, ZSgn, S, NatPred, NSucc, NPred, PosSucc, PosPred, OfNat, OfN, OfPos, ToNat, ToN}
use Rattle.goal_ast.specs.declared.term.Fn2.{Fn2}
use Rattle.goal_ast.specs.declared.term.Fn2.TheVariants.{ZMin, ZMax, NatMin, NatMax, NMin, NMax, PosMin, PosMax}
use Rattle.goal_ast.specs.declared.term.Term.{Term}
use Rattle.goal_ast.specs.declared.term.Term.TheOpen.{Term-F}
use Rattle.goal_ast.specs.declared.term.Term.TheFolds.{fold-Term}
use Rattle.goal_ast.specs.declared.formula.Cmp.{Cmp}
use Rattle.goal_ast.specs.declared.formula.Cmp.TheVariants as cmps
use Rattle.goal_ast.specs.declared.formula.BCmp.{BCmp}
use Rattle.goal_ast.specs.declared.formula.BCmp.TheVariants as tests
use Rattle.goal_ast.specs.declared.formula.BFn.{BFn}
use Rattle.goal_ast.specs.declared.formula.BFn.TheVariants.{Imp, Xor, Eqb}
use Rattle.goal_ast.specs.declared.formula.BTerm.{BTerm}
use Rattle.goal_ast.specs.declared.formula.BTerm.TheOpen.{BTerm-F}
use Rattle.goal_ast.specs.declared.formula.BTerm.TheFolds.{fold-BTerm}
use Rattle.goal_ast.specs.declared.formula.Formula.{Formula}
use Rattle.goal_ast.specs.declared.formula.Formula.TheOpen.{Formula-F}
use Rattle.goal_ast.specs.declared.formula.Formula.TheFolds.{fold-Formula}

-- an assignment gives each variable an integer; a bool is 0 or 1
abbrev pub Point : Type 0
Point = ℕ → ℤ

-- Z.div rounds towards minus infinity
abbrev pub quotient : ℤ → ℤ → ℤ
quotient a (pos d) = floor_by a d
quotient a (negsuc d) = floor_by (neg_ℤ a) (suc d)

-- Z.modulo has the sign of the divisor
abbrev pub remainder : ℤ → ℤ → ℤ
remainder a d = a -ℤ d *ℤ quotient a d

-- what a sort's numbers are at least; subtraction stops there
abbrev pub stopped : Sort → ℤ → ℤ
stopped sorts.Int z = z
stopped sorts.Bool z = z
stopped sorts.Bin z = int_max (pos 0) z
stopped sorts.Nat z = int_max (pos 0) z
stopped sorts.Pos z = int_max (pos 1) z

-- Z.sgn
abbrev pub sign : ℤ → ℤ
sign (pos zero) = pos 0
sign (pos (suc n)) = pos 1
sign (negsuc n) = negsuc 0

abbrev pub call_1 : Fn1 → ℤ → ℤ
call_1 ZSucc a = a +ℤ pos 1
call_1 ZPred a = a -ℤ pos 1
call_1 ZOpp a = neg_ℤ a
call_1 ZAbs a = pos (unsigned_abs a)
call_1 ZSgn a = sign a
call_1 S a = a +ℤ pos 1
call_1 NatPred a = int_max (pos 0) (a -ℤ pos 1)
call_1 NSucc a = a +ℤ pos 1
call_1 NPred a = int_max (pos 0) (a -ℤ pos 1)
call_1 PosSucc a = a +ℤ pos 1
call_1 PosPred a = int_max (pos 1) (a -ℤ pos 1)
call_1 OfNat a = a
call_1 OfN a = a
call_1 OfPos a = a
call_1 ToNat a = int_max (pos 0) a
call_1 ToN a = int_max (pos 0) a

abbrev pub call_2 : Fn2 → ℤ → ℤ → ℤ
call_2 ZMin a b = int_min a b
call_2 ZMax a b = int_max a b
call_2 NatMin a b = int_min a b
call_2 NatMax a b = int_max a b
call_2 NMin a b = int_min a b
call_2 NMax a b = int_max a b
call_2 PosMin a b = int_min a b
call_2 PosMax a b = int_max a b

-- what a node makes of the values of its parts
abbrev pub value_level : Point → Term-F ℤ → ℤ
value_level x (Term-F.Lit n) = n
value_level x (Term-F.Var v) = x v
value_level x (Term-F.Neg a) = neg_ℤ a
value_level x (Term-F.Add a b) = a +ℤ b
value_level x (Term-F.Sub s a b) = stopped s (a -ℤ b)
value_level x (Term-F.Mul a b) = a *ℤ b
value_level x (Term-F.Pow a k) = power a (unsigned_abs k)
value_level x (Term-F.Div a k) = quotient a k
value_level x (Term-F.Rem a k) = remainder a k
value_level x (Term-F.Call1 f a) = call_1 f a
value_level x (Term-F.Call2 f a b) = call_2 f a b

-- the value of a term at a point
abbrev pub value_of : Point → Term → ℤ
value_of x = fold-Term ℤ (value_level x)

abbrev pub compare : Cmp → ℤ → ℤ → Bool
compare cmps.Eq a b = int_eq a b
compare cmps.Ne a b = not (int_eq a b)
compare cmps.Lt a b = int_lt a b
compare cmps.Le a b = int_le a b
compare cmps.Gt a b = int_lt b a
compare cmps.Ge a b = int_le b a

abbrev pub test : BCmp → ℤ → ℤ → Bool
test tests.Eq a b = int_eq a b
test tests.Lt a b = int_lt a b
test tests.Le a b = int_le a b
test tests.Gt a b = int_lt b a
test tests.Ge a b = int_le b a

abbrev pub same : Bool → Bool → Bool
same true b = b
same false b = not b

abbrev pub call_bool : BFn → Bool → Bool → Bool
call_bool Imp a b = not a || b
call_bool Xor a b = not (same a b)
call_bool Eqb a b = same a b

abbrev pub bool_level : Point → BTerm-F Bool → Bool
bool_level x BTerm-F.True = true
bool_level x BTerm-F.False = false
bool_level x (BTerm-F.Var v) = int_le (pos 1) (x v)
bool_level x (BTerm-F.Test c t u) = test c (value_of x t) (value_of x u)
bool_level x (BTerm-F.Not a) = not a
bool_level x (BTerm-F.And a b) = a && b
bool_level x (BTerm-F.Or a b) = a || b
bool_level x (BTerm-F.Call f a b) = call_bool f a b

-- the value of a bool term at a point
abbrev pub bool_of : Point → BTerm → Bool
bool_of x = fold-BTerm Bool (bool_level x)

abbrev pub truth_level : Point → Formula-F Bool → Bool
truth_level x Formula-F.True = true
truth_level x Formula-F.False = false
truth_level x (Formula-F.Atom c t u) = compare c (value_of x t) (value_of x u)
truth_level x (Formula-F.Chain t c u d v) = compare c (value_of x t) (value_of x u) && compare d (value_of x u) (value_of x v)
truth_level x (Formula-F.Same b c) = same (bool_of x b) (bool_of x c)
truth_level x (Formula-F.Differ b c) = not (same (bool_of x b) (bool_of x c))
truth_level x (Formula-F.Not f) = not f
truth_level x (Formula-F.And f g) = f && g
truth_level x (Formula-F.Or f g) = f || g
truth_level x (Formula-F.Imp f g) = not f || g
truth_level x (Formula-F.Iff f g) = same f g

-- whether a formula holds at a point
abbrev pub truth_of : Point → Formula → Bool
truth_of x = fold-Formula Bool (truth_level x)

abbrev pub Holds : Point → Formula → Type 0
Holds x f = truth_of x f ≡ true
