-- Goals that are well formed: each node has a sort, chains rise, the numbers written in it are small, and it isn't too
-- large.
use Rattle.std.specs.Prelude.{◌≡◌, ◌≢◌, ℕ, ◌+◌, ◌^◌, ◌<◌, ◌≤◌, ℤ, pos, int_le, nat_lt, unsigned_abs, List, [], ◌∷◌, length, map, Bool, true, false, not, ◌&&◌, ◌||◌, slice_get}
use Rattle.std.specs.Ordering.{int_eq}
use Rattle.std.specs.List.{AllByRecursion}
use Rattle.std.specs.Option.{option_map_or}
use Rattle.goal_ast.specs.declared.term.Sort.{Sort}
use Rattle.goal_ast.specs.declared.term.Sort.TheVariants as sorts
use Rattle.goal_ast.specs.declared.term.Fn1.{Fn1}
use Rattle.goal_ast.specs.declared.term.Fn1.TheVariants.{ZSucc, ZPred, ZOpp, ZAbs, ZSgn, S, NatPred, NSucc, NPred, PosSucc, PosPred, OfNat, OfN, OfPos, ToNat, ToN}
use Rattle.goal_ast.specs.declared.term.Fn2.{Fn2}
use Rattle.goal_ast.specs.declared.term.Fn2.TheVariants.{ZMin, ZMax, NatMin, NatMax, NMin, NMax, PosMin, PosMax}
use Rattle.goal_ast.specs.declared.term.Term.{Term}
use Rattle.goal_ast.specs.declared.term.Term.TheOpen.{Term-F}
use Rattle.goal_ast.specs.declared.term.Term.TheFolds.{fold-Term}
use Rattle.goal_ast.specs.declared.formula.Cmp.{Cmp}
use Rattle.goal_ast.specs.declared.formula.Cmp.TheVariants as cmps
use Rattle.goal_ast.specs.declared.formula.BTerm.{BTerm}
use Rattle.goal_ast.specs.declared.formula.BTerm.TheOpen.{BTerm-F}
use Rattle.goal_ast.specs.declared.formula.BTerm.TheFolds.{fold-BTerm}
use Rattle.goal_ast.specs.declared.formula.Formula.{Formula}
use Rattle.goal_ast.specs.declared.formula.Formula.TheOpen.{Formula-F}
use Rattle.goal_ast.specs.declared.formula.Formula.TheFolds.{fold-Formula}
use Rattle.goal_ast.specs.declared.goal.Bound.{Bound}
use Rattle.goal_ast.specs.declared.goal.Goal.{Goal}
use Rattle.goal_ast.specs.Range.{sorts_of}

abbrev pub is_sort : Sort → Sort → Bool
is_sort sorts.Int sorts.Int = true
is_sort sorts.Bin sorts.Bin = true
is_sort sorts.Nat sorts.Nat = true
is_sort sorts.Pos sorts.Pos = true
is_sort sorts.Bool sorts.Bool = true
is_sort s t = false

-- the sorts of numbers
abbrev pub is_number : Sort → Bool
is_number s = not (is_sort s sorts.Bool)

-- the sorts that a literal has
abbrev pub literal_has : ℤ → Sort → Bool
literal_has n sorts.Int = int_le (pos 0) n
literal_has n sorts.Bin = int_le (pos 0) n
literal_has n sorts.Nat = int_le (pos 0) n
literal_has n sorts.Pos = int_le (pos 1) n
literal_has n sorts.Bool = false

-- the sort of a variable
abbrev pub variable_has : List Sort → ℕ → Sort → Bool
variable_has vars v s = option_map_or (λ t. is_sort t s) (slice_get vars v) false

-- whether a number is a divisor on a sort
abbrev pub divides_on : Sort → ℤ → Bool
divides_on sorts.Int k = not (int_eq k (pos 0))
divides_on sorts.Bin k = int_le (pos 1) k
divides_on sorts.Nat k = int_le (pos 1) k
divides_on sorts.Pos k = false
divides_on sorts.Bool k = false

-- the sort that a function takes, and the one that it gives
abbrev pub argument_1 : Fn1 → Sort
argument_1 ZSucc = sorts.Int
argument_1 ZPred = sorts.Int
argument_1 ZOpp = sorts.Int
argument_1 ZAbs = sorts.Int
argument_1 ZSgn = sorts.Int
argument_1 S = sorts.Nat
argument_1 NatPred = sorts.Nat
argument_1 NSucc = sorts.Bin
argument_1 NPred = sorts.Bin
argument_1 PosSucc = sorts.Pos
argument_1 PosPred = sorts.Pos
argument_1 OfNat = sorts.Nat
argument_1 OfN = sorts.Bin
argument_1 OfPos = sorts.Pos
argument_1 ToNat = sorts.Int
argument_1 ToN = sorts.Int

abbrev pub result_1 : Fn1 → Sort
result_1 ZSucc = sorts.Int
result_1 ZPred = sorts.Int
result_1 ZOpp = sorts.Int
result_1 ZAbs = sorts.Int
result_1 ZSgn = sorts.Int
result_1 S = sorts.Nat
result_1 NatPred = sorts.Nat
result_1 NSucc = sorts.Bin
result_1 NPred = sorts.Bin
result_1 PosSucc = sorts.Pos
result_1 PosPred = sorts.Pos
result_1 OfNat = sorts.Int
result_1 OfN = sorts.Int
result_1 OfPos = sorts.Int
result_1 ToNat = sorts.Nat
result_1 ToN = sorts.Bin

-- the sort of the arguments and of the result
abbrev pub sort_2 : Fn2 → Sort
sort_2 ZMin = sorts.Int
sort_2 ZMax = sorts.Int
sort_2 NatMin = sorts.Nat
sort_2 NatMax = sorts.Nat
sort_2 NMin = sorts.Bin
sort_2 NMax = sorts.Bin
sort_2 PosMin = sorts.Pos
sort_2 PosMax = sorts.Pos

-- which sorts a node has, over variables of these sorts
abbrev pub Sorting : Type 0
Sorting = List Sort → Sort → Bool

abbrev pub sort_level : Term-F Sorting → Sorting
sort_level (Term-F.Lit n) vars s = literal_has n s
sort_level (Term-F.Var v) vars s = is_number s && variable_has vars v s
sort_level (Term-F.Neg a) vars s = is_sort s sorts.Int && a vars sorts.Int
sort_level (Term-F.Add a b) vars s = a vars s && b vars s
sort_level (Term-F.Sub t a b) vars s = is_sort t s && (a vars s && b vars s)
sort_level (Term-F.Mul a b) vars s = a vars s && b vars s
sort_level (Term-F.Pow a k) vars s = a vars s && int_le (pos 0) k
sort_level (Term-F.Div a k) vars s = a vars s && divides_on s k
sort_level (Term-F.Rem a k) vars s = a vars s && divides_on s k
sort_level (Term-F.Call1 f a) vars s = is_sort (result_1 f) s && a vars (argument_1 f)
sort_level (Term-F.Call2 f a b) vars s = is_sort (sort_2 f) s && (a vars s && b vars s)

-- whether a term has a sort, over variables of these sorts
abbrev pub has_sort : Term → Sorting
has_sort = fold-Term Sorting sort_level

abbrev pub both_have : Term → Term → List Sort → Sort → Bool
both_have t u vars s = has_sort t vars s && has_sort u vars s

-- whether two terms have one sort of numbers
abbrev pub compare_well : Term → Term → List Sort → Bool
compare_well t u vars = (both_have t u vars sorts.Int || both_have t u vars sorts.Bin) || (both_have t u vars sorts.Nat || both_have t u vars sorts.Pos)

-- whether three terms have one sort of numbers
abbrev pub three_have : Term → Term → Term → List Sort → Sort → Bool
three_have t u v vars s = has_sort t vars s && both_have u v vars s

abbrev pub chain_well : Term → Term → Term → List Sort → Bool
chain_well t u v vars = (three_have t u v vars sorts.Int || three_have t u v vars sorts.Bin) || (three_have t u v vars sorts.Nat || three_have t u v vars sorts.Pos)

abbrev pub Fitting : Type 0
Fitting = List Sort → Bool

abbrev pub bool_sort_level : BTerm-F Fitting → Fitting
bool_sort_level BTerm-F.True vars = true
bool_sort_level BTerm-F.False vars = true
bool_sort_level (BTerm-F.Var v) vars = variable_has vars v sorts.Bool
bool_sort_level (BTerm-F.Test c t u) vars = compare_well t u vars
bool_sort_level (BTerm-F.Not a) vars = a vars
bool_sort_level (BTerm-F.And a b) vars = a vars && b vars
bool_sort_level (BTerm-F.Or a b) vars = a vars && b vars
bool_sort_level (BTerm-F.Call f a b) vars = a vars && b vars

-- whether each node of a bool term has its sort
abbrev pub is_bool : BTerm → Fitting
is_bool = fold-BTerm Fitting bool_sort_level

-- the comparisons of which two stand in a chain
abbrev pub makes_chain : Cmp → Bool
makes_chain cmps.Lt = true
makes_chain cmps.Le = true
makes_chain c = false

abbrev pub formula_sort_level : Formula-F Fitting → Fitting
formula_sort_level Formula-F.True vars = true
formula_sort_level Formula-F.False vars = true
formula_sort_level (Formula-F.Atom c t u) vars = compare_well t u vars
formula_sort_level (Formula-F.Chain t c u d v) vars = (makes_chain c && makes_chain d) && chain_well t u v vars
formula_sort_level (Formula-F.Same b c) vars = is_bool b vars && is_bool c vars
formula_sort_level (Formula-F.Differ b c) vars = is_bool b vars && is_bool c vars
formula_sort_level (Formula-F.Not f) vars = f vars
formula_sort_level (Formula-F.And f g) vars = f vars && g vars
formula_sort_level (Formula-F.Or f g) vars = f vars && g vars
formula_sort_level (Formula-F.Imp f g) vars = f vars && g vars
formula_sort_level (Formula-F.Iff f g) vars = f vars && g vars

-- whether each node of a formula has its sort
abbrev pub is_sorted : Formula → Fitting
is_sorted = fold-Formula Fitting formula_sort_level

-- of magnitude below 2^126
abbrev pub is_small : ℤ → Bool
is_small z = nat_lt (unsigned_abs z) (2 ^ 126)

abbrev pub literal_level : Term-F Bool → Bool
literal_level (Term-F.Lit n) = is_small n
literal_level (Term-F.Var v) = true
literal_level (Term-F.Neg a) = a
literal_level (Term-F.Add a b) = a && b
literal_level (Term-F.Sub s a b) = a && b
literal_level (Term-F.Mul a b) = a && b
literal_level (Term-F.Pow a k) = a && is_small k
literal_level (Term-F.Div a k) = a && is_small k
literal_level (Term-F.Rem a k) = a && is_small k
literal_level (Term-F.Call1 f a) = a
literal_level (Term-F.Call2 f a b) = a && b

-- whether the literals, exponents and divisors of a term are small
abbrev pub literals_small : Term → Bool
literals_small = fold-Term Bool literal_level

abbrev pub bool_literal_level : BTerm-F Bool → Bool
bool_literal_level BTerm-F.True = true
bool_literal_level BTerm-F.False = true
bool_literal_level (BTerm-F.Var v) = true
bool_literal_level (BTerm-F.Test c t u) = literals_small t && literals_small u
bool_literal_level (BTerm-F.Not a) = a
bool_literal_level (BTerm-F.And a b) = a && b
bool_literal_level (BTerm-F.Or a b) = a && b
bool_literal_level (BTerm-F.Call f a b) = a && b

abbrev pub bool_literals_small : BTerm → Bool
bool_literals_small = fold-BTerm Bool bool_literal_level

abbrev pub formula_literal_level : Formula-F Bool → Bool
formula_literal_level Formula-F.True = true
formula_literal_level Formula-F.False = true
formula_literal_level (Formula-F.Atom c t u) = literals_small t && literals_small u
formula_literal_level (Formula-F.Chain t c u d v) = literals_small t && (literals_small u && literals_small v)
formula_literal_level (Formula-F.Same b c) = bool_literals_small b && bool_literals_small c
formula_literal_level (Formula-F.Differ b c) = bool_literals_small b && bool_literals_small c
formula_literal_level (Formula-F.Not f) = f
formula_literal_level (Formula-F.And f g) = f && g
formula_literal_level (Formula-F.Or f g) = f && g
formula_literal_level (Formula-F.Imp f g) = f && g
formula_literal_level (Formula-F.Iff f g) = f && g

abbrev pub formula_literals_small : Formula → Bool
formula_literals_small = fold-Formula Bool formula_literal_level

abbrev pub term_node : Term-F ℕ → ℕ
term_node (Term-F.Lit n) = 1
term_node (Term-F.Var v) = 1
term_node (Term-F.Neg a) = a + 1
term_node (Term-F.Add a b) = (a + b) + 1
term_node (Term-F.Sub s a b) = (a + b) + 1
term_node (Term-F.Mul a b) = (a + b) + 1
term_node (Term-F.Pow a k) = a + 1
term_node (Term-F.Div a k) = a + 1
term_node (Term-F.Rem a k) = a + 1
term_node (Term-F.Call1 f a) = a + 1
term_node (Term-F.Call2 f a b) = (a + b) + 1

-- how many nodes a term has
abbrev pub term_nodes : Term → ℕ
term_nodes = fold-Term ℕ term_node

abbrev pub bool_node : BTerm-F ℕ → ℕ
bool_node BTerm-F.True = 1
bool_node BTerm-F.False = 1
bool_node (BTerm-F.Var v) = 1
bool_node (BTerm-F.Test c t u) = (term_nodes t + term_nodes u) + 1
bool_node (BTerm-F.Not a) = a + 1
bool_node (BTerm-F.And a b) = (a + b) + 1
bool_node (BTerm-F.Or a b) = (a + b) + 1
bool_node (BTerm-F.Call f a b) = (a + b) + 1

abbrev pub bool_nodes : BTerm → ℕ
bool_nodes = fold-BTerm ℕ bool_node

abbrev pub formula_node : Formula-F ℕ → ℕ
formula_node Formula-F.True = 1
formula_node Formula-F.False = 1
formula_node (Formula-F.Atom c t u) = (term_nodes t + term_nodes u) + 1
formula_node (Formula-F.Chain t c u d v) = (term_nodes t + (term_nodes u + term_nodes v)) + 1
formula_node (Formula-F.Same b c) = (bool_nodes b + bool_nodes c) + 1
formula_node (Formula-F.Differ b c) = (bool_nodes b + bool_nodes c) + 1
formula_node (Formula-F.Not f) = f + 1
formula_node (Formula-F.And f g) = (f + g) + 1
formula_node (Formula-F.Or f g) = (f + g) + 1
formula_node (Formula-F.Imp f g) = (f + g) + 1
formula_node (Formula-F.Iff f g) = (f + g) + 1

-- how many nodes a formula has
abbrev pub formula_nodes : Formula → ℕ
formula_nodes = fold-Formula ℕ formula_node

-- the names of the variables, in their order
abbrev pub names_of : List Bound → List (List ℕ)
names_of vars = map (λ (b : Bound). b.name.bytes) vars

-- no name is one of those after it
abbrev pub AllDiffer : List (List ℕ) → Type 0
AllDiffer [] = Unit {0}
AllDiffer (n ∷ ns) = AllByRecursion (λ m. n ≢ m) ns × AllDiffer ns

pub record IsWellFormed (goal : Goal) : Type 0 where
  pub few : length goal.vars ≤ 256
  pub names : AllDiffer (names_of goal.vars)
  pub sorted : is_sorted goal.body (sorts_of goal.vars) ≡ true
  pub numbers : formula_literals_small goal.body ≡ true
  pub size : formula_nodes goal.body < 2 ^ 24
