-- The goal that a goal as it was read is, or the place where the sorts don't fit.
use Rattle.std.specs.Prelude.{◌≡◌, ℕ, ◌+◌, ◌≤◌, ◌<◌, ◌^◌, ℤ, pos, int_le, nat_eq, List, [], ◌∷◌, ◌++◌, length, map, Bool, true, false, ◌&&◌, ◌==◌, Option, Some, None, Ok, Err, if◌then◌else◌}
use Rattle.std.specs.Ordering.{int_eq}
use Rattle.std.specs.Cmp.Lexicographic.{pointwise}
use Rattle.mm_num.specs.Result.{◌>>=◌}
use Rattle.goal_ast.specs.declared.term.Sort.{Sort}
use Rattle.goal_ast.specs.declared.term.Sort.TheVariants as sorts
use Rattle.goal_ast.specs.declared.term.Term.TheVariants as terms
use Rattle.goal_ast.specs.declared.formula.BTerm.TheVariants as bools
use Rattle.goal_ast.specs.declared.formula.Formula.TheVariants as formulas
use Rattle.goal_ast.specs.declared.goal.Name.{Name}
use Rattle.goal_ast.specs.declared.goal.Bound.{Bound}
use Rattle.goal_ast.specs.declared.goal.Goal.{Goal}
use Rattle.goal_ast.specs.Sorted.{is_small}
use Rattle.goal_token.specs.declared.token.Constant.{Constant}
use Rattle.goal_token.specs.declared.token.Constant.TheVariants as constant
use Rattle.goal_token.specs.declared.token.Sign.TheVariants as signs
use Rattle.goal_token.specs.Numbers.{sign_number}
use Rattle.goal_token.specs.Words.{lookup, constants}
use Rattle.goal_sort.specs.declared.raw.Head.{Head}
use Rattle.goal_sort.specs.declared.raw.Head.TheVariants as heads
use Rattle.goal_sort.specs.declared.raw.RawBound.{RawBound}
use Rattle.goal_sort.specs.declared.raw.RawExpr.{RawExpr}
use Rattle.goal_sort.specs.declared.raw.RawExpr.TheOpen.{RawExpr-F}
use Rattle.goal_sort.specs.declared.raw.RawExpr.TheFolds.{fold-RawExpr}
use Rattle.goal_sort.specs.declared.raw.RawGoal.{RawGoal}
use Rattle.goal_sort.specs.declared.operator.ByLiteral.{ByLiteral}
use Rattle.goal_sort.specs.declared.value.NumberSort.TheVariants.{Free, Fixed}
use Rattle.goal_sort.specs.declared.value.Statement.{Statement as AStatement}
use Rattle.goal_sort.specs.declared.value.Sorted.{Sorted}
use Rattle.goal_sort.specs.declared.value.Written.{Written}
use Rattle.goal_sort.specs.declared.value.Written.TheVariants.{Literal, Negated, Other}
use Rattle.goal_sort.specs.SortGiving.{Placed, given_at}
use Rattle.goal_sort.specs.Operators.{unary_of, binary_of, by_literal_of, chain_of}
use Rattle.goal_sort.specs.SortedNumbers.{a_number, a_truth, a_statement, unary_node, binary_node, by_node, chain_node, statement_of}

-- ---- leaves

abbrev pub same_name : Name → Name → Bool
same_name x y = pointwise nat_eq x.bytes y.bytes

-- the variable that a name is bound to, counted from here, and its sort
abbrev pub bound_from : ℕ → Name → List RawBound → Option (ℕ × Sort)
bound_from v x [] = None
bound_from v x (b ∷ bs) = if same_name x b.name then Some (v, b.sort) else bound_from (v + 1) x bs

-- the place, where a literal there is 0
abbrev pub zero_place : ℤ → ℕ → Option ℕ
zero_place n at = if int_eq n (pos 0) then Some at else None

abbrev pub variable : ℕ → Sort → Sorted
variable v sorts.Bool = a_truth (bools.Var v) None
variable v s = a_number (Fixed s) (terms.Var v) None

abbrev pub constant_node : Constant → Sorted
constant_node constant.True = a_statement formulas.True None
constant_node constant.False = a_statement formulas.False None
constant_node constant.BoolTrue = a_truth bools.True None
constant_node constant.BoolFalse = a_truth bools.False None

unfoldable pub bound_node : List RawBound → ℕ → Name → Placed Sorted
bound_node bs at x = given_at at (bound_from 0 x bs) >>= λ v. Ok (variable v.0 v.1)

unfoldable pub name_node : List RawBound → ℕ → Name → Placed Sorted
name_node bs at x = elim (lookup x.bytes constants) [ Some c ↦ Ok (constant_node c) | None ↦ bound_node bs at x ]

unfoldable pub leaf_node : List RawBound → ℕ → Head → Placed Sorted
leaf_node bs at (heads.Lit n) = Ok (a_number (Free false) (terms.Lit n) (zero_place n at))
leaf_node bs at (heads.Name x) = name_node bs at x
leaf_node bs at h = Err at

-- ---- nodes

-- what a node is as an exponent or a divisor
abbrev pub written_minus : ℕ → Written → Written
written_minus n (Literal k) = if n == sign_number signs.Minus then Negated k else Other
written_minus n w = Other

abbrev pub written_level : Head → List Written → Written
written_level (heads.Lit n) [] = Literal n
written_level (heads.Prefix n) (w ∷ []) = written_minus n w
written_level h ws = Other

-- a node: its place, what it is as an exponent or a divisor, and what it is over bound names
pub record Node : Type 0 where
  pub place : ℕ
  pub written : Written
  pub sorted : List RawBound → Placed Sorted

-- a head with what its operands are
unfoldable pub unary_at : ℕ → Head → Sorted → Placed Sorted
unary_at at h s = given_at at (unary_of h) >>= λ op. unary_node at op s

unfoldable pub binary_at : ℕ → Head → Sorted → Sorted → Placed Sorted
binary_at at h s t = given_at at (binary_of h) >>= λ op. binary_node at op s t

unfoldable pub chain_at : ℕ → Head → Sorted → Sorted → Sorted → Placed Sorted
chain_at at h s t u = given_at at (chain_of h) >>= λ op. chain_node at op s t u

unfoldable pub one_operand : List RawBound → ℕ → Head → Node → Placed Sorted
one_operand bs at h a = a.sorted bs >>= λ s. unary_at at h s

unfoldable pub both_operands : List RawBound → ℕ → Head → Node → Node → Placed Sorted
both_operands bs at h a b = do
  s ← a.sorted bs
  t ← b.sorted bs
  binary_at at h s t

-- the right side of `^`, `/` and `mod` has no sort
unfoldable pub left_operand : List RawBound → ℕ → ByLiteral → Node → Node → Placed Sorted
left_operand bs at op a b = a.sorted bs >>= λ s. by_node at op s b.written

unfoldable pub two_operands : List RawBound → ℕ → Head → Node → Node → Placed Sorted
two_operands bs at h a b = elim (by_literal_of h) [ Some op ↦ left_operand bs at op a b | None ↦ both_operands bs at h a b ]

unfoldable pub three_operands : List RawBound → ℕ → Head → Node → Node → Node → Placed Sorted
three_operands bs at h a b c = do
  s ← a.sorted bs
  t ← b.sorted bs
  u ← c.sorted bs
  chain_at at h s t u

-- the first node in post-order that has no sort though its operands have is refused
abbrev pub sorted_level : List RawBound → ℕ → Head → List Node → Placed Sorted
sorted_level bs at h [] = leaf_node bs at h
sorted_level bs at h (a ∷ []) = one_operand bs at h a
sorted_level bs at h (a ∷ b ∷ []) = two_operands bs at h a b
sorted_level bs at h (a ∷ b ∷ c ∷ []) = three_operands bs at h a b c
sorted_level bs at h (a ∷ b ∷ c ∷ d ∷ parts) = Err at

abbrev pub node_level : RawExpr-F Node → Node
node_level d = record {
  place = d.at;
  written = written_level d.head (map (λ (p : Node). p.written) d.parts);
  sorted = λ bs. sorted_level bs d.at d.head d.parts;
}

abbrev pub node_of : RawExpr → Node
node_of = fold-RawExpr Node node_level

-- ---- goals

-- the place of the first name that is bound before
abbrev pub second_binding : List RawBound → List RawBound → Option ℕ
second_binding before [] = None
second_binding before (b ∷ bs) = elim (bound_from 0 b.name before) [ Some v ↦ Some b.at | None ↦ second_binding (before ++ b ∷ []) bs ]

-- refused at the place, where there is one
abbrev pub unless : {A : Type 0} → Option ℕ → Placed A → Placed A
unless None r = r
unless (Some at) r = Err at

abbrev pub variable_of : RawBound → Bound
variable_of b = record { name = b.name; sort = b.sort }

abbrev pub goal_of : RawGoal → AStatement → Goal
goal_of raw f = record { mode = raw.mode; vars = map variable_of raw.bound; body = f.formula }

unfoldable pub body_of : RawGoal → Placed AStatement
body_of raw = do
  s ← (node_of raw.body).sorted raw.bound
  statement_of (node_of raw.body).place s

-- the goal, where no literal 0 in it is positive
unfoldable pub with_body : RawGoal → AStatement → Placed Goal
with_body raw f = unless f.zero (Ok (goal_of raw f))

-- the first that applies refuses: a name bound twice, a node without a sort, a body that is no formula, a positive 0
abbrev pub sorting : RawGoal → Placed Goal
sorting raw = unless (second_binding [] raw.bound) (body_of raw >>= λ f. with_body raw f)

-- ---- what reading gives

abbrev pub head_fits : Head → Bool
head_fits (heads.Lit n) = int_le (pos 0) n && is_small n
head_fits h = true

abbrev pub all_true : List Bool → Bool
all_true [] = true
all_true (b ∷ bs) = b && all_true bs

abbrev pub literals_level : RawExpr-F Bool → Bool
literals_level d = head_fits d.head && all_true d.parts

-- whether each literal is from 0 and small
abbrev pub literals_fit : RawExpr → Bool
literals_fit = fold-RawExpr Bool literals_level

abbrev pub all_nodes : List ℕ → ℕ
all_nodes [] = 0
all_nodes (n ∷ ns) = n + all_nodes ns

abbrev pub nodes_level : RawExpr-F ℕ → ℕ
nodes_level d = all_nodes d.parts + 1

-- how many nodes an expression has
abbrev pub raw_nodes : RawExpr → ℕ
raw_nodes = fold-RawExpr ℕ nodes_level

pub record IsReadable (raw : RawGoal) : Type 0 where
  pub few : length raw.bound ≤ 256
  pub literals : literals_fit raw.body ≡ true
  pub size : raw_nodes raw.body < 2 ^ 24
