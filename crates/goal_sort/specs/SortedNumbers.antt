-- Numbers, bools and formulas of sorts, and how they are made of their parts. A function takes the place of its node,
-- where it is refused.
use Rattle.std.specs.Prelude.{ℕ, ℤ, pos, neg_ℤ, int_le, Bool, true, false, ◌||◌, Option, Some, None, Ok, Err, if◌then◌else◌}
use Rattle.mm_num.specs.Result.{◌>>=◌}
use Rattle.goal_ast.specs.declared.term.Sort.{Sort}
use Rattle.goal_ast.specs.declared.term.Sort.TheVariants as sorts
use Rattle.goal_ast.specs.declared.term.Fn1.{Fn1}
use Rattle.goal_ast.specs.declared.term.Fn2.{Fn2}
use Rattle.goal_ast.specs.declared.term.Term.{Term}
use Rattle.goal_ast.specs.declared.term.Term.TheOpen.{Term-F}
use Rattle.goal_ast.specs.declared.term.Term.TheVariants as terms
use Rattle.goal_ast.specs.declared.term.Term.TheFolds.{fold-Term}
use Rattle.goal_ast.specs.declared.formula.Cmp.{Cmp}
use Rattle.goal_ast.specs.declared.formula.Cmp.TheVariants as cmps
use Rattle.goal_ast.specs.declared.formula.BCmp.{BCmp}
use Rattle.goal_ast.specs.declared.formula.BTerm.{BTerm}
use Rattle.goal_ast.specs.declared.formula.BTerm.TheVariants as bools
use Rattle.goal_ast.specs.declared.formula.Formula.{Formula}
use Rattle.goal_ast.specs.declared.formula.Formula.TheVariants as formulas
use Rattle.goal_ast.specs.Sorted.{is_sort, argument_1, result_1, sort_2}
use Rattle.goal_sort.specs.declared.value.NumberSort.{NumberSort}
use Rattle.goal_sort.specs.declared.value.NumberSort.TheVariants.{Free, Fixed}
use Rattle.goal_sort.specs.declared.value.Number.{Number as ANumber}
use Rattle.goal_sort.specs.declared.value.Truth.{Truth as ATruth}
use Rattle.goal_sort.specs.declared.value.Statement.{Statement as AStatement}
use Rattle.goal_sort.specs.declared.value.Sorted.{Sorted}
use Rattle.goal_sort.specs.declared.value.Sorted.TheVariants.{Number, Truth, Statement}
use Rattle.goal_sort.specs.declared.value.Pair.{Pair}
use Rattle.goal_sort.specs.declared.value.Triple.{Triple}
use Rattle.goal_sort.specs.declared.value.Written.{Written}
use Rattle.goal_sort.specs.declared.value.Written.TheVariants.{Literal, Negated, Other}
use Rattle.goal_sort.specs.declared.operator.Unary.{Unary}
use Rattle.goal_sort.specs.declared.operator.Unary.TheVariants as unary
use Rattle.goal_sort.specs.declared.operator.Arithmetic.{Arithmetic}
use Rattle.goal_sort.specs.declared.operator.Arithmetic.TheVariants as arithmetics
use Rattle.goal_sort.specs.declared.operator.ByLiteral.{ByLiteral}
use Rattle.goal_sort.specs.declared.operator.ByLiteral.TheVariants.{Power, Quotient, Remainder}
use Rattle.goal_sort.specs.declared.operator.BoolOperator.{BoolOperator}
use Rattle.goal_sort.specs.declared.operator.BoolOperator.TheVariants as operators
use Rattle.goal_sort.specs.declared.operator.Connective.{Connective}
use Rattle.goal_sort.specs.declared.operator.Connective.TheVariants as connectives
use Rattle.goal_sort.specs.declared.operator.Binary.{Binary}
use Rattle.goal_sort.specs.declared.operator.Binary.TheVariants as binary
use Rattle.goal_sort.specs.SortGiving.{Placed, given_at}

-- ---- the sorts of numbers

-- a number without a sort takes one; not positive where a / or mod stands in it
abbrev pub taken : Bool → Sort → Option NumberSort
taken true sorts.Pos = None
taken divides s = Some (Fixed s)

-- the sort that two numbers have together
abbrev pub meet : NumberSort → NumberSort → Option NumberSort
meet (Free d) (Free e) = Some (Free (d || e))
meet (Free d) (Fixed s) = taken d s
meet (Fixed s) (Free d) = taken d s
meet (Fixed s) (Fixed t) = if is_sort s t then Some (Fixed s) else None

abbrev pub with_sort_level : Sort → Term-F Term → Term
with_sort_level s (Term-F.Sub t a b) = terms.Sub s a b
with_sort_level s (Term-F.Lit n) = terms.Lit n
with_sort_level s (Term-F.Var v) = terms.Var v
with_sort_level s (Term-F.Neg a) = terms.Neg a
with_sort_level s (Term-F.Add a b) = terms.Add a b
with_sort_level s (Term-F.Mul a b) = terms.Mul a b
with_sort_level s (Term-F.Pow a k) = terms.Pow a k
with_sort_level s (Term-F.Div a k) = terms.Div a k
with_sort_level s (Term-F.Rem a k) = terms.Rem a k
with_sort_level s (Term-F.Call1 f a) = terms.Call1 f a
with_sort_level s (Term-F.Call2 f a b) = terms.Call2 f a b

-- a term with its subtractions on this sort
abbrev pub with_sort : Sort → Term → Term
with_sort s = fold-Term Term (with_sort_level s)

-- the place of a literal 0, where it gets the sort positive
abbrev pub positive_zero : Sort → Option ℕ → Option ℕ
positive_zero sorts.Pos zero = zero
positive_zero s zero = None

-- the first of two places
abbrev pub first : Option ℕ → Option ℕ → Option ℕ
first None b = b
first (Some p) b = Some p

-- a number of a sort from now on
abbrev pub fixed : Sort → ANumber → ANumber
fixed s a = elim a.sort [
  | Free d ↦ record { sort = Fixed s; term = with_sort s a.term; zero = positive_zero s a.zero }
  | Fixed t ↦ a
]

-- a number with the sort that it has together with others
abbrev pub settled : NumberSort → ANumber → ANumber
settled (Fixed s) a = fixed s a
settled (Free d) a = record { sort = Free d; term = a.term; zero = a.zero }

-- ---- the parts of nodes

abbrev pub number_of : ℕ → Sorted → Placed ANumber
number_of at (Number a) = Ok a
number_of at (Truth b) = Err at
number_of at (Statement f) = Err at

abbrev pub truth_of : ℕ → Sorted → Placed ATruth
truth_of at (Truth b) = Ok b
truth_of at (Number a) = Err at
truth_of at (Statement f) = Err at

abbrev pub statement_of : ℕ → Sorted → Placed AStatement
statement_of at (Statement f) = Ok f
statement_of at (Number a) = Err at
statement_of at (Truth b) = Err at

-- a number as an argument of this sort
unfoldable pub as_sort : ℕ → Sort → ANumber → Placed ANumber
as_sort at s a = do
  t ← given_at at (meet (Fixed s) a.sort)
  Ok (settled t a)

abbrev pub pair_of : NumberSort → ANumber → ANumber → Pair
pair_of s a b = record { sort = s; left = a.term; right = b.term; zero = first a.zero b.zero }

-- two numbers that join
unfoldable pub joined : ℕ → ANumber → ANumber → Placed Pair
joined at a b = do
  s ← given_at at (meet a.sort b.sort)
  Ok (pair_of s (settled s a) (settled s b))

-- the place of a positive literal 0 in numbers that are compared; those without a sort are on Z
abbrev pub compared_zero : NumberSort → Option ℕ → Option ℕ
compared_zero (Free d) zero = None
compared_zero (Fixed s) zero = zero

abbrev pub triple_of : NumberSort → ANumber → ANumber → ANumber → Triple
triple_of s a b c = record { left = a.term; middle = b.term; right = c.term; zero = compared_zero s (first a.zero (first b.zero c.zero)) }

-- three numbers that join
unfoldable pub all_joined : ℕ → ANumber → ANumber → ANumber → Placed Triple
all_joined at a b c = do
  s ← given_at at (meet a.sort b.sort)
  t ← given_at at (meet s c.sort)
  Ok (triple_of t (settled t a) (settled t b) (settled t c))

-- ---- numbers

abbrev pub a_number : NumberSort → Term → Option ℕ → Sorted
a_number s t zero = Number (record { sort = s; term = t; zero = zero })

-- the sort of a difference; Z while the numbers have none
abbrev pub difference_sort : NumberSort → Sort
difference_sort (Free d) = sorts.Int
difference_sort (Fixed s) = s

abbrev pub arithmetic_term : Arithmetic → NumberSort → Term → Term → Term
arithmetic_term arithmetics.Sum s a b = terms.Add a b
arithmetic_term arithmetics.Difference s a b = terms.Sub (difference_sort s) a b
arithmetic_term arithmetics.Product s a b = terms.Mul a b

unfoldable pub arithmetic : ℕ → Arithmetic → ANumber → ANumber → Placed Sorted
arithmetic at op a b = do
  p ← joined at a b
  Ok (a_number p.sort (arithmetic_term op p.sort p.left p.right) p.zero)

-- unary minus is on Z
unfoldable pub opposite : ℕ → ANumber → Placed Sorted
opposite at a = do
  n ← as_sort at sorts.Int a
  Ok (a_number (Fixed sorts.Int) (terms.Neg n.term) n.zero)

unfoldable pub called_1 : ℕ → Fn1 → ANumber → Placed Sorted
called_1 at f a = do
  n ← as_sort at (argument_1 f) a
  Ok (a_number (Fixed (result_1 f)) (terms.Call1 f n.term) n.zero)

unfoldable pub called_2 : ℕ → Fn2 → ANumber → ANumber → Placed Sorted
called_2 at f a b = do
  m ← as_sort at (sort_2 f) a
  n ← as_sort at (sort_2 f) b
  Ok (a_number (Fixed (sort_2 f)) (terms.Call2 f m.term n.term) (first m.zero n.zero))

abbrev pub by_term : ByLiteral → Term → ℤ → Term
by_term Power a k = terms.Pow a k
by_term Quotient a k = terms.Div a k
by_term Remainder a k = terms.Rem a k

-- the sort of a quotient
abbrev pub quotient_sort : NumberSort → Option NumberSort
quotient_sort (Free d) = Some (Free true)
quotient_sort (Fixed sorts.Pos) = None
quotient_sort (Fixed s) = Some (Fixed s)

-- the sort of a number with a literal on its right
abbrev pub by_sort : ByLiteral → NumberSort → Option NumberSort
by_sort Power s = Some s
by_sort Quotient s = quotient_sort s
by_sort Remainder s = quotient_sort s

-- an exponent is from 0, a divisor from 1
abbrev pub can_stand : ByLiteral → ℤ → Bool
can_stand Power k = int_le (pos 0) k
can_stand Quotient k = int_le (pos 1) k
can_stand Remainder k = int_le (pos 1) k

unfoldable pub by_literal : ℕ → ByLiteral → ANumber → ℤ → Placed Sorted
by_literal at op a k = do
  s ← given_at at (by_sort op a.sort)
  Ok (a_number s (by_term op a.term k) a.zero)

-- a minus may stand in a divisor
abbrev pub can_be_negative : ByLiteral → Bool
can_be_negative Power = false
can_be_negative Quotient = true
can_be_negative Remainder = true

-- a negative divisor is on Z
unfoldable pub by_negative : ℕ → ByLiteral → ANumber → ℤ → Placed Sorted
by_negative at op a k = do
  n ← as_sort at sorts.Int a
  Ok (a_number n.sort (by_term op n.term (neg_ℤ k)) n.zero)

abbrev pub provided : {A : Type 0} → ℕ → Bool → Placed A → Placed A
provided at true r = r
provided at false r = Err at

-- a number with an exponent or a divisor
unfoldable pub by_written : ℕ → ByLiteral → ANumber → Written → Placed Sorted
by_written at op a (Literal k) = provided at (can_stand op k) (by_literal at op a k)
by_written at op a (Negated k) = provided at (can_be_negative op) (provided at (can_stand op k) (by_negative at op a k))
by_written at op a Other = Err at

-- ---- bools

abbrev pub a_truth : BTerm → Option ℕ → Sorted
a_truth b zero = Truth (record { term = b; zero = zero })

unfoldable pub test_of : ℕ → BCmp → ANumber → ANumber → Placed Sorted
test_of at c a b = do
  p ← joined at a b
  Ok (a_truth (bools.Test c p.left p.right) (compared_zero p.sort p.zero))

abbrev pub bool_term : BoolOperator → BTerm → BTerm → BTerm
bool_term operators.And a b = bools.And a b
bool_term operators.Or a b = bools.Or a b
bool_term (operators.Call f) a b = bools.Call f a b

abbrev pub both_bools : BoolOperator → ATruth → ATruth → Sorted
both_bools op a b = a_truth (bool_term op a.term b.term) (first a.zero b.zero)

abbrev pub negated_bool : ATruth → Sorted
negated_bool a = a_truth (bools.Not a.term) a.zero

-- ---- formulas

abbrev pub a_statement : Formula → Option ℕ → Sorted
a_statement f zero = Statement (record { formula = f; zero = zero })

unfoldable pub comparison : ℕ → Cmp → ANumber → ANumber → Placed Sorted
comparison at c a b = do
  p ← joined at a b
  Ok (a_statement (formulas.Atom c p.left p.right) (compared_zero p.sort p.zero))

abbrev pub equal_bools : ATruth → ATruth → Sorted
equal_bools a b = a_statement (formulas.Same a.term b.term) (first a.zero b.zero)

abbrev pub different_bools : ATruth → ATruth → Sorted
different_bools a b = a_statement (formulas.Differ a.term b.term) (first a.zero b.zero)

-- two numbers, or two bools
unfoldable pub equality : ℕ → Sorted → Sorted → Placed Sorted
equality at (Number a) t = number_of at t >>= λ b. comparison at cmps.Eq a b
equality at (Truth a) t = truth_of at t >>= λ b. Ok (equal_bools a b)
equality at (Statement f) t = Err at

unfoldable pub inequality : ℕ → Sorted → Sorted → Placed Sorted
inequality at (Number a) t = number_of at t >>= λ b. comparison at cmps.Ne a b
inequality at (Truth a) t = truth_of at t >>= λ b. Ok (different_bools a b)
inequality at (Statement f) t = Err at

abbrev pub connected_formula : Connective → Formula → Formula → Formula
connected_formula connectives.And f g = formulas.And f g
connected_formula connectives.Or f g = formulas.Or f g
connected_formula connectives.Imp f g = formulas.Imp f g
connected_formula connectives.Iff f g = formulas.Iff f g

abbrev pub connected : Connective → AStatement → AStatement → Sorted
connected op f g = a_statement (connected_formula op f.formula g.formula) (first f.zero g.zero)

abbrev pub negated_formula : AStatement → Sorted
negated_formula f = a_statement (formulas.Not f.formula) f.zero

-- two comparisons that share their middle
unfoldable pub chain : ℕ → (Cmp × Cmp) → ANumber → ANumber → ANumber → Placed Sorted
chain at c a b d = do
  n ← all_joined at a b d
  Ok (a_statement (formulas.Chain n.left c.0 n.middle c.1 n.right) n.zero)

-- ---- nodes by their operands

unfoldable pub unary_node : ℕ → Unary → Sorted → Placed Sorted
unary_node at unary.Minus s = number_of at s >>= λ a. opposite at a
unary_node at unary.Not s = statement_of at s >>= λ f. Ok (negated_formula f)
unary_node at (unary.Call f) s = number_of at s >>= λ a. called_1 at f a
unary_node at unary.Negb s = truth_of at s >>= λ b. Ok (negated_bool b)

abbrev pub numbers_of : ℕ → Sorted → Sorted → Placed (ANumber × ANumber)
numbers_of at s t = do
  a ← number_of at s
  b ← number_of at t
  Ok (a, b)

-- what is made of two numbers
abbrev pub two_numbers : {A : Type 0} → ℕ → Sorted → Sorted → (ANumber → ANumber → Placed A) → Placed A
two_numbers at s t f = numbers_of at s t >>= λ p. f p.0 p.1

unfoldable pub two_truths : ℕ → BoolOperator → Sorted → Sorted → Placed Sorted
two_truths at op s t = do
  a ← truth_of at s
  b ← truth_of at t
  Ok (both_bools op a b)

unfoldable pub two_statements : ℕ → Connective → Sorted → Sorted → Placed Sorted
two_statements at op s t = do
  f ← statement_of at s
  g ← statement_of at t
  Ok (connected op f g)

unfoldable pub binary_node : ℕ → Binary → Sorted → Sorted → Placed Sorted
binary_node at (binary.Arithmetic op) s t = two_numbers at s t (arithmetic at op)
binary_node at binary.Equal s t = equality at s t
binary_node at binary.Differ s t = inequality at s t
binary_node at (binary.Compare c) s t = two_numbers at s t (comparison at c)
binary_node at (binary.Test c) s t = two_numbers at s t (test_of at c)
binary_node at (binary.Bool op) s t = two_truths at op s t
binary_node at (binary.Connect op) s t = two_statements at op s t
binary_node at (binary.Call f) s t = two_numbers at s t (called_2 at f)

-- the left side has an exponent or a divisor on its right
unfoldable pub by_node : ℕ → ByLiteral → Sorted → Written → Placed Sorted
by_node at op s w = number_of at s >>= λ a. by_written at op a w

unfoldable pub chain_node : ℕ → (Cmp × Cmp) → Sorted → Sorted → Sorted → Placed Sorted
chain_node at c s t u = do
  a ← number_of at s
  b ← number_of at t
  d ← number_of at u
  chain at c a b d
