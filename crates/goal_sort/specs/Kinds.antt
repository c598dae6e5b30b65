-- Numbers with a sort, and numbers without one yet.
use Rattle.std.specs.Prelude.{Bool, true, false, not, ◌&&◌, ◌||◌, Option, Some, None, if◌then◌else◌}
use Rattle.goal_ast.specs.declared.term.Sort.{Sort}
use Rattle.goal_ast.specs.declared.term.Sort.TheVariants as sorts
use Rattle.goal_ast.specs.declared.term.Term.{Term}
use Rattle.goal_ast.specs.declared.term.Term.TheVariants as terms
use Rattle.goal_ast.specs.Sorted.{is_sort}
use Rattle.goal_sort.specs.declared.operator.Arithmetic.{Arithmetic}
use Rattle.goal_sort.specs.declared.operator.Arithmetic.TheVariants as arithmetics
use Rattle.goal_sort.specs.declared.operator.ByLiteral.{ByLiteral}
use Rattle.goal_sort.specs.declared.operator.ByLiteral.TheVariants as literals
use Rattle.goal_sort.specs.SortedNumbers.{with_sort}

-- a number has a sort, or it takes that of the numbers that it is joined with; then it counts whether a `/` or `mod`
-- stands in it, and whether a literal 0 does
pub data Kind : Type 0 where
  free : (divides zero : Bool) → Kind
  fixed : Sort → Kind

-- a number without a sort takes each sort of numbers; positive only where nothing in it divides and no literal is 0
abbrev pub may_take : Bool → Bool → Sort → Bool
may_take divides zero sorts.Int = true
may_take divides zero sorts.Bin = true
may_take divides zero sorts.Nat = true
may_take divides zero sorts.Pos = not divides && not zero
may_take divides zero sorts.Bool = false

abbrev pub fixed_if : Bool → Sort → Option Kind
fixed_if b s = if b then Some (fixed s) else None

-- the kind that two numbers have together
abbrev pub together : Kind → Kind → Option Kind
together (free d z) (free e y) = Some (free (d || e) (z || y))
together (free d z) (fixed s) = fixed_if (may_take d z s) s
together (fixed s) (free d z) = fixed_if (may_take d z s) s
together (fixed s) (fixed t) = fixed_if (is_sort s t) s

-- a term of the second kind as a part of a number of the first: its subtractions are on the sort that it takes
abbrev pub within : Kind → Kind → Term → Term
within (free e y) k t = t
within (fixed s) (free d z) t = with_sort s t
within (fixed s) (fixed r) t = t

-- a quotient isn't positive
abbrev pub divided : Kind → Option Kind
divided (free d z) = Some (free true z)
divided (fixed sorts.Pos) = None
divided (fixed s) = Some (fixed s)

-- the kind of a power, a quotient or a remainder
abbrev pub by_kind : ByLiteral → Kind → Option Kind
by_kind literals.Power k = Some k
by_kind literals.Quotient k = divided k
by_kind literals.Remainder k = divided k

-- the sort that a difference is on; Z while the numbers have none
abbrev pub difference_on : Kind → Sort
difference_on (free d z) = sorts.Int
difference_on (fixed s) = s

abbrev pub arithmetic_of : Arithmetic → Kind → Term → Term → Term
arithmetic_of arithmetics.Sum k a b = terms.Add a b
arithmetic_of arithmetics.Difference k a b = terms.Sub (difference_on k) a b
arithmetic_of arithmetics.Product k a b = terms.Mul a b
