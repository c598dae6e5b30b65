-- The goal that a goal as it was read is: each node has its sort from its operands.
use Rattle.std.specs.Prelude.{◌≡◌, ℕ, ℤ, pos, neg_ℤ, int_le, List, [], ◌∷◌, map, true, false, ◌&&◌, Some, None, codes}
use Rattle.std.specs.Ordering.{int_eq}
use Rattle.goal_ast.specs.declared.term.Sort.{Sort}
use Rattle.goal_ast.specs.declared.term.Sort.TheVariants as sorts
use Rattle.goal_ast.specs.declared.term.Fn1.{Fn1}
use Rattle.goal_ast.specs.declared.term.Fn2.{Fn2}
use Rattle.goal_ast.specs.declared.term.Term.{Term}
use Rattle.goal_ast.specs.declared.term.Term.TheVariants as terms
use Rattle.goal_ast.specs.declared.formula.Cmp.{Cmp}
use Rattle.goal_ast.specs.declared.formula.BCmp.{BCmp}
use Rattle.goal_ast.specs.declared.formula.BTerm.{BTerm}
use Rattle.goal_ast.specs.declared.formula.BTerm.TheVariants as bools
use Rattle.goal_ast.specs.declared.formula.Formula.{Formula}
use Rattle.goal_ast.specs.declared.formula.Formula.TheVariants as formulas
use Rattle.goal_ast.specs.declared.goal.Name.{Name}
use Rattle.goal_ast.specs.declared.goal.Goal.{Goal}
use Rattle.goal_ast.specs.Sorted.{is_number, is_small, argument_1, result_1, sort_2, names_of, AllDiffer, makes_chain}
use Rattle.goal_token.specs.Words.{lookup, constants}
use Rattle.goal_sort.specs.declared.raw.Head.{Head}
use Rattle.goal_sort.specs.declared.raw.Head.TheVariants as heads
use Rattle.goal_sort.specs.declared.raw.RawBound.{RawBound}
use Rattle.goal_sort.specs.declared.raw.RawExpr.{RawExpr, roll-RawExpr}
use Rattle.goal_sort.specs.declared.raw.RawGoal.{RawGoal}
use Rattle.goal_sort.specs.declared.operator.Unary.TheVariants as unary
use Rattle.goal_sort.specs.declared.operator.Arithmetic.{Arithmetic}
use Rattle.goal_sort.specs.declared.operator.ByLiteral.{ByLiteral}
use Rattle.goal_sort.specs.declared.operator.BoolOperator.{BoolOperator}
use Rattle.goal_sort.specs.declared.operator.Connective.{Connective}
use Rattle.goal_sort.specs.declared.operator.Binary.TheVariants as binary
use Rattle.goal_sort.specs.SortedNumbers.{by_term, can_stand, can_be_negative, bool_term, connected_formula}
use Rattle.goal_sort.specs.Sorting.{bound_from, variable_of}
use Rattle.goal_sort.specs.Heads.{unary_head, literal_head, binary_head, chain_head}
use Rattle.goal_sort.specs.Kinds.{Kind, free, fixed, together, within, by_kind, arithmetic_of}

abbrev pub node : Head → ℕ → List RawExpr → RawExpr
node h p parts = roll-RawExpr (record { head = h; at = p; parts = parts })

-- a literal, from 0 and below 2^126
abbrev pub literal_fits : ℤ → Type 0
literal_fits n = (int_le (pos 0) n && is_small n) ≡ true

-- a leaf that is a literal, and a minus before one
abbrev pub written : ℤ → ℕ → RawExpr
written n p = node (heads.Lit n) p []

abbrev pub written_minus : ℤ → ℕ → ℕ → RawExpr
written_minus n p q = node (unary_head unary.Minus) p (written n q ∷ [])

-- a leaf that is a word
abbrev pub word : List ℕ → ℕ → RawExpr
word text p = node (heads.Name (record { bytes = text })) p []

-- over these bound names, an expression is a number of this kind
pub data IsNumber (bs : List RawBound) : RawExpr → Kind → Term → Type 0 where
  literal : (n : ℤ) (p : ℕ) → literal_fits n → IsNumber bs (written n p) (free false (int_eq n (pos 0))) (terms.Lit n)
  variable : (x : Name) (p v : ℕ) (s : Sort) → lookup x.bytes constants ≡ None → bound_from 0 x bs ≡ Some (v, s) → is_number s ≡ true → IsNumber bs (node (heads.Name x) p []) (fixed s) (terms.Var v)
  arithmetic : {a b : RawExpr} {k l m : Kind} {t u : Term} (op : Arithmetic) (p : ℕ) → IsNumber bs a k t → IsNumber bs b l u → together k l ≡ Some m
      → IsNumber bs (node (binary_head (binary.Arithmetic op)) p (a ∷ b ∷ [])) m (arithmetic_of op m (within m k t) (within m l u))
  opposite : {a : RawExpr} {k : Kind} {t : Term} (p : ℕ) → IsNumber bs a k t → together (fixed sorts.Int) k ≡ Some (fixed sorts.Int)
      → IsNumber bs (node (unary_head unary.Minus) p (a ∷ [])) (fixed sorts.Int) (terms.Neg (within (fixed sorts.Int) k t))
  call_1 : {a : RawExpr} {k : Kind} {t : Term} (f : Fn1) (p : ℕ) → IsNumber bs a k t → together (fixed (argument_1 f)) k ≡ Some (fixed (argument_1 f))
      → IsNumber bs (node (unary_head (unary.Call f)) p (a ∷ [])) (fixed (result_1 f)) (terms.Call1 f (within (fixed (argument_1 f)) k t))
  call_2 : {a b : RawExpr} {k l : Kind} {t u : Term} (f : Fn2) (p : ℕ) → IsNumber bs a k t → IsNumber bs b l u → together (fixed (sort_2 f)) k ≡ Some (fixed (sort_2 f)) → together (fixed (sort_2 f)) l ≡ Some (fixed (sort_2 f))
      → IsNumber bs (node (binary_head (binary.Call f)) p (a ∷ b ∷ [])) (fixed (sort_2 f)) (terms.Call2 f (within (fixed (sort_2 f)) k t) (within (fixed (sort_2 f)) l u))
  by_literal : {a : RawExpr} {k m : Kind} {t : Term} (op : ByLiteral) (n : ℤ) (p q : ℕ) → IsNumber bs a k t → literal_fits n → can_stand op n ≡ true → by_kind op k ≡ Some m
      → IsNumber bs (node (literal_head op) p (a ∷ written n q ∷ [])) m (by_term op t n)
  by_negative : {a : RawExpr} {k : Kind} {t : Term} (op : ByLiteral) (n : ℤ) (p q r : ℕ) → IsNumber bs a k t → literal_fits n → can_be_negative op ≡ true → can_stand op n ≡ true → together (fixed sorts.Int) k ≡ Some (fixed sorts.Int)
      → IsNumber bs (node (literal_head op) p (a ∷ written_minus n q r ∷ [])) (fixed sorts.Int) (by_term op (within (fixed sorts.Int) k t) (neg_ℤ n))

-- an expression is this bool
pub data IsTruth (bs : List RawBound) : RawExpr → BTerm → Type 0 where
  true_word : (p : ℕ) → IsTruth bs (word (codes "true") p) bools.True
  false_word : (p : ℕ) → IsTruth bs (word (codes "false") p) bools.False
  variable : (x : Name) (p v : ℕ) → lookup x.bytes constants ≡ None → bound_from 0 x bs ≡ Some (v, sorts.Bool) → IsTruth bs (node (heads.Name x) p []) (bools.Var v)
  test : {a b : RawExpr} {k l m : Kind} {t u : Term} (c : BCmp) (p : ℕ) → IsNumber bs a k t → IsNumber bs b l u → together k l ≡ Some m
      → IsTruth bs (node (binary_head (binary.Test c)) p (a ∷ b ∷ [])) (bools.Test c (within m k t) (within m l u))
  negation : {a : RawExpr} {b : BTerm} (p : ℕ) → IsTruth bs a b → IsTruth bs (node (unary_head unary.Negb) p (a ∷ [])) (bools.Not b)
  joined : {a b : RawExpr} {c d : BTerm} (op : BoolOperator) (p : ℕ) → IsTruth bs a c → IsTruth bs b d
      → IsTruth bs (node (binary_head (binary.Bool op)) p (a ∷ b ∷ [])) (bool_term op c d)

-- an expression is this formula
pub data IsStatement (bs : List RawBound) : RawExpr → Formula → Type 0 where
  true_word : (p : ℕ) → IsStatement bs (word (codes "True") p) formulas.True
  false_word : (p : ℕ) → IsStatement bs (word (codes "False") p) formulas.False
  comparison : {a b : RawExpr} {k l m : Kind} {t u : Term} (c : Cmp) (p : ℕ) → IsNumber bs a k t → IsNumber bs b l u → together k l ≡ Some m
      → IsStatement bs (node (binary_head (binary.Compare c)) p (a ∷ b ∷ [])) (formulas.Atom c (within m k t) (within m l u))
  chain : {a b c : RawExpr} {k l m n o : Kind} {t u v : Term} (d e : Cmp) (p : ℕ) → makes_chain d ≡ true → makes_chain e ≡ true → IsNumber bs a k t → IsNumber bs b l u → IsNumber bs c m v → together k l ≡ Some n → together n m ≡ Some o
      → IsStatement bs (node (chain_head d e) p (a ∷ b ∷ c ∷ [])) (formulas.Chain (within o k t) d (within o l u) e (within o m v))
  equal_bools : {a b : RawExpr} {c d : BTerm} (p : ℕ) → IsTruth bs a c → IsTruth bs b d → IsStatement bs (node (binary_head binary.Equal) p (a ∷ b ∷ [])) (formulas.Same c d)
  different_bools : {a b : RawExpr} {c d : BTerm} (p : ℕ) → IsTruth bs a c → IsTruth bs b d → IsStatement bs (node (binary_head binary.Differ) p (a ∷ b ∷ [])) (formulas.Differ c d)
  negation : {a : RawExpr} {f : Formula} (p : ℕ) → IsStatement bs a f → IsStatement bs (node (unary_head unary.Not) p (a ∷ [])) (formulas.Not f)
  connected : {a b : RawExpr} {f g : Formula} (op : Connective) (p : ℕ) → IsStatement bs a f → IsStatement bs b g
      → IsStatement bs (node (binary_head (binary.Connect op)) p (a ∷ b ∷ [])) (connected_formula op f g)

-- this goal: its names differ, and its body is this formula
pub record IsSorted (raw : RawGoal) (goal : Goal) : Type 0 where
  pub mode : goal.mode ≡ raw.mode
  pub vars : goal.vars ≡ map variable_of raw.bound
  pub names : AllDiffer (names_of goal.vars)
  pub body : IsStatement raw.bound raw.body goal.body
