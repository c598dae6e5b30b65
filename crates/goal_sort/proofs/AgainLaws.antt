-- What the rules of sorts give, sorting gives.
use Rattle.std.proofs.Common.{◌≡◌, ℕ, List, [], ◌∷◌, map, Bool, true, false, Option, Some, None, Ok, refl, sym, ap, ◌∙◌, subst}
use Rattle.std.specs.Prelude.{codes, ℤ, pos, neg_ℤ, if◌then◌else◌}
use Rattle.std.specs.Ordering.{int_eq}
use Rattle.std.specs.Option.{is_some}
use Rattle.std.proofs.lemmas.Option.{same_Some}
use Rattle.mm_num.specs.Result.{◌>>=◌}
use Rattle.goal_ast.specs.declared.term.Sort.{Sort}
use Rattle.goal_ast.specs.declared.term.Sort.TheVariants as sorts
use Rattle.goal_ast.specs.declared.term.Term.{Term}
use Rattle.goal_ast.specs.declared.term.Term.TheVariants as terms
use Rattle.goal_ast.specs.declared.formula.Cmp.{Cmp}
use Rattle.goal_ast.specs.declared.formula.Cmp.TheVariants as cmps
use Rattle.goal_ast.specs.declared.formula.BCmp.{BCmp}
use Rattle.goal_ast.specs.declared.formula.BTerm.{BTerm}
use Rattle.goal_ast.specs.declared.formula.BTerm.TheVariants as bools
use Rattle.goal_ast.specs.declared.formula.Formula.{Formula}
use Rattle.goal_ast.specs.declared.formula.Formula.TheVariants as formulas
use Rattle.goal_ast.specs.declared.term.Fn1.{Fn1}
use Rattle.goal_ast.specs.declared.term.Fn2.{Fn2}
use Rattle.goal_ast.specs.declared.goal.Name.{Name}
use Rattle.goal_ast.specs.declared.goal.Goal.{Goal}
use Rattle.goal_ast.specs.Sorted.{is_number, argument_1, result_1, sort_2, names_of, AllDiffer, makes_chain}
use Rattle.goal_token.specs.declared.token.Constant.{Constant}
use Rattle.goal_token.specs.declared.token.Constant.TheVariants as constant
use Rattle.goal_token.specs.Words.{lookup, constants}
use Rattle.goal_sort.specs.declared.raw.Head.{Head}
use Rattle.goal_sort.specs.declared.raw.Head.TheVariants as heads
use Rattle.goal_sort.specs.declared.raw.RawBound.{RawBound}
use Rattle.goal_sort.specs.declared.raw.RawExpr.{RawExpr}
use Rattle.goal_sort.specs.declared.raw.RawExpr.TheFolds.{fold-roll-RawExpr}
use Rattle.goal_sort.specs.declared.raw.RawGoal.{RawGoal}
use Rattle.goal_sort.specs.declared.value.NumberSort.TheVariants.{Fixed}
use Rattle.goal_sort.specs.declared.value.Number.{Number as ANumber}
use Rattle.goal_sort.specs.declared.value.Truth.{Truth as ATruth}
use Rattle.goal_sort.specs.declared.value.Statement.{Statement as AStatement}
use Rattle.goal_sort.specs.declared.value.Sorted.{Sorted}
use Rattle.goal_sort.specs.declared.value.Sorted.TheVariants.{Number, Truth, Statement}
use Rattle.goal_sort.specs.declared.value.Written.{Written}
use Rattle.goal_sort.specs.declared.value.Written.TheVariants.{Literal, Negated}
use Rattle.goal_sort.specs.declared.operator.Unary.{Unary}
use Rattle.goal_sort.specs.declared.operator.Unary.TheVariants as unary
use Rattle.goal_sort.specs.declared.operator.Arithmetic.{Arithmetic}
use Rattle.goal_sort.specs.declared.operator.ByLiteral.{ByLiteral}
use Rattle.goal_sort.specs.declared.operator.BoolOperator.{BoolOperator}
use Rattle.goal_sort.specs.declared.operator.Connective.{Connective}
use Rattle.goal_sort.specs.declared.operator.Binary.{Binary}
use Rattle.goal_sort.specs.declared.operator.Binary.TheVariants as binary
use Rattle.goal_sort.specs.SortGiving.{Placed, given_at}
use Rattle.goal_sort.specs.Operators.{binary_of, by_literal_of, chain_of}
use Rattle.goal_sort.specs.SortedNumbers.{as_sort, a_number, a_truth, a_statement, arithmetic, arithmetic_term, opposite, called_1, called_2, by_term, can_stand, can_be_negative, by_literal, by_negative, by_written, provided, test_of, compared_zero, comparison, equality, inequality, chain, two_truths, two_statements, bool_term, connected_formula, unary_node, binary_node, by_node, chain_node, first, statement_of}
use Rattle.goal_sort.specs.Sorting.{Node, node_level, node_of, written_level, sorted_level, one_operand, both_operands, left_operand, two_operands, three_operands, unary_at, binary_at, chain_at, leaf_node, name_node, bound_node, bound_from, zero_place, variable, constant_node, variable_of, goal_of, body_of, with_body, unless, sorting}
use Rattle.goal_sort.specs.Heads.{unary_head, literal_head, binary_head, chain_head}
use Rattle.goal_sort.specs.Kinds.{Kind, free, fixed, together, within, by_kind, arithmetic_of}
use Rattle.goal_sort.specs.IsSorted as rules
use Rattle.goal_sort.specs.IsSorted.{node, word, IsNumber, IsTruth, IsStatement, IsSorted}
use Rattle.goal_sort.proofs.GivingLaws.{ok_is}
use Rattle.goal_sort.proofs.OperatorLaws.{unary_again, literal_again, comparing, comparing_again, arithmetic_again, test_again, bool_again, connective_again, call_again, equal_again, differ_again, chain_again, no_literal}
use Rattle.goal_sort.proofs.KindLaws.{sort_of, zero_in, number, arithmetic_same, by_again, compared_again}
use Rattle.goal_sort.proofs.NameLaws.{none_twice}
use Rattle.goal_sort.proofs.JoiningLaws.{joined_again, as_sort_again, all_joined_again}

-- ---- nodes by what their parts give

node_is : (h : Head) (p : ℕ) (parts : List RawExpr) → node_of (node h p parts) ≡ node_level (record { head = h; at = p; parts = map node_of parts })
node_is h p parts = fold-roll-RawExpr Node node_level (record { head = h; at = p; parts = parts })

pub node_sorted : (bs : List RawBound) (h : Head) (p : ℕ) (parts : List RawExpr) → (node_of (node h p parts)).sorted bs ≡ sorted_level bs p h (map node_of parts)
node_sorted bs h p parts = ap (λ (n : Node). n.sorted bs) (node_is h p parts)

pub node_written : (h : Head) (p : ℕ) (parts : List RawExpr) → (node_of (node h p parts)).written ≡ written_level h (map (λ (n : Node). n.written) (map node_of parts))
node_written h p parts = ap (λ (n : Node). n.written) (node_is h p parts)

pub gives_one : (bs : List RawBound) (op : Unary) (p : ℕ) (a : RawExpr) (s : Sorted) → (node_of a).sorted bs ≡ Ok s
    → (node_of (node (unary_head op) p (a ∷ []))).sorted bs ≡ unary_node p op s
unfolding unary_at one_operand
gives_one bs op p a s h =
    node_sorted bs (unary_head op) p (a ∷ [])
    ∙ ap (λ r. r >>= λ s. unary_at p (unary_head op) s) h
    ∙ ap (λ o. given_at p o >>= λ op. unary_node p op s) (unary_again op)

pub gives_two : (bs : List RawBound) (op made : Binary) (p : ℕ) (a b : RawExpr) (s t : Sorted) → binary_of (binary_head op) ≡ Some made
    → (node_of a).sorted bs ≡ Ok s → (node_of b).sorted bs ≡ Ok t
    → (node_of (node (binary_head op) p (a ∷ b ∷ []))).sorted bs ≡ binary_node p made s t
unfolding binary_at two_operands both_operands left_operand
gives_two bs op made p a b s t is h k =
    node_sorted bs (binary_head op) p (a ∷ b ∷ [])
    ∙ by_literal (by_literal_of (binary_head op)) (no_literal op)
    ∙ ap (λ r. r >>= λ s. (node_of b).sorted bs >>= λ t. binary_at p (binary_head op) s t) h
    ∙ ap (λ r. r >>= λ t. binary_at p (binary_head op) s t) k
    ∙ ap (λ o. given_at p o >>= λ op. binary_node p op s t) is
  where
    by_literal : (o : Option ByLiteral) → o ≡ None
        → elim o as (λ _. Placed Sorted) [
          | Some op ↦ ((node_of a).sorted bs >>= λ s. by_node p op s (node_of b).written)
          | None ↦ ((node_of a).sorted bs >>= λ s. (node_of b).sorted bs >>= λ t. binary_at p (binary_head op) s t)
        ] ≡ ((node_of a).sorted bs >>= λ s. (node_of b).sorted bs >>= λ t. binary_at p (binary_head op) s t)
    by_literal None e = refl
    by_literal (Some op) e = absurd cc

pub gives_by : (bs : List RawBound) (op : ByLiteral) (p : ℕ) (a b : RawExpr) (s : Sorted) (w : Written) → (node_of a).sorted bs ≡ Ok s → (node_of b).written ≡ w
    → (node_of (node (literal_head op) p (a ∷ b ∷ []))).sorted bs ≡ by_node p op s w
unfolding two_operands both_operands left_operand
gives_by bs op p a b s w h k =
    node_sorted bs (literal_head op) p (a ∷ b ∷ [])
    ∙ by_literal (by_literal_of (literal_head op)) (literal_again op)
    ∙ ap (λ r. r >>= λ s. by_node p op s (node_of b).written) h
    ∙ ap (λ w. by_node p op s w) k
  where
    by_literal : (o : Option ByLiteral) → o ≡ Some op
        → elim o as (λ _. Placed Sorted) [
          | Some op ↦ ((node_of a).sorted bs >>= λ s. by_node p op s (node_of b).written)
          | None ↦ ((node_of a).sorted bs >>= λ s. (node_of b).sorted bs >>= λ t. binary_at p (literal_head op) s t)
        ] ≡ ((node_of a).sorted bs >>= λ s. by_node p op s (node_of b).written)
    by_literal None e = absurd cc
    by_literal (Some o) e = ap (λ op. (node_of a).sorted bs >>= λ s. by_node p op s (node_of b).written) (same_Some o op e)

pub gives_three : (bs : List RawBound) (h : Head) (made : Cmp × Cmp) (p : ℕ) (a b c : RawExpr) (s t u : Sorted) → chain_of h ≡ Some made
    → (node_of a).sorted bs ≡ Ok s → (node_of b).sorted bs ≡ Ok t → (node_of c).sorted bs ≡ Ok u
    → (node_of (node h p (a ∷ b ∷ c ∷ []))).sorted bs ≡ chain_node p made s t u
unfolding chain_at three_operands
gives_three bs h made p a b c s t u is i j k =
    node_sorted bs h p (a ∷ b ∷ c ∷ [])
    ∙ ap (λ r. r >>= λ s. (node_of b).sorted bs >>= λ t. (node_of c).sorted bs >>= λ u. chain_at p h s t u) i
    ∙ ap (λ r. r >>= λ t. (node_of c).sorted bs >>= λ u. chain_at p h s t u) j
    ∙ ap (λ r. r >>= λ u. chain_at p h s t u) k
    ∙ ap (λ o. given_at p o >>= λ op. chain_node p op s t u) is

-- ---- literals on the right

pub written_literal : (n : ℤ) (q : ℕ) → (node_of (rules.written n q)).written ≡ Literal n
written_literal n q = node_written (heads.Lit n) q []

pub written_negated : (n : ℤ) (p q : ℕ) → (node_of (rules.written_minus n p q)).written ≡ Negated n
written_negated n p q = node_written (unary_head unary.Minus) p (rules.written n q ∷ []) ∙ ap (λ w. written_level (unary_head unary.Minus) (w ∷ [])) (written_literal n q)

-- ---- numbers

-- a number of this kind
pub record NumberGives (bs : List RawBound) (e : RawExpr) (k : Kind) (t : Term) : Type 0 where
  pub zero : Option ℕ
  pub zero_is : is_some zero ≡ zero_in k
  pub gives : (node_of e).sorted bs ≡ Ok (a_number (sort_of k) t zero)

pub literal_zero : (b : Bool) (p : ℕ) → is_some (if b then Some p else None) ≡ b
literal_zero true p = refl
literal_zero false p = refl

literal_gives : (bs : List RawBound) (n : ℤ) (p : ℕ) → NumberGives bs (rules.written n p) (free false (int_eq n (pos 0))) (terms.Lit n)
unfolding leaf_node
literal_gives bs n p = record { zero = zero_place n p; zero_is = literal_zero (int_eq n (pos 0)) p; gives = node_sorted bs (heads.Lit n) p [] }

-- a name that is no word
name_gives : (bs : List RawBound) (x : Name) (p v : ℕ) (s : Sort) → lookup x.bytes constants ≡ None → bound_from 0 x bs ≡ Some (v, s)
    → (node_of (node (heads.Name x) p [])).sorted bs ≡ Ok (variable v s)
unfolding leaf_node name_node bound_node
name_gives bs x p v s h k =
    node_sorted bs (heads.Name x) p []
    ∙ ap (λ (o : Option Constant). elim o as (λ _. Placed Sorted) [ Some c ↦ Ok (constant_node c) | None ↦ bound_node bs p x ]) h
    ∙ ap (λ (o : Option (ℕ × Sort)). given_at p o >>= λ v. Ok (variable v.0 v.1)) k

number_variable : (v : ℕ) (s : Sort) → is_number s ≡ true → variable v s ≡ a_number (Fixed s) (terms.Var v) None
number_variable v sorts.Bool h = absurd cc
number_variable v s h = refl

variable_gives : (bs : List RawBound) (x : Name) (p v : ℕ) (s : Sort) → lookup x.bytes constants ≡ None → bound_from 0 x bs ≡ Some (v, s) → is_number s ≡ true
    → NumberGives bs (node (heads.Name x) p []) (fixed s) (terms.Var v)
variable_gives bs x p v s h k i = record { zero = None; zero_is = refl; gives = name_gives bs x p v s h k ∙ ap (λ (r : Sorted). Ok r) (number_variable v s i) }

arithmetic_gives : (bs : List RawBound) (op : Arithmetic) (p : ℕ) (a b : RawExpr) (k l m : Kind) (t u : Term) → NumberGives bs a k t → NumberGives bs b l u → together k l ≡ Some m
    → NumberGives bs (node (binary_head (binary.Arithmetic op)) p (a ∷ b ∷ [])) m (arithmetic_of op m (within m k t) (within m l u))
unfolding binary_node arithmetic
arithmetic_gives bs op p a b k l m t u g h j =
    let w = joined_again p k l m t u g.zero h.zero g.zero_is h.zero_is j in
    record {
      zero = w.0;
      zero_is = w.1;
      gives =
          gives_two bs (binary.Arithmetic op) (binary.Arithmetic op) p a b (Number (number k t g.zero)) (Number (number l u h.zero)) (arithmetic_again op) g.gives h.gives
          ∙ ap (λ r. r >>= λ q. Ok (a_number q.sort (arithmetic_term op q.sort q.left q.right) q.zero)) w.2
          ∙ ap (λ t. Ok (a_number (sort_of m) t w.0)) (arithmetic_same op m (within m k t) (within m l u));
    }

opposite_gives : (bs : List RawBound) (p : ℕ) (a : RawExpr) (k : Kind) (t : Term) → NumberGives bs a k t → together (fixed sorts.Int) k ≡ Some (fixed sorts.Int)
    → NumberGives bs (node (unary_head unary.Minus) p (a ∷ [])) (fixed sorts.Int) (terms.Neg (within (fixed sorts.Int) k t))
unfolding unary_node opposite
opposite_gives bs p a k t g j = record {
  zero = None;
  zero_is = refl;
  gives =
      gives_one bs unary.Minus p a (Number (number k t g.zero)) g.gives
      ∙ ap (λ r. r >>= λ n. Ok (a_number (Fixed sorts.Int) (terms.Neg n.term) n.zero)) (as_sort_again p sorts.Int k t g.zero g.zero_is j);
}

call_1_gives : (bs : List RawBound) (f : Fn1) (p : ℕ) (a : RawExpr) (k : Kind) (t : Term) → NumberGives bs a k t → together (fixed (argument_1 f)) k ≡ Some (fixed (argument_1 f))
    → NumberGives bs (node (unary_head (unary.Call f)) p (a ∷ [])) (fixed (result_1 f)) (terms.Call1 f (within (fixed (argument_1 f)) k t))
unfolding unary_node called_1
call_1_gives bs f p a k t g j = record {
  zero = None;
  zero_is = refl;
  gives =
      gives_one bs (unary.Call f) p a (Number (number k t g.zero)) g.gives
      ∙ ap (λ r. r >>= λ n. Ok (a_number (Fixed (result_1 f)) (terms.Call1 f n.term) n.zero)) (as_sort_again p (argument_1 f) k t g.zero g.zero_is j);
}

call_2_gives : (bs : List RawBound) (f : Fn2) (p : ℕ) (a b : RawExpr) (k l : Kind) (t u : Term) → NumberGives bs a k t → NumberGives bs b l u
    → together (fixed (sort_2 f)) k ≡ Some (fixed (sort_2 f)) → together (fixed (sort_2 f)) l ≡ Some (fixed (sort_2 f))
    → NumberGives bs (node (binary_head (binary.Call f)) p (a ∷ b ∷ [])) (fixed (sort_2 f)) (terms.Call2 f (within (fixed (sort_2 f)) k t) (within (fixed (sort_2 f)) l u))
unfolding binary_node called_2
call_2_gives bs f p a b k l t u g h i j = record {
  zero = None;
  zero_is = refl;
  gives =
      gives_two bs (binary.Call f) (binary.Call f) p a b (Number (number k t g.zero)) (Number (number l u h.zero)) (call_again f) g.gives h.gives
      ∙ ap (λ r. r >>= λ m. as_sort p (sort_2 f) (number l u h.zero) >>= λ n. Ok (a_number (Fixed (sort_2 f)) (terms.Call2 f m.term n.term) (first m.zero n.zero))) (as_sort_again p (sort_2 f) k t g.zero g.zero_is i)
      ∙ ap (λ r. r >>= λ n. Ok (a_number (Fixed (sort_2 f)) (terms.Call2 f (within (fixed (sort_2 f)) k t) n.term) n.zero)) (as_sort_again p (sort_2 f) l u h.zero h.zero_is j);
}

by_literal_gives : (bs : List RawBound) (op : ByLiteral) (n : ℤ) (p q : ℕ) (a : RawExpr) (k m : Kind) (t : Term) → NumberGives bs a k t → can_stand op n ≡ true → by_kind op k ≡ Some m
    → NumberGives bs (node (literal_head op) p (a ∷ rules.written n q ∷ [])) m (by_term op t n)
unfolding by_node by_written by_literal
by_literal_gives bs op n p q a k m t g can j =
    let e = by_again op k m j in
    record {
      zero = g.zero;
      zero_is = g.zero_is ∙ e.1;
      gives =
          gives_by bs op p a (rules.written n q) (Number (number k t g.zero)) (Literal n) g.gives (written_literal n q)
          ∙ ap (λ b. provided p b (by_literal p op (number k t g.zero) n)) can
          ∙ ap (λ o. given_at p o >>= λ s. Ok (a_number s (by_term op t n) g.zero)) e.0;
    }

by_negative_gives : (bs : List RawBound) (op : ByLiteral) (n : ℤ) (p q r : ℕ) (a : RawExpr) (k : Kind) (t : Term) → NumberGives bs a k t → can_be_negative op ≡ true → can_stand op n ≡ true
    → together (fixed sorts.Int) k ≡ Some (fixed sorts.Int)
    → NumberGives bs (node (literal_head op) p (a ∷ rules.written_minus n q r ∷ [])) (fixed sorts.Int) (by_term op (within (fixed sorts.Int) k t) (neg_ℤ n))
unfolding by_node by_written by_negative
by_negative_gives bs op n p q r a k t g negative can j = record {
  zero = None;
  zero_is = refl;
  gives =
      gives_by bs op p a (rules.written_minus n q r) (Number (number k t g.zero)) (Negated n) g.gives (written_negated n q r)
      ∙ ap (λ b. provided p b (provided p (can_stand op n) (by_negative p op (number k t g.zero) n))) negative
      ∙ ap (λ b. provided p b (by_negative p op (number k t g.zero) n)) can
      ∙ ap (λ o. o >>= λ m. Ok (a_number m.sort (by_term op m.term (neg_ℤ n)) m.zero)) (as_sort_again p sorts.Int k t g.zero g.zero_is j);
}

pub number_again : {bs : List RawBound} {e : RawExpr} {k : Kind} {t : Term} → IsNumber bs e k t → NumberGives bs e k t
number_again {bs} (IsNumber.literal n p fits) = literal_gives bs n p
number_again {bs} (IsNumber.variable x p v s no_word bound is) = variable_gives bs x p v s no_word bound is
number_again {bs} (IsNumber.arithmetic op p d e j) = arithmetic_gives bs op p _ _ _ _ _ _ _ (number_again d) (number_again e) j
number_again {bs} (IsNumber.opposite p d j) = opposite_gives bs p _ _ _ (number_again d) j
number_again {bs} (IsNumber.call_1 f p d j) = call_1_gives bs f p _ _ _ (number_again d) j
number_again {bs} (IsNumber.call_2 f p d e i j) = call_2_gives bs f p _ _ _ _ _ _ (number_again d) (number_again e) i j
number_again {bs} (IsNumber.by_literal op n p q d fits can j) = by_literal_gives bs op n p q _ _ _ _ (number_again d) can j
number_again {bs} (IsNumber.by_negative op n p q r d fits negative can j) = by_negative_gives bs op n p q r _ _ _ (number_again d) negative can j

-- ---- bools

abbrev pub TruthGives : List RawBound → RawExpr → BTerm → Type 0
TruthGives bs e b = (node_of e).sorted bs ≡ Ok (a_truth b None)

abbrev truth : BTerm → ATruth
truth b = record { term = b; zero = None }

-- a name that is a word
word_gives : (bs : List RawBound) (x : Name) (p : ℕ) (c : Constant) → lookup x.bytes constants ≡ Some c → (node_of (node (heads.Name x) p [])).sorted bs ≡ Ok (constant_node c)
unfolding leaf_node name_node
word_gives bs x p c h =
    node_sorted bs (heads.Name x) p []
    ∙ ap (λ (o : Option Constant). elim o as (λ _. Placed Sorted) [ Some c ↦ Ok (constant_node c) | None ↦ bound_node bs p x ]) h

test_gives : (bs : List RawBound) (c : BCmp) (p : ℕ) (a b : RawExpr) (k l m : Kind) (t u : Term) → NumberGives bs a k t → NumberGives bs b l u → together k l ≡ Some m
    → TruthGives bs (node (binary_head (binary.Test c)) p (a ∷ b ∷ [])) (bools.Test c (within m k t) (within m l u))
unfolding binary_node test_of
test_gives bs c p a b k l m t u g h j =
    let w = joined_again p k l m t u g.zero h.zero g.zero_is h.zero_is j in
    gives_two bs (binary.Test c) (binary.Test c) p a b (Number (number k t g.zero)) (Number (number l u h.zero)) (test_again c) g.gives h.gives
    ∙ ap (λ r. r >>= λ q. Ok (a_truth (bools.Test c q.left q.right) (compared_zero q.sort q.zero))) w.2
    ∙ ap (λ z. Ok (a_truth (bools.Test c (within m k t) (within m l u)) z)) (compared_again m w.0 w.1)

negb_gives : (bs : List RawBound) (p : ℕ) (a : RawExpr) (b : BTerm) → TruthGives bs a b → TruthGives bs (node (unary_head unary.Negb) p (a ∷ [])) (bools.Not b)
unfolding unary_node
negb_gives bs p a b h = gives_one bs unary.Negb p a (Truth (truth b)) h

joined_gives : (bs : List RawBound) (op : BoolOperator) (p : ℕ) (a b : RawExpr) (c d : BTerm) → TruthGives bs a c → TruthGives bs b d
    → TruthGives bs (node (binary_head (binary.Bool op)) p (a ∷ b ∷ [])) (bool_term op c d)
unfolding binary_node two_truths
joined_gives bs op p a b c d h k = gives_two bs (binary.Bool op) (binary.Bool op) p a b (Truth (truth c)) (Truth (truth d)) (bool_again op) h k

pub truth_again : {bs : List RawBound} {e : RawExpr} {b : BTerm} → IsTruth bs e b → (node_of e).sorted bs ≡ Ok (a_truth b None)
truth_again {bs} (IsTruth.true_word p) = word_gives bs (record { bytes = codes "true" }) p constant.BoolTrue refl
truth_again {bs} (IsTruth.false_word p) = word_gives bs (record { bytes = codes "false" }) p constant.BoolFalse refl
truth_again {bs} (IsTruth.variable x p v no_word bound) = name_gives bs x p v sorts.Bool no_word bound
truth_again {bs} (IsTruth.test c p d e j) = test_gives bs c p _ _ _ _ _ _ _ (number_again d) (number_again e) j
truth_again {bs} (IsTruth.negation p d) = negb_gives bs p _ _ (truth_again d)
truth_again {bs} (IsTruth.joined op p d e) = joined_gives bs op p _ _ _ _ (truth_again d) (truth_again e)

-- ---- formulas

abbrev pub StatementGives : List RawBound → RawExpr → Formula → Type 0
StatementGives bs e f = (node_of e).sorted bs ≡ Ok (a_statement f None)

abbrev statement : Formula → AStatement
statement f = record { formula = f; zero = None }

compares : (c : Cmp) (p : ℕ) (a b : ANumber) → binary_node p (comparing c) (Number a) (Number b) ≡ comparison p c a b
unfolding binary_node equality inequality
compares cmps.Eq p a b = refl
compares cmps.Ne p a b = refl
compares c p a b = refl

comparison_gives : (bs : List RawBound) (c : Cmp) (p : ℕ) (a b : RawExpr) (k l m : Kind) (t u : Term) → NumberGives bs a k t → NumberGives bs b l u → together k l ≡ Some m
    → StatementGives bs (node (binary_head (binary.Compare c)) p (a ∷ b ∷ [])) (formulas.Atom c (within m k t) (within m l u))
unfolding comparison
comparison_gives bs c p a b k l m t u g h j =
    let w = joined_again p k l m t u g.zero h.zero g.zero_is h.zero_is j in
    gives_two bs (binary.Compare c) (comparing c) p a b (Number (number k t g.zero)) (Number (number l u h.zero)) (comparing_again c) g.gives h.gives
    ∙ compares c p (number k t g.zero) (number l u h.zero)
    ∙ ap (λ r. r >>= λ q. Ok (a_statement (formulas.Atom c q.left q.right) (compared_zero q.sort q.zero))) w.2
    ∙ ap (λ z. Ok (a_statement (formulas.Atom c (within m k t) (within m l u)) z)) (compared_again m w.0 w.1)

chain_gives : (bs : List RawBound) (d e : Cmp) (p : ℕ) (a b c : RawExpr) (k l m n o : Kind) (t u v : Term) → makes_chain d ≡ true → makes_chain e ≡ true
    → NumberGives bs a k t → NumberGives bs b l u → NumberGives bs c m v → together k l ≡ Some n → together n m ≡ Some o
    → StatementGives bs (node (chain_head d e) p (a ∷ b ∷ c ∷ [])) (formulas.Chain (within o k t) d (within o l u) e (within o m v))
unfolding chain_node chain
chain_gives bs d e p a b c k l m n o t u v first_makes second_makes f g h i j =
    gives_three bs (chain_head d e) (d, e) p a b c (Number (number k t f.zero)) (Number (number l u g.zero)) (Number (number m v h.zero)) (chain_again d e first_makes second_makes) f.gives g.gives h.gives
    ∙ ap (λ r. r >>= λ n. Ok (a_statement (formulas.Chain n.left d n.middle e n.right) n.zero)) (all_joined_again p k l m n o t u v f.zero g.zero h.zero f.zero_is g.zero_is h.zero_is i j)

equal_gives : (bs : List RawBound) (p : ℕ) (a b : RawExpr) (c d : BTerm) → TruthGives bs a c → TruthGives bs b d
    → StatementGives bs (node (binary_head binary.Equal) p (a ∷ b ∷ [])) (formulas.Same c d)
unfolding binary_node equality
equal_gives bs p a b c d h k = gives_two bs binary.Equal binary.Equal p a b (Truth (truth c)) (Truth (truth d)) equal_again h k

differ_gives : (bs : List RawBound) (p : ℕ) (a b : RawExpr) (c d : BTerm) → TruthGives bs a c → TruthGives bs b d
    → StatementGives bs (node (binary_head binary.Differ) p (a ∷ b ∷ [])) (formulas.Differ c d)
unfolding binary_node inequality
differ_gives bs p a b c d h k = gives_two bs binary.Differ binary.Differ p a b (Truth (truth c)) (Truth (truth d)) differ_again h k

not_gives : (bs : List RawBound) (p : ℕ) (a : RawExpr) (f : Formula) → StatementGives bs a f → StatementGives bs (node (unary_head unary.Not) p (a ∷ [])) (formulas.Not f)
unfolding unary_node
not_gives bs p a f h = gives_one bs unary.Not p a (Statement (statement f)) h

connected_gives : (bs : List RawBound) (op : Connective) (p : ℕ) (a b : RawExpr) (f g : Formula) → StatementGives bs a f → StatementGives bs b g
    → StatementGives bs (node (binary_head (binary.Connect op)) p (a ∷ b ∷ [])) (connected_formula op f g)
unfolding binary_node two_statements
connected_gives bs op p a b f g h k = gives_two bs (binary.Connect op) (binary.Connect op) p a b (Statement (statement f)) (Statement (statement g)) (connective_again op) h k

pub statement_again : {bs : List RawBound} {e : RawExpr} {f : Formula} → IsStatement bs e f → (node_of e).sorted bs ≡ Ok (a_statement f None)
statement_again {bs} (IsStatement.true_word p) = word_gives bs (record { bytes = codes "True" }) p constant.True refl
statement_again {bs} (IsStatement.false_word p) = word_gives bs (record { bytes = codes "False" }) p constant.False refl
statement_again {bs} (IsStatement.comparison c p d e j) = comparison_gives bs c p _ _ _ _ _ _ _ (number_again d) (number_again e) j
statement_again {bs} (IsStatement.chain d e p h k x y z i j) = chain_gives bs d e p _ _ _ _ _ _ _ _ _ _ _ h k (number_again x) (number_again y) (number_again z) i j
statement_again {bs} (IsStatement.equal_bools p d e) = equal_gives bs p _ _ _ _ (truth_again d) (truth_again e)
statement_again {bs} (IsStatement.different_bools p d e) = differ_gives bs p _ _ _ _ (truth_again d) (truth_again e)
statement_again {bs} (IsStatement.negation p d) = not_gives bs p _ _ (statement_again d)
statement_again {bs} (IsStatement.connected op p d e) = connected_gives bs op p _ _ _ _ (statement_again d) (statement_again e)

-- ---- goals

goal_is : (raw : RawGoal) (goal : Goal) → goal.mode ≡ raw.mode → goal.vars ≡ map variable_of raw.bound → goal_of raw (statement goal.body) ≡ goal
goal_is raw goal h k =
    ap (λ m. record { mode = m; vars = map variable_of raw.bound; body = goal.body }) (sym h)
    ∙ ap (λ v. record { mode = goal.mode; vars = v; body = goal.body }) (sym k)

pub again : (raw : RawGoal) (goal : Goal) → IsSorted raw goal → sorting raw ≡ Ok goal
unfolding body_of with_body
again raw goal h =
    ap (λ o. unless o (body_of raw >>= λ f. with_body raw f)) (none_twice [] raw.bound (subst (λ v. AllDiffer (names_of v)) h.vars h.names))
    ∙ ap (λ r. r >>= (λ s. statement_of (node_of raw.body).place s) >>= λ f. with_body raw f) (statement_again h.body)
    ∙ ap (λ (g : Goal). Ok g) (goal_is raw goal h.mode h.vars)

pub one_sorting : (raw : RawGoal) (g h : Goal) → IsSorted raw g → IsSorted raw h → g ≡ h
one_sorting raw g h i j = ok_is g h (sym (again raw g i) ∙ again raw h j)
