-- What sorting gives, the rules of sorts give.
use Rattle.std.proofs.Common.{◌≡◌, ℕ, List, [], ◌∷◌, map, Bool, true, false, Option, Some, None, Ok, refl, sym, ap, ◌∙◌, subst, inl, inr}
use Rattle.std.specs.Prelude.{ℤ, pos, neg_ℤ, nat_eq, codes, ◌==◌, ◌&&◌, if◌then◌else◌}
use Rattle.std.specs.Ordering.{int_eq}
use Rattle.std.specs.Option.{is_some}
use Rattle.std.specs.Cmp.Lexicographic.{pointwise, same_text}
use Rattle.std.proofs.lemmas.Bool.{and_parts, eqb-true}
use Rattle.std.proofs.lemmas.Option.{same_Some}
use Rattle.mm_num.specs.Result.{◌>>=◌}
use Rattle.goal_ast.specs.declared.term.Sort.{Sort}
use Rattle.goal_ast.specs.declared.term.Sort.TheVariants as sorts
use Rattle.goal_ast.specs.declared.term.Fn1.{Fn1}
use Rattle.goal_ast.specs.declared.term.Fn2.{Fn2}
use Rattle.goal_ast.specs.declared.term.Term.{Term}
use Rattle.goal_ast.specs.declared.term.Term.TheVariants as terms
use Rattle.goal_ast.specs.declared.formula.Cmp.{Cmp}
use Rattle.goal_ast.specs.declared.formula.Cmp.TheVariants as cmps
use Rattle.goal_ast.specs.declared.formula.BCmp.{BCmp}
use Rattle.goal_ast.specs.declared.formula.BTerm.{BTerm}
use Rattle.goal_ast.specs.declared.formula.BTerm.TheVariants as bools
use Rattle.goal_ast.specs.declared.formula.Formula.{Formula}
use Rattle.goal_ast.specs.declared.formula.Formula.TheVariants as formulas
use Rattle.goal_ast.specs.declared.goal.Name.{Name}
use Rattle.goal_ast.specs.declared.goal.Goal.{Goal}
use Rattle.goal_ast.specs.Sorted.{is_number, argument_1, result_1, sort_2}
use Rattle.goal_token.specs.declared.token.Constant.{Constant}
use Rattle.goal_token.specs.declared.token.Constant.TheVariants as constant
use Rattle.goal_token.specs.declared.token.Sign.TheVariants as signs
use Rattle.goal_token.specs.Numbers.{sign_number}
use Rattle.goal_token.specs.Words.{Table, lookup, constants}
use Rattle.goal_sort.specs.declared.raw.Head.{Head}
use Rattle.goal_sort.specs.declared.raw.Head.TheVariants as heads
use Rattle.goal_sort.specs.declared.raw.RawBound.{RawBound}
use Rattle.goal_sort.specs.declared.raw.RawExpr.{RawExpr, roll-RawExpr}
use Rattle.goal_sort.specs.declared.raw.RawExpr.TheOpen.{RawExpr-F}
use Rattle.goal_sort.specs.declared.raw.RawExpr.TheFolds.{map-RawExpr, fold-roll-RawExpr, ind-RawExpr}
use Rattle.goal_sort.specs.declared.raw.RawGoal.{RawGoal}
use Rattle.goal_sort.specs.declared.value.NumberSort.{NumberSort}
use Rattle.goal_sort.specs.declared.value.NumberSort.TheVariants.{Fixed}
use Rattle.goal_sort.specs.declared.value.Number.{Number as ANumber}
use Rattle.goal_sort.specs.declared.value.Statement.{Statement as AStatement}
use Rattle.goal_sort.specs.declared.value.Sorted.{Sorted}
use Rattle.goal_sort.specs.declared.value.Sorted.TheVariants.{Number, Truth, Statement}
use Rattle.goal_sort.specs.declared.value.Pair.{Pair}
use Rattle.goal_sort.specs.declared.value.Triple.{Triple}
use Rattle.goal_sort.specs.declared.value.Written.{Written}
use Rattle.goal_sort.specs.declared.value.Written.TheVariants.{Literal, Negated, Other}
use Rattle.goal_sort.specs.declared.operator.Unary.{Unary}
use Rattle.goal_sort.specs.declared.operator.Unary.TheVariants as unary
use Rattle.goal_sort.specs.declared.operator.Arithmetic.{Arithmetic}
use Rattle.goal_sort.specs.declared.operator.ByLiteral.{ByLiteral}
use Rattle.goal_sort.specs.declared.operator.BoolOperator.{BoolOperator}
use Rattle.goal_sort.specs.declared.operator.Connective.{Connective}
use Rattle.goal_sort.specs.declared.operator.Binary.{Binary}
use Rattle.goal_sort.specs.declared.operator.Binary.TheVariants as binary
use Rattle.goal_sort.specs.SortGiving.{Placed}
use Rattle.goal_sort.specs.Operators.{unary_of, binary_of, by_literal_of, chain_of}
use Rattle.goal_sort.specs.SortedNumbers.{as_sort, joined, all_joined, a_number, a_truth, a_statement, arithmetic, arithmetic_term, opposite, called_1, called_2, by_term, can_stand, can_be_negative, by_sort, by_literal, by_negative, by_written, provided, test_of, compared_zero, comparison, equality, inequality, chain, two_numbers, two_truths, two_statements, both_bools, equal_bools, different_bools, negated_bool, negated_formula, connected, unary_node, binary_node, by_node, chain_node, first, statement_of}
use Rattle.goal_sort.specs.Sorting.{Node, node_of, written_level, written_minus, sorted_level, one_operand, both_operands, left_operand, two_operands, three_operands, unary_at, binary_at, chain_at, leaf_node, name_node, bound_node, bound_from, zero_place, variable, constant_node, second_binding, goal_of, body_of, with_body, sorting, head_fits, all_true, literals_level, literals_fit}
use Rattle.goal_sort.specs.Heads.{unary_head, literal_head, binary_head, chain_head}
use Rattle.goal_sort.specs.Kinds.{Kind, free, fixed, together, within, arithmetic_of}
use Rattle.goal_sort.specs.IsSorted as rules
use Rattle.goal_sort.specs.IsSorted.{node, literal_fits, IsNumber, IsTruth, IsStatement, IsSorted}
use Rattle.goal_sort.proofs.GivingLaws.{ok_is, bind_ok, given_bound, provided_ok, unless_ok, test_some, choice_ok}
use Rattle.goal_sort.proofs.OperatorLaws.{unary_is, literal_is, binary_is, IsChain, chain_is}
use Rattle.goal_sort.proofs.KindLaws.{sort_of, zero_in, AsKind, is_numeric, no_place, place_none, first_parts, arithmetic_same, by_found, by_numeric, argument_number, sort_2_number, compared_kind}
use Rattle.goal_sort.proofs.JoiningLaws.{joined_found, Taken, TakenAs, as_sort_found, Three, all_joined_found, kind_fixed}
use Rattle.goal_sort.proofs.NameLaws.{all_differ}
use Rattle.goal_sort.proofs.AgainLaws.{node_sorted, node_written, literal_zero}
use Rattle.goal_sort.proofs.TakingLaws.{result_number}

-- ---- what is claimed of a node

-- a number is right where it has a kind; a positive 0 in it stays to the end, and then the goal is refused
pub record NumberRight (bs : List RawBound) (e : RawExpr) (a : ANumber) : Type 0 where
  pub numeric : is_numeric a.sort ≡ true
  pub number : (k : Kind) → AsKind k a.sort a.zero → IsNumber bs e k a.term

abbrev pub IsRight : List RawBound → RawExpr → Sorted → Type 0
IsRight bs e (Number a) = NumberRight bs e a
IsRight bs e (Truth b) = b.zero ≡ None → IsTruth bs e b.term
IsRight bs e (Statement f) = f.zero ≡ None → IsStatement bs e f.formula

-- what is written on the right of `^`, `/` and `mod`
abbrev pub IsWritten : RawExpr → Written → Type 0
IsWritten e (Literal n) = (q : ℕ) × (e ≡ rules.written n q) × literal_fits n
IsWritten e (Negated n) = (p : ℕ) × (q : ℕ) × (e ≡ rules.written_minus n p q) × literal_fits n
IsWritten e Other = Unit {0}

pub record Right (bs : List RawBound) (e : RawExpr) : Type 0 where
  pub sorted : (r : Sorted) → (node_of e).sorted bs ≡ Ok r → IsRight bs e r
  pub written : (w : Written) → (node_of e).written ≡ w → IsWritten e w

abbrev pub Claim : List RawBound → RawExpr → Type 0
Claim bs e = literals_fit e ≡ true → Right bs e

-- ---- results

kind_same : (k l : Kind) → sort_of k ≡ sort_of l → zero_in k ≡ zero_in l → k ≡ l
kind_same (free d y) (free e z) h i = cc
kind_same (free d y) (fixed s) h i = absurd cc
kind_same (fixed s) (free d y) h i = absurd cc
kind_same (fixed s) (fixed r) h i = cc

-- a number of one kind
right_kind : (bs : List RawBound) (e : RawExpr) (k : Kind) (t : Term) (z : Option ℕ) → is_numeric (sort_of k) ≡ true → is_some z ≡ zero_in k → IsNumber bs e k t → IsRight bs e (a_number (sort_of k) t z)
right_kind bs e k t z h i d = record {
  numeric = h;
  number = λ l as_l. subst (λ (l : Kind). IsNumber bs e l t) (kind_same k l as_l.0 (sym i ∙ as_l.1)) d;
}

-- a number of a sort
right_fixed : (bs : List RawBound) (e : RawExpr) (s : Sort) (t : Term) (z : Option ℕ) → is_number s ≡ true → (z ≡ None → IsNumber bs e (fixed s) t) → IsRight bs e (a_number (Fixed s) t z)
right_fixed bs e s t z h d = record {
  numeric = h;
  number = λ k as_k.
      let same = kind_fixed k s as_k.0 in
      subst (λ (k : Kind). IsNumber bs e k t) (sym same) (d (no_place z (as_k.1 ∙ ap zero_in same)));
}

right_of : (bs : List RawBound) (e : RawExpr) (r s : Sorted) → ◌≡◌ {A = Placed Sorted} (Ok r) (Ok s) → IsRight bs e r → IsRight bs e s
right_of bs e r s h d = subst (λ r. IsRight bs e r) (ok_is r s h) d

-- ---- leaves

AllTexts : {A : Type 0} → (List ℕ → A → Type 0) → Table A → Type 0
AllTexts P [] = Unit {0}
AllTexts P (e ∷ table) = P e.0 e.1 × AllTexts P table

lookup_is : {A : Type 0} (P : List ℕ → A → Type 0) (text : List ℕ) (x : A) (table : Table A) → AllTexts P table → lookup text table ≡ Some x → P text x
unfolding AllTexts
lookup_is P text x [] h is = absurd cc
lookup_is P text x (e ∷ table) h is = elim (test_some (pointwise nat_eq text e.0) (Some e.1) (lookup text table) x is) [
  | inl k ↦ subst (λ t. P t x) (sym (same_text text e.0 (sym k.0))) (subst (λ y. P e.0 y) (same_Some e.1 x k.1) h.0)
  | inr k ↦ lookup_is P text x table h.1 k.1
]

abbrev constant_text : Constant → List ℕ
constant_text constant.True = codes "True"
constant_text constant.False = codes "False"
constant_text constant.BoolTrue = codes "true"
constant_text constant.BoolFalse = codes "false"

text_is : (text : List ℕ) (c : Constant) → lookup text constants ≡ Some c → text ≡ constant_text c
unfolding AllTexts
text_is text c is = lookup_is (λ text c. text ≡ constant_text c) text c constants (refl, (refl, (refl, (refl, tt)))) is

word_right : (bs : List RawBound) (p : ℕ) (c : Constant) → IsRight bs (rules.word (constant_text c) p) (constant_node c)
word_right bs p constant.True = λ none. IsStatement.true_word p
word_right bs p constant.False = λ none. IsStatement.false_word p
word_right bs p constant.BoolTrue = λ none. IsTruth.true_word p
word_right bs p constant.BoolFalse = λ none. IsTruth.false_word p

variable_right : (bs : List RawBound) (x : Name) (p v : ℕ) (s : Sort) → lookup x.bytes constants ≡ None → bound_from 0 x bs ≡ Some (v, s) → IsRight bs (node (heads.Name x) p []) (variable v s)
variable_right bs x p v sorts.Bool h k = λ none. IsTruth.variable x p v h k
variable_right bs x p v sorts.Int h k = right_fixed bs _ sorts.Int (terms.Var v) None refl (λ none. IsNumber.variable x p v sorts.Int h k refl)
variable_right bs x p v sorts.Bin h k = right_fixed bs _ sorts.Bin (terms.Var v) None refl (λ none. IsNumber.variable x p v sorts.Bin h k refl)
variable_right bs x p v sorts.Nat h k = right_fixed bs _ sorts.Nat (terms.Var v) None refl (λ none. IsNumber.variable x p v sorts.Nat h k refl)
variable_right bs x p v sorts.Pos h k = right_fixed bs _ sorts.Pos (terms.Var v) None refl (λ none. IsNumber.variable x p v sorts.Pos h k refl)

name_right : (bs : List RawBound) (x : Name) (p : ℕ) (r : Sorted) → name_node bs p x ≡ Ok r → IsRight bs (node (heads.Name x) p []) r
unfolding name_node bound_node
name_right bs x p r is = elim (choice_ok (lookup x.bytes constants) (λ c. Ok (constant_node c)) (bound_node bs p x) r is) [
  | inl k ↦ right_of bs (node (heads.Name x) p []) (constant_node k.0) r k.2
      (subst (λ (t : List ℕ). IsRight bs (rules.word t p) (constant_node k.0)) (sym (text_is x.bytes k.0 k.1)) (word_right bs p k.0))
  | inr k ↦
      let g = given_bound p (bound_from 0 x bs) (λ v. Ok (variable v.0 v.1)) r k.1 in
      right_of bs (node (heads.Name x) p []) (variable g.0.0 g.0.1) r g.2 (variable_right bs x p g.0.0 g.0.1 k.0 g.1)
]

leaf_right : (bs : List RawBound) (h : Head) (p : ℕ) (r : Sorted) → head_fits h ≡ true → leaf_node bs p h ≡ Ok r → IsRight bs (node h p []) r
unfolding leaf_node
leaf_right bs (heads.Lit n) p r fits is =
    right_of bs _ _ r is (right_kind bs (rules.written n p) (free false (int_eq n (pos 0))) (terms.Lit n) (zero_place n p) refl (literal_zero (int_eq n (pos 0)) p) (IsNumber.literal n p fits))
leaf_right bs (heads.Name x) p r fits is = name_right bs x p r is
leaf_right bs (heads.Prefix n) p r fits is = absurd cc
leaf_right bs (heads.Infix n) p r fits is = absurd cc
leaf_right bs (heads.Apply n) p r fits is = absurd cc
leaf_right bs (heads.Chain m n) p r fits is = absurd cc

-- ---- nodes with one operand

opposite_right : (bs : List RawBound) (p : ℕ) (a : RawExpr) (x : ANumber) (r : Sorted) → NumberRight bs a x → opposite p x ≡ Ok r → IsRight bs (node (unary_head unary.Minus) p (a ∷ [])) r
unfolding opposite
opposite_right bs p a x r h is =
    let g = bind_ok (as_sort p sorts.Int x) (λ n. Ok (a_number (Fixed sorts.Int) (terms.Neg n.term) n.zero)) r is in
    let n = as_sort_found p sorts.Int x g.0 refl h.numeric g.1 in
    right_of bs _ _ r g.2 (right_fixed bs _ sorts.Int (terms.Neg g.0.term) g.0.zero refl (λ none.
    let d = n.part none in
    subst (λ (t : Term). IsNumber bs (node (unary_head unary.Minus) p (a ∷ [])) (fixed sorts.Int) (terms.Neg t)) (sym d.term)
    (IsNumber.opposite p (h.number d.kind d.is) d.takes)))

call_1_right : (bs : List RawBound) (f : Fn1) (p : ℕ) (a : RawExpr) (x : ANumber) (r : Sorted) → NumberRight bs a x → called_1 p f x ≡ Ok r → IsRight bs (node (unary_head (unary.Call f)) p (a ∷ [])) r
unfolding called_1
call_1_right bs f p a x r h is =
    let g = bind_ok (as_sort p (argument_1 f) x) (λ n. Ok (a_number (Fixed (result_1 f)) (terms.Call1 f n.term) n.zero)) r is in
    let n = as_sort_found p (argument_1 f) x g.0 (argument_number f) h.numeric g.1 in
    right_of bs _ _ r g.2 (right_fixed bs _ (result_1 f) (terms.Call1 f g.0.term) g.0.zero (result_number f) (λ none.
    let d = n.part none in
    subst (λ (t : Term). IsNumber bs (node (unary_head (unary.Call f)) p (a ∷ [])) (fixed (result_1 f)) (terms.Call1 f t)) (sym d.term)
    (IsNumber.call_1 f p (h.number d.kind d.is) d.takes)))

unary_right : (bs : List RawBound) (op : Unary) (p : ℕ) (a : RawExpr) (s r : Sorted) → IsRight bs a s → unary_node p op s ≡ Ok r → IsRight bs (node (unary_head op) p (a ∷ [])) r
unfolding unary_node
unary_right bs unary.Minus p a (Number x) r h is = opposite_right bs p a x r h is
unary_right bs unary.Minus p a (Truth x) r h is = absurd cc
unary_right bs unary.Minus p a (Statement x) r h is = absurd cc
unary_right bs (unary.Call f) p a (Number x) r h is = call_1_right bs f p a x r h is
unary_right bs (unary.Call f) p a (Truth x) r h is = absurd cc
unary_right bs (unary.Call f) p a (Statement x) r h is = absurd cc
unary_right bs unary.Not p a (Statement x) r h is = right_of bs _ (negated_formula x) r is (λ none. IsStatement.negation p (h none))
unary_right bs unary.Not p a (Number x) r h is = absurd cc
unary_right bs unary.Not p a (Truth x) r h is = absurd cc
unary_right bs unary.Negb p a (Truth x) r h is = right_of bs _ (negated_bool x) r is (λ none. IsTruth.negation p (h none))
unary_right bs unary.Negb p a (Number x) r h is = absurd cc
unary_right bs unary.Negb p a (Statement x) r h is = absurd cc

one_right : (bs : List RawBound) (h : Head) (p : ℕ) (a : RawExpr) (s r : Sorted) → IsRight bs a s → unary_at p h s ≡ Ok r → IsRight bs (node h p (a ∷ [])) r
unfolding unary_at
one_right bs h p a s r d is =
    let g = given_bound p (unary_of h) (λ op. unary_node p op s) r is in
    subst (λ (h : Head). IsRight bs (node h p (a ∷ [])) r) (sym (unary_is h g.0 g.1)) (unary_right bs g.0 p a s r d g.2)

-- ---- nodes with two operands

-- two operands that are numbers
record Numbers (bs : List RawBound) (a b : RawExpr) {A : Type 0} (f : ANumber → ANumber → Placed A) (r : A) : Type 0 where
  left : ANumber
  right : ANumber
  left_right : NumberRight bs a left
  right_right : NumberRight bs b right
  gives : f left right ≡ Ok r

numbers_are : {A : Type 0} (bs : List RawBound) (p : ℕ) (a b : RawExpr) (s t : Sorted) (f : ANumber → ANumber → Placed A) (r : A) → IsRight bs a s → IsRight bs b t
    → two_numbers p s t f ≡ Ok r → Numbers bs a b f r
numbers_are bs p a b (Number x) (Number y) f r h k is = record { left = x; right = y; left_right = h; right_right = k; gives = is }
numbers_are bs p a b (Number x) (Truth y) f r h k is = absurd cc
numbers_are bs p a b (Number x) (Statement y) f r h k is = absurd cc
numbers_are bs p a b (Truth x) t f r h k is = absurd cc
numbers_are bs p a b (Statement x) t f r h k is = absurd cc

arithmetic_right : (bs : List RawBound) (op : Arithmetic) (p : ℕ) (a b : RawExpr) (x y : ANumber) (r : Sorted) → NumberRight bs a x → NumberRight bs b y → arithmetic p op x y ≡ Ok r
    → IsRight bs (node (binary_head (binary.Arithmetic op)) p (a ∷ b ∷ [])) r
unfolding arithmetic
arithmetic_right bs op p a b x y r h k is =
    let g = bind_ok (joined p x y) (λ q. Ok (a_number q.sort (arithmetic_term op q.sort q.left q.right) q.zero)) r is in
    let q : Pair = g.0 in
    let j = joined_found p x y q h.numeric k.numeric g.1 in
    right_of bs _ _ r g.2 (record {
      numeric = j.numeric;
      number = λ m as_m.
          let d = j.parts m as_m in
          let t_is : arithmetic_term op q.sort q.left q.right ≡ arithmetic_of op m (within m d.left x.term) (within m d.right y.term) =
          ap (λ s. arithmetic_term op s q.left q.right) as_m.0
          ∙ arithmetic_same op m q.left q.right
          ∙ ap (λ t. arithmetic_of op m t q.right) d.left_term
          ∙ ap (λ t. arithmetic_of op m (within m d.left x.term) t) d.right_term in
          subst (λ (t : Term). IsNumber bs (node (binary_head (binary.Arithmetic op)) p (a ∷ b ∷ [])) m t) (sym t_is)
          (IsNumber.arithmetic op p (h.number d.left d.left_is) (k.number d.right d.right_is) d.join);
    })

-- no place is kept of either
neither : (y z : Option ℕ) → first y z ≡ None → (y ≡ None) × (z ≡ None)
neither y z h = let n = first_parts y z (place_none (first y z) h) in (no_place y n.0, no_place z n.1)

call_2_number : (bs : List RawBound) (f : Fn2) (p : ℕ) (a b : RawExpr) (x y : ANumber) (t u : Term) → NumberRight bs a x → NumberRight bs b y → Taken (sort_2 f) x t → Taken (sort_2 f) y u
    → IsNumber bs (node (binary_head (binary.Call f)) p (a ∷ b ∷ [])) (fixed (sort_2 f)) (terms.Call2 f t u)
call_2_number bs f p a b x y t u h k d e =
    let v : Term = within (fixed (sort_2 f)) d.kind x.term in
    let w : Term = within (fixed (sort_2 f)) e.kind y.term in
    let t_is : terms.Call2 f v w ≡ terms.Call2 f t u = ap (λ v. terms.Call2 f v w) (sym d.term) ∙ ap (λ w. terms.Call2 f t w) (sym e.term) in
    subst (λ (t : Term). IsNumber bs (node (binary_head (binary.Call f)) p (a ∷ b ∷ [])) (fixed (sort_2 f)) t) t_is
    (IsNumber.call_2 f p (h.number d.kind d.is) (k.number e.kind e.is) d.takes e.takes)

call_2_right : (bs : List RawBound) (f : Fn2) (p : ℕ) (a b : RawExpr) (x y : ANumber) (r : Sorted) → NumberRight bs a x → NumberRight bs b y → called_2 p f x y ≡ Ok r
    → IsRight bs (node (binary_head (binary.Call f)) p (a ∷ b ∷ [])) r
unfolding called_2
call_2_right bs f p a b x y r h k is =
    let g = bind_ok (as_sort p (sort_2 f) x) (λ m. as_sort p (sort_2 f) y >>= λ n. Ok (a_number (Fixed (sort_2 f)) (terms.Call2 f m.term n.term) (first m.zero n.zero))) r is in
    let i = bind_ok (as_sort p (sort_2 f) y) (λ n. Ok (a_number (Fixed (sort_2 f)) (terms.Call2 f g.0.term n.term) (first g.0.zero n.zero))) r g.2 in
    call_2_parts g.0 i.0 (as_sort_found p (sort_2 f) x g.0 (sort_2_number f) h.numeric g.1) (as_sort_found p (sort_2 f) y i.0 (sort_2_number f) k.numeric i.1) i.2
  where
    call_2_parts : (m n : ANumber) → TakenAs (sort_2 f) x m → TakenAs (sort_2 f) y n
        → ◌≡◌ {A = Placed Sorted} (Ok (a_number (Fixed (sort_2 f)) (terms.Call2 f m.term n.term) (first m.zero n.zero))) (Ok r)
        → IsRight bs (node (binary_head (binary.Call f)) p (a ∷ b ∷ [])) r
    call_2_parts m n of_m of_n e =
        right_of bs _ _ r e (right_fixed bs _ (sort_2 f) (terms.Call2 f m.term n.term) (first m.zero n.zero) (sort_2_number f) (λ none.
        let z = neither m.zero n.zero none in
        call_2_number bs f p a b x y m.term n.term h k (of_m.part z.0) (of_n.part z.1)))

-- two numbers that are compared
record Compared (bs : List RawBound) (a b : RawExpr) (q : Pair) : Type 0 where
  left : Kind
  right : Kind
  whole : Kind
  left_number : Term
  right_number : Term
  left_is : IsNumber bs a left left_number
  right_is : IsNumber bs b right right_number
  join : together left right ≡ Some whole
  left_term : q.left ≡ within whole left left_number
  right_term : q.right ≡ within whole right right_number

compared_right : (bs : List RawBound) (p : ℕ) (a b : RawExpr) (x y : ANumber) (q : Pair) → NumberRight bs a x → NumberRight bs b y → joined p x y ≡ Ok q → compared_zero q.sort q.zero ≡ None
    → Compared bs a b q
compared_right bs p a b x y q h k is none =
    let j = joined_found p x y q h.numeric k.numeric is in
    let m = compared_kind q.sort q.zero none in
    let d = j.parts m.0 m.1 in
    record {
      left = d.left;
      right = d.right;
      whole = m.0;
      left_number = x.term;
      right_number = y.term;
      left_is = h.number d.left d.left_is;
      right_is = k.number d.right d.right_is;
      join = d.join;
      left_term = d.left_term;
      right_term = d.right_term;
    }

test_right : (bs : List RawBound) (c : BCmp) (p : ℕ) (a b : RawExpr) (x y : ANumber) (r : Sorted) → NumberRight bs a x → NumberRight bs b y → test_of p c x y ≡ Ok r
    → IsRight bs (node (binary_head (binary.Test c)) p (a ∷ b ∷ [])) r
unfolding test_of
test_right bs c p a b x y r h k is =
    let g = bind_ok (joined p x y) (λ q. Ok (a_truth (bools.Test c q.left q.right) (compared_zero q.sort q.zero))) r is in
    let q : Pair = g.0 in
    right_of bs _ (a_truth (bools.Test c q.left q.right) (compared_zero q.sort q.zero)) r g.2 (λ none.
    let d = compared_right bs p a b x y q h k g.1 none in
    subst (λ (t : BTerm). IsTruth bs (node (binary_head (binary.Test c)) p (a ∷ b ∷ [])) t)
    (sym (ap (λ t. bools.Test c t q.right) d.left_term ∙ ap (λ t. bools.Test c (within d.whole d.left d.left_number) t) d.right_term))
    (IsTruth.test c p d.left_is d.right_is d.join))

comparison_right : (bs : List RawBound) (c : Cmp) (p : ℕ) (a b : RawExpr) (x y : ANumber) (r : Sorted) → NumberRight bs a x → NumberRight bs b y → comparison p c x y ≡ Ok r
    → IsRight bs (node (binary_head (binary.Compare c)) p (a ∷ b ∷ [])) r
unfolding comparison
comparison_right bs c p a b x y r h k is =
    let g = bind_ok (joined p x y) (λ q. Ok (a_statement (formulas.Atom c q.left q.right) (compared_zero q.sort q.zero))) r is in
    let q : Pair = g.0 in
    right_of bs _ (a_statement (formulas.Atom c q.left q.right) (compared_zero q.sort q.zero)) r g.2 (λ none.
    let d = compared_right bs p a b x y q h k g.1 none in
    subst (λ (t : Formula). IsStatement bs (node (binary_head (binary.Compare c)) p (a ∷ b ∷ [])) t)
    (sym (ap (λ t. formulas.Atom c t q.right) d.left_term ∙ ap (λ t. formulas.Atom c (within d.whole d.left d.left_number) t) d.right_term))
    (IsStatement.comparison c p d.left_is d.right_is d.join))

equality_right : (bs : List RawBound) (p : ℕ) (a b : RawExpr) (s t r : Sorted) → IsRight bs a s → IsRight bs b t → equality p s t ≡ Ok r
    → IsRight bs (node (binary_head binary.Equal) p (a ∷ b ∷ [])) r
unfolding equality
equality_right bs p a b (Number x) (Number y) r h k is = comparison_right bs cmps.Eq p a b x y r h k is
equality_right bs p a b (Number x) (Truth y) r h k is = absurd cc
equality_right bs p a b (Number x) (Statement y) r h k is = absurd cc
equality_right bs p a b (Truth x) (Number y) r h k is = absurd cc
equality_right bs p a b (Truth x) (Truth y) r h k is =
    right_of bs _ (equal_bools x y) r is (λ none. let n = neither x.zero y.zero none in IsStatement.equal_bools p (h n.0) (k n.1))
equality_right bs p a b (Truth x) (Statement y) r h k is = absurd cc
equality_right bs p a b (Statement x) t r h k is = absurd cc

inequality_right : (bs : List RawBound) (p : ℕ) (a b : RawExpr) (s t r : Sorted) → IsRight bs a s → IsRight bs b t → inequality p s t ≡ Ok r
    → IsRight bs (node (binary_head binary.Differ) p (a ∷ b ∷ [])) r
unfolding inequality
inequality_right bs p a b (Number x) (Number y) r h k is = comparison_right bs cmps.Ne p a b x y r h k is
inequality_right bs p a b (Number x) (Truth y) r h k is = absurd cc
inequality_right bs p a b (Number x) (Statement y) r h k is = absurd cc
inequality_right bs p a b (Truth x) (Number y) r h k is = absurd cc
inequality_right bs p a b (Truth x) (Truth y) r h k is =
    right_of bs _ (different_bools x y) r is (λ none. let n = neither x.zero y.zero none in IsStatement.different_bools p (h n.0) (k n.1))
inequality_right bs p a b (Truth x) (Statement y) r h k is = absurd cc
inequality_right bs p a b (Statement x) t r h k is = absurd cc

truths_right : (bs : List RawBound) (op : BoolOperator) (p : ℕ) (a b : RawExpr) (s t r : Sorted) → IsRight bs a s → IsRight bs b t → two_truths p op s t ≡ Ok r
    → IsRight bs (node (binary_head (binary.Bool op)) p (a ∷ b ∷ [])) r
unfolding two_truths
truths_right bs op p a b (Truth x) (Truth y) r h k is =
    right_of bs _ (both_bools op x y) r is (λ none. let n = neither x.zero y.zero none in IsTruth.joined op p (h n.0) (k n.1))
truths_right bs op p a b (Truth x) (Number y) r h k is = absurd cc
truths_right bs op p a b (Truth x) (Statement y) r h k is = absurd cc
truths_right bs op p a b (Number x) t r h k is = absurd cc
truths_right bs op p a b (Statement x) t r h k is = absurd cc

statements_right : (bs : List RawBound) (op : Connective) (p : ℕ) (a b : RawExpr) (s t r : Sorted) → IsRight bs a s → IsRight bs b t → two_statements p op s t ≡ Ok r
    → IsRight bs (node (binary_head (binary.Connect op)) p (a ∷ b ∷ [])) r
unfolding two_statements
statements_right bs op p a b (Statement x) (Statement y) r h k is =
    right_of bs _ (connected op x y) r is (λ none. let n = neither x.zero y.zero none in IsStatement.connected op p (h n.0) (k n.1))
statements_right bs op p a b (Statement x) (Number y) r h k is = absurd cc
statements_right bs op p a b (Statement x) (Truth y) r h k is = absurd cc
statements_right bs op p a b (Number x) t r h k is = absurd cc
statements_right bs op p a b (Truth x) t r h k is = absurd cc

binary_right : (bs : List RawBound) (op : Binary) (p : ℕ) (a b : RawExpr) (s t r : Sorted) → IsRight bs a s → IsRight bs b t → binary_node p op s t ≡ Ok r
    → IsRight bs (node (binary_head op) p (a ∷ b ∷ [])) r
unfolding binary_node
binary_right bs (binary.Arithmetic op) p a b s t r h k is =
    let n = numbers_are bs p a b s t (arithmetic p op) r h k is in arithmetic_right bs op p a b n.left n.right r n.left_right n.right_right n.gives
binary_right bs binary.Equal p a b s t r h k is = equality_right bs p a b s t r h k is
binary_right bs binary.Differ p a b s t r h k is = inequality_right bs p a b s t r h k is
binary_right bs (binary.Compare c) p a b s t r h k is =
    let n = numbers_are bs p a b s t (comparison p c) r h k is in comparison_right bs c p a b n.left n.right r n.left_right n.right_right n.gives
binary_right bs (binary.Test c) p a b s t r h k is =
    let n = numbers_are bs p a b s t (test_of p c) r h k is in test_right bs c p a b n.left n.right r n.left_right n.right_right n.gives
binary_right bs (binary.Bool op) p a b s t r h k is = truths_right bs op p a b s t r h k is
binary_right bs (binary.Connect op) p a b s t r h k is = statements_right bs op p a b s t r h k is
binary_right bs (binary.Call f) p a b s t r h k is =
    let n = numbers_are bs p a b s t (called_2 p f) r h k is in call_2_right bs f p a b n.left n.right r n.left_right n.right_right n.gives

-- ---- a number with a literal on its right

by_literal_right : (bs : List RawBound) (op : ByLiteral) (n : ℤ) (p q : ℕ) (a : RawExpr) (x : ANumber) (r : Sorted) → NumberRight bs a x → literal_fits n → can_stand op n ≡ true → by_literal p op x n ≡ Ok r
    → IsRight bs (node (literal_head op) p (a ∷ rules.written n q ∷ [])) r
unfolding by_literal
by_literal_right bs op n p q a x r h fits can is =
    let g = given_bound p (by_sort op x.sort) (λ s. Ok (a_number s (by_term op x.term n) x.zero)) r is in
    right_of bs _ _ r g.2 (record {
      numeric = by_numeric op x.sort g.0 g.1 h.numeric;
      number = λ m as_m.
          let d = by_found op x.sort x.zero m (g.1 ∙ ap (λ s. Some s) as_m.0) as_m.1 in
          IsNumber.by_literal op n p q (h.number d.left d.left_is) fits can d.gives;
    })

by_negative_right : (bs : List RawBound) (op : ByLiteral) (n : ℤ) (p q l : ℕ) (a : RawExpr) (x : ANumber) (r : Sorted) → NumberRight bs a x → literal_fits n → can_be_negative op ≡ true → can_stand op n ≡ true
    → by_negative p op x n ≡ Ok r → IsRight bs (node (literal_head op) p (a ∷ rules.written_minus n q l ∷ [])) r
unfolding by_negative
by_negative_right bs op n p q l a x r h fits negative can is =
    let g = bind_ok (as_sort p sorts.Int x) (λ m. Ok (a_number m.sort (by_term op m.term (neg_ℤ n)) m.zero)) r is in
    by_part g.0 (as_sort_found p sorts.Int x g.0 refl h.numeric g.1) g.2
  where
    by_part : (m : ANumber) → TakenAs sorts.Int x m → ◌≡◌ {A = Placed Sorted} (Ok (a_number m.sort (by_term op m.term (neg_ℤ n)) m.zero)) (Ok r)
        → IsRight bs (node (literal_head op) p (a ∷ rules.written_minus n q l ∷ [])) r
    by_part m of_m e =
        right_of bs _ _ r e (subst (λ (s : NumberSort). IsRight bs (node (literal_head op) p (a ∷ rules.written_minus n q l ∷ [])) (a_number s (by_term op m.term (neg_ℤ n)) m.zero)) (sym of_m.sort)
        (right_fixed bs _ sorts.Int (by_term op m.term (neg_ℤ n)) m.zero refl (λ none.
        let d = of_m.part none in
        subst (λ (t : Term). IsNumber bs (node (literal_head op) p (a ∷ rules.written_minus n q l ∷ [])) (fixed sorts.Int) (by_term op t (neg_ℤ n))) (sym d.term)
        (IsNumber.by_negative op n p q l (h.number d.kind d.is) fits negative can d.takes))))

by_written_right : (bs : List RawBound) (op : ByLiteral) (p : ℕ) (a b : RawExpr) (x : ANumber) (w : Written) (r : Sorted) → NumberRight bs a x → IsWritten b w → by_written p op x w ≡ Ok r
    → IsRight bs (node (literal_head op) p (a ∷ b ∷ [])) r
unfolding by_written
by_written_right bs op p a b x (Literal n) r h w is =
    let g = provided_ok p (can_stand op n) (by_literal p op x n) r is in
    subst (λ (b : RawExpr). IsRight bs (node (literal_head op) p (a ∷ b ∷ [])) r) (sym w.1) (by_literal_right bs op n p w.0 a x r h w.2 g.0 g.1)
by_written_right bs op p a b x (Negated n) r h w is =
    let f = provided_ok p (can_be_negative op) (provided p (can_stand op n) (by_negative p op x n)) r is in
    let g = provided_ok p (can_stand op n) (by_negative p op x n) r f.1 in
    subst (λ (b : RawExpr). IsRight bs (node (literal_head op) p (a ∷ b ∷ [])) r) (sym w.2) (by_negative_right bs op n p w.0 w.1 a x r h w.3 f.0 g.0 g.1)
by_written_right bs op p a b x Other r h w is = absurd cc

by_right : (bs : List RawBound) (op : ByLiteral) (p : ℕ) (a b : RawExpr) (s : Sorted) (w : Written) (r : Sorted) → IsRight bs a s → IsWritten b w → by_node p op s w ≡ Ok r
    → IsRight bs (node (literal_head op) p (a ∷ b ∷ [])) r
unfolding by_node
by_right bs op p a b (Number x) w r h k is = by_written_right bs op p a b x w r h k is
by_right bs op p a b (Truth x) w r h k is = absurd cc
by_right bs op p a b (Statement x) w r h k is = absurd cc

two_right : (bs : List RawBound) (h : Head) (p : ℕ) (a b : RawExpr) (r : Sorted) → Right bs a → Right bs b → two_operands bs p h (node_of a) (node_of b) ≡ Ok r → IsRight bs (node h p (a ∷ b ∷ [])) r
unfolding binary_at two_operands both_operands left_operand
two_right bs h p a b r of_a of_b is =
    elim (choice_ok (by_literal_of h) (λ op. (node_of a).sorted bs >>= λ s. by_node p op s (node_of b).written) ((node_of a).sorted bs >>= λ s. (node_of b).sorted bs >>= λ t. binary_at p h s t) r is) [
      | inl k ↦
          let g = bind_ok ((node_of a).sorted bs) (λ s. by_node p k.0 s (node_of b).written) r k.2 in
          subst (λ (h : Head). IsRight bs (node h p (a ∷ b ∷ [])) r) (sym (literal_is h k.0 k.1))
          (by_right bs k.0 p a b g.0 (node_of b).written r (of_a.sorted g.0 g.1) (of_b.written (node_of b).written refl) g.2)
      | inr k ↦
          let f = bind_ok ((node_of a).sorted bs) (λ s. (node_of b).sorted bs >>= λ t. binary_at p h s t) r k.1 in
          let g = bind_ok ((node_of b).sorted bs) (λ t. binary_at p h f.0 t) r f.2 in
          let o = given_bound p (binary_of h) (λ op. binary_node p op f.0 g.0) r g.2 in
          subst (λ (h : Head). IsRight bs (node h p (a ∷ b ∷ [])) r) (sym (binary_is h o.0 o.1))
          (binary_right bs o.0 p a b f.0 g.0 r (of_a.sorted f.0 f.1) (of_b.sorted g.0 g.1) o.2)
    ]

-- ---- chains

chain_number : (bs : List RawBound) (d e : Cmp) (p : ℕ) (a b c : RawExpr) (x y z : ANumber) (n : Triple) → IsChain (chain_head d e) (d, e)
    → NumberRight bs a x → NumberRight bs b y → NumberRight bs c z → Three x y z n
    → IsStatement bs (node (chain_head d e) p (a ∷ b ∷ c ∷ [])) (formulas.Chain n.left d n.middle e n.right)
chain_number bs d e p a b c x y z n is h i j t =
    let u : Term = within t.whole t.left x.term in
    let v : Term = within t.whole t.middle y.term in
    let w : Term = within t.whole t.right z.term in
    let f_is : formulas.Chain u d v e w ≡ formulas.Chain n.left d n.middle e n.right =
    ap (λ u. formulas.Chain u d v e w) (sym t.left_term) ∙ ap (λ v. formulas.Chain n.left d v e w) (sym t.middle_term) ∙ ap (λ w. formulas.Chain n.left d n.middle e w) (sym t.right_term) in
    subst (λ (f : Formula). IsStatement bs (node (chain_head d e) p (a ∷ b ∷ c ∷ [])) f) f_is
    (IsStatement.chain d e p is.first_makes is.second_makes (h.number t.left t.left_is) (i.number t.middle t.middle_is) (j.number t.right t.right_is) t.join_two t.join)

chain_right : (bs : List RawBound) (h : Head) (o : Cmp × Cmp) (p : ℕ) (a b c : RawExpr) (s t u r : Sorted) → IsChain h o → IsRight bs a s → IsRight bs b t → IsRight bs c u → chain_node p o s t u ≡ Ok r
    → IsRight bs (node h p (a ∷ b ∷ c ∷ [])) r
unfolding chain_node chain
chain_right bs h o p a b c (Number x) (Number y) (Number z) r of_h i j k is =
    let g = bind_ok (all_joined p x y z) (λ n. Ok (a_statement (formulas.Chain n.left o.0 n.middle o.1 n.right) n.zero)) r is in
    let n : Triple = g.0 in
    subst (λ (h : Head). IsRight bs (node h p (a ∷ b ∷ c ∷ [])) r) (sym of_h.head)
    (right_of bs _ (a_statement (formulas.Chain n.left o.0 n.middle o.1 n.right) n.zero) r g.2 (λ none.
    chain_number bs o.0 o.1 p a b c x y z n (record { head = refl; first_makes = of_h.first_makes; second_makes = of_h.second_makes }) i j k
    (all_joined_found p x y z n i.numeric j.numeric k.numeric g.1 none)))
chain_right bs h o p a b c (Number x) (Number y) (Truth z) r of_h i j k is = absurd cc
chain_right bs h o p a b c (Number x) (Number y) (Statement z) r of_h i j k is = absurd cc
chain_right bs h o p a b c (Number x) (Truth y) u r of_h i j k is = absurd cc
chain_right bs h o p a b c (Number x) (Statement y) u r of_h i j k is = absurd cc
chain_right bs h o p a b c (Truth x) t u r of_h i j k is = absurd cc
chain_right bs h o p a b c (Statement x) t u r of_h i j k is = absurd cc

three_right : (bs : List RawBound) (h : Head) (p : ℕ) (a b c : RawExpr) (r : Sorted) → Right bs a → Right bs b → Right bs c
    → three_operands bs p h (node_of a) (node_of b) (node_of c) ≡ Ok r → IsRight bs (node h p (a ∷ b ∷ c ∷ [])) r
unfolding chain_at three_operands
three_right bs h p a b c r of_a of_b of_c is =
    let e = bind_ok ((node_of a).sorted bs) (λ s. (node_of b).sorted bs >>= λ t. (node_of c).sorted bs >>= λ u. chain_at p h s t u) r is in
    let f = bind_ok ((node_of b).sorted bs) (λ t. (node_of c).sorted bs >>= λ u. chain_at p h e.0 t u) r e.2 in
    let g = bind_ok ((node_of c).sorted bs) (λ u. chain_at p h e.0 f.0 u) r f.2 in
    let o = given_bound p (chain_of h) (λ op. chain_node p op e.0 f.0 g.0) r g.2 in
    chain_right bs h o.0 p a b c e.0 f.0 g.0 r (chain_is h o.0 o.1) (of_a.sorted e.0 e.1) (of_b.sorted f.0 f.1) (of_c.sorted g.0 g.1) o.2

-- ---- what is written

other_written : (e : RawExpr) (w : Written) → Other ≡ w → IsWritten e w
other_written e w h = subst (λ (w : Written). IsWritten e w) h tt

leaf_written : (h : Head) (p : ℕ) (w : Written) → head_fits h ≡ true → written_level h [] ≡ w → IsWritten (node h p []) w
leaf_written (heads.Lit n) p w fits is = subst (λ (w : Written). IsWritten (node (heads.Lit n) p []) w) is (p, refl, fits)
leaf_written (heads.Name x) p w fits is = other_written _ w is
leaf_written (heads.Prefix n) p w fits is = other_written _ w is
leaf_written (heads.Infix n) p w fits is = other_written _ w is
leaf_written (heads.Apply n) p w fits is = other_written _ w is
leaf_written (heads.Chain m n) p w fits is = other_written _ w is

minus_written : (n p : ℕ) (a : RawExpr) (v w : Written) → IsWritten a v → written_minus n v ≡ w → IsWritten (node (heads.Prefix n) p (a ∷ [])) w
minus_written n p a (Literal k) w h is = by_test (n == sign_number signs.Minus) refl is
  where
    negated : n ≡ sign_number signs.Minus → IsWritten (node (heads.Prefix n) p (a ∷ [])) (Negated k)
    negated e = (p, h.0, ap (λ n. node (heads.Prefix n) p (a ∷ [])) e ∙ ap (λ a. node (heads.Prefix (sign_number signs.Minus)) p (a ∷ [])) h.1, h.2)

    by_test : (b : Bool) → (n == sign_number signs.Minus) ≡ b → (if b then Negated k else Other) ≡ w → IsWritten (node (heads.Prefix n) p (a ∷ [])) w
    by_test true e is = subst (λ (w : Written). IsWritten (node (heads.Prefix n) p (a ∷ [])) w) is (negated (eqb-true n (sign_number signs.Minus) e))
    by_test false e is = other_written _ w is
minus_written n p a (Negated k) w h is = other_written _ w is
minus_written n p a Other w h is = other_written _ w is

one_written : (h : Head) (p : ℕ) (a : RawExpr) (v w : Written) → IsWritten a v → written_level h (v ∷ []) ≡ w → IsWritten (node h p (a ∷ [])) w
one_written (heads.Prefix n) p a v w of_a is = minus_written n p a v w of_a is
one_written (heads.Lit n) p a v w of_a is = other_written _ w is
one_written (heads.Name x) p a v w of_a is = other_written _ w is
one_written (heads.Infix n) p a v w of_a is = other_written _ w is
one_written (heads.Apply n) p a v w of_a is = other_written _ w is
one_written (heads.Chain m n) p a v w of_a is = other_written _ w is

more_written : (h : Head) (u v : Written) (ws : List Written) (e : RawExpr) (w : Written) → written_level h (u ∷ v ∷ ws) ≡ w → IsWritten e w
more_written (heads.Prefix n) u v ws e w is = other_written e w is
more_written (heads.Lit n) u v ws e w is = other_written e w is
more_written (heads.Name x) u v ws e w is = other_written e w is
more_written (heads.Infix n) u v ws e w is = other_written e w is
more_written (heads.Apply n) u v ws e w is = other_written e w is
more_written (heads.Chain m n) u v ws e w is = other_written e w is

-- ---- all nodes

-- the literals of a node fit where its own does and those of its parts do
node_fits : (h : Head) (p : ℕ) (parts : List RawExpr) → literals_fit (node h p parts) ≡ true → (head_fits h ≡ true) × (all_true (map literals_fit parts) ≡ true)
node_fits h p parts fits =
    and_parts (head_fits h) (all_true (map literals_fit parts)) (sym (fold-roll-RawExpr Bool literals_level (record { head = h; at = p; parts = parts })) ∙ fits)

-- what is right on one level
node_right : (bs : List RawBound) (h : Head) (p : ℕ) (parts : List RawExpr)
    → ((r : Sorted) → sorted_level bs p h (map node_of parts) ≡ Ok r → IsRight bs (node h p parts) r)
    → ((w : Written) → written_level h (map (λ (n : Node). n.written) (map node_of parts)) ≡ w → IsWritten (node h p parts) w)
    → Right bs (node h p parts)
node_right bs h p parts s w = record {
  sorted = λ r is. s r (sym (node_sorted bs h p parts) ∙ is);
  written = λ v is. w v (sym (node_written h p parts) ∙ is);
}

abbrev Known : List RawBound → Type 0
Known bs = (e : RawExpr) × Claim bs e

exprs : (bs : List RawBound) → List (Known bs) → List RawExpr
exprs bs parts = map (λ (e : Known bs). e.0) parts

level_right : (bs : List RawBound) (h : Head) (p : ℕ) (parts : List (Known bs)) → Claim bs (node h p (exprs bs parts))
unfolding exprs one_operand
level_right bs h p [] fits =
    let f = node_fits h p [] fits in
    node_right bs h p [] (λ r is. leaf_right bs h p r f.0 is) (λ w is. leaf_written h p w f.0 is)
level_right bs h p (a ∷ []) fits =
    let f = node_fits h p (a.0 ∷ []) fits in
    let of_a = a.1 (and_parts (literals_fit a.0) true f.1).0 in
    node_right bs h p (a.0 ∷ [])
    (λ r is. let g = bind_ok ((node_of a.0).sorted bs) (λ s. unary_at p h s) r is in one_right bs h p a.0 g.0 r (of_a.sorted g.0 g.1) g.2)
    (λ w is. one_written h p a.0 (node_of a.0).written w (of_a.written (node_of a.0).written refl) is)
level_right bs h p (a ∷ b ∷ []) fits =
    let f = node_fits h p (a.0 ∷ b.0 ∷ []) fits in
    let g = and_parts (literals_fit a.0) (literals_fit b.0 && true) f.1 in
    let i = and_parts (literals_fit b.0) true g.1 in
    node_right bs h p (a.0 ∷ b.0 ∷ [])
    (λ r is. two_right bs h p a.0 b.0 r (a.1 g.0) (b.1 i.0) is)
    (λ w is. more_written h (node_of a.0).written (node_of b.0).written [] _ w is)
level_right bs h p (a ∷ b ∷ c ∷ []) fits =
    let f = node_fits h p (a.0 ∷ b.0 ∷ c.0 ∷ []) fits in
    let g = and_parts (literals_fit a.0) (literals_fit b.0 && (literals_fit c.0 && true)) f.1 in
    let i = and_parts (literals_fit b.0) (literals_fit c.0 && true) g.1 in
    let j = and_parts (literals_fit c.0) true i.1 in
    node_right bs h p (a.0 ∷ b.0 ∷ c.0 ∷ [])
    (λ r is. three_right bs h p a.0 b.0 c.0 r (a.1 g.0) (b.1 i.0) (c.1 j.0) is)
    (λ w is. more_written h (node_of a.0).written (node_of b.0).written ((node_of c.0).written ∷ []) _ w is)
level_right bs h p (a ∷ b ∷ c ∷ d ∷ parts) fits =
    node_right bs h p (a.0 ∷ b.0 ∷ c.0 ∷ d.0 ∷ exprs bs parts)
    (λ r is. absurd cc)
    (λ w is. more_written h (node_of a.0).written (node_of b.0).written (map (λ (n : Node). n.written) (map node_of (c.0 ∷ d.0 ∷ exprs bs parts))) _ w is)

-- what sorting gives of an expression is right
pub right : (bs : List RawBound) (e : RawExpr) → Claim bs e
unfolding exprs
right bs = ind-RawExpr (Claim bs) (λ d y q. subst (λ (z : RawExpr-F RawExpr). Claim bs (roll-RawExpr z)) q (step y))
  where
    step : (y : RawExpr-F (Known bs)) → Claim bs (roll-RawExpr (map-RawExpr (Known bs) RawExpr (λ p. p.0) y))
    step y = level_right bs y.head y.at y.parts

-- ---- goals

statement_found : (p : ℕ) (s : Sorted) (f : AStatement) → statement_of p s ≡ Ok f → s ≡ Statement f
statement_found p (Statement g) f h = ap Statement (ok_is g f h)
statement_found p (Number a) f h = absurd cc
statement_found p (Truth b) f h = absurd cc

body_right : (raw : RawGoal) (f : AStatement) → literals_fit raw.body ≡ true → body_of raw ≡ Ok f → f.zero ≡ None → IsStatement raw.bound raw.body f.formula
unfolding body_of
body_right raw f fits is none =
    let g = bind_ok ((node_of raw.body).sorted raw.bound) (λ s. statement_of (node_of raw.body).place s) f is in
    (right raw.bound raw.body fits).sorted (Statement f) (g.1 ∙ ap (λ (s : Sorted). Ok s) (statement_found (node_of raw.body).place g.0 f g.2)) none

pub found : (raw : RawGoal) (goal : Goal) → literals_fit raw.body ≡ true → sorting raw ≡ Ok goal → IsSorted raw goal
unfolding with_body
found raw goal fits is =
    let e = unless_ok (second_binding [] raw.bound) (body_of raw >>= λ f. with_body raw f) goal is in
    let g = bind_ok (body_of raw) (λ f. with_body raw f) goal e.1 in
    let h = unless_ok g.0.zero (Ok (goal_of raw g.0)) goal g.2 in
    subst (λ (goal : Goal). IsSorted raw goal) (ok_is (goal_of raw g.0) goal h.1) (record {
      mode = refl;
      vars = refl;
      names = all_differ [] raw.bound tt e.0;
      body = body_right raw g.0 fits g.1 h.0;
    })
