-- The printed text of a sorted body reads back as the same formula.
use Rattle.std.proofs.Common.{◌≡◌, ℕ, true, List, [], Some, refl, ap, ◌∙◌}
use Rattle.std.specs.Prelude.{neg_ℤ, map}
use Rattle.std.specs.List.{AllByRecursion}
use Rattle.goal_ast.specs.declared.term.Sort.{Sort}
use Rattle.goal_ast.specs.declared.term.Sort.TheVariants as sorts
use Rattle.goal_ast.specs.declared.term.Term.{Term}
use Rattle.goal_ast.specs.declared.formula.Cmp.{Cmp}
use Rattle.goal_ast.specs.declared.formula.Cmp.TheVariants as cmps
use Rattle.goal_ast.specs.declared.formula.BCmp.{BCmp}
use Rattle.goal_ast.specs.declared.formula.BCmp.TheVariants as tests
use Rattle.goal_ast.specs.declared.formula.BTerm.{BTerm}
use Rattle.goal_ast.specs.declared.formula.Formula.{Formula}
use Rattle.goal_ast.specs.declared.goal.Name.{Name}
use Rattle.goal_ast.specs.declared.goal.Bound.{Bound}
use Rattle.goal_ast.specs.Sorted.{argument_1, sort_2, makes_chain}
use Rattle.goal_token.specs.declared.token.Constant.TheVariants as constants
use Rattle.goal_token.specs.declared.token.Function.TheVariants as functions
use Rattle.goal_token.specs.declared.token.Sign.TheVariants as signs
use Rattle.goal_token.specs.Spelling.{cmp_sign, test_sign}
use Rattle.goal_token.specs.Spacing.{IsName}
use Rattle.goal_sort.specs.declared.raw.Head.TheVariants as heads
use Rattle.goal_sort.specs.declared.raw.RawBound.{RawBound}
use Rattle.goal_sort.specs.declared.raw.RawExpr.{RawExpr}
use Rattle.goal_sort.specs.declared.operator.Arithmetic.TheVariants as arithmetics
use Rattle.goal_sort.specs.declared.operator.ByLiteral.TheVariants as literals
use Rattle.goal_sort.specs.declared.operator.BoolOperator.TheVariants as operators
use Rattle.goal_sort.specs.declared.operator.Connective.TheVariants as connectives
use Rattle.goal_sort.specs.Kinds.{Kind, fixed, within, difference_on}
use Rattle.goal_sort.specs.Sorting.{bound_from, variable_of}
use Rattle.goal_sort.specs.IsSorted.{IsNumber, IsTruth, IsStatement, node}
use Rattle.goal_text.specs.declared.precedence.Levels.{Levels}
use Rattle.goal_text.specs.Levels.{infix_levels, can_chain}
use Rattle.goal_print.specs.Parts.{leaf}
use Rattle.goal_print.specs.Text.{name_of, term_part, bool_part, formula_part}
use Rattle.goal_print.proofs.PieceLaws.{ReadBack, Printed, same_part, part_back}
use Rattle.goal_print.proofs.ShapeLaws.{print_name, print_word, print_literal, print_minus, print_not, print_joined, print_by_literal, print_by_negative, print_chained, print_applied, print_applied_to_two}
use Rattle.goal_print.proofs.FoldLaws.{term_lit, term_var, term_neg, term_add, term_sub, term_mul, term_pow, term_div, term_rem, term_call1, term_call2, part_within}
use Rattle.goal_print.proofs.FoldLaws.{bool_true, bool_false, bool_var, bool_test, bool_not, bool_and, bool_or, bool_call}
use Rattle.goal_print.proofs.FoldLaws.{formula_true, formula_false, formula_atom, formula_chain, formula_same, formula_differ, formula_not, formula_and, formula_or, formula_imp, formula_iff}
use Rattle.goal_print.proofs.BoundLaws.{SameNames, bound_same, bound_text}

-- ---- levels

abbrev levels : ℕ → ℕ → ℕ → Levels
levels left level right = record { level = level; left = left; right = right }

cmp_levels : (c : Cmp) → infix_levels (cmp_sign c) ≡ Some (levels 69 70 69)
cmp_levels cmps.Eq = refl
cmp_levels cmps.Ne = refl
cmp_levels cmps.Lt = refl
cmp_levels cmps.Le = refl
cmp_levels cmps.Gt = refl
cmp_levels cmps.Ge = refl

test_levels : (c : BCmp) → infix_levels (test_sign c) ≡ Some (levels 69 70 69)
test_levels tests.Eq = refl
test_levels tests.Lt = refl
test_levels tests.Le = refl
test_levels tests.Gt = refl
test_levels tests.Ge = refl

cmp_chains : (c : Cmp) → makes_chain c ≡ true → can_chain (cmp_sign c) ≡ true
cmp_chains cmps.Lt e = refl
cmp_chains cmps.Le e = refl
cmp_chains cmps.Eq e = absurd cc
cmp_chains cmps.Ne e = absurd cc
cmp_chains cmps.Gt e = absurd cc
cmp_chains cmps.Ge e = absurd cc

-- ---- numbers

-- a variable stands as its name
variable_printed : {e : RawExpr} {IsIt : RawExpr → Type 0} (bs cs : List RawBound) (x : Name) (v : ℕ) (s : Sort) → SameNames bs cs → bound_from 0 x bs ≡ Some (v, s) → ((p : ℕ) → IsIt (node (heads.Name x) p []))
    → Printed (leaf (name_of (map variable_of bs) v)) e IsIt
variable_printed {e} {IsIt} bs cs x v s names is holds =
    let found = bound_text v s x bs cs names is in
    same_part (ap (λ (t : List ℕ). leaf t) found.0) (print_name x found.1 holds)

-- a number in another, by its own text
in_kind : {e : RawExpr} {IsIt : RawExpr → Type 0} (vars : List Bound) (m k : Kind) (t : Term) → Printed (term_part vars t) e IsIt → Printed (term_part vars (within m k t)) e IsIt
in_kind {e} {IsIt} vars m k t printed = same_part (part_within vars m k t) printed

pub number_printed : {bs : List RawBound} {e : RawExpr} {k : Kind} {t : Term} (cs : List RawBound) → SameNames bs cs → IsNumber bs e k t → Printed (term_part (map variable_of bs) t) e (λ (d : RawExpr). IsNumber cs d k t)
number_printed {bs} cs names (IsNumber.literal n p fits) = same_part (term_lit (map variable_of bs) n) (print_literal n fits (λ q. IsNumber.literal n q fits))
number_printed {bs} cs names (IsNumber.variable x p v s free is number) =
    same_part (term_var (map variable_of bs) v) (variable_printed bs cs x v s names is (λ q. IsNumber.variable x q v s free (bound_same x bs cs names ∙ is) number))
number_printed {bs} cs names (IsNumber.arithmetic {a} {b} {k} {l} {m} {t} {u} arithmetics.Sum p x y is) =
    let vars = map variable_of bs in
    same_part (term_add vars (within m k t) (within m l u))
    (print_joined signs.Plus (levels 50 50 49) refl refl p (in_kind vars m k t (number_printed cs names x)) (in_kind vars m l u (number_printed cs names y)) (λ d e q i j. IsNumber.arithmetic arithmetics.Sum q i j is))
number_printed {bs} cs names (IsNumber.arithmetic {a} {b} {k} {l} {m} {t} {u} arithmetics.Difference p x y is) =
    let vars = map variable_of bs in
    same_part (term_sub vars (difference_on m) (within m k t) (within m l u))
    (print_joined signs.Minus (levels 50 50 49) refl refl p (in_kind vars m k t (number_printed cs names x)) (in_kind vars m l u (number_printed cs names y)) (λ d e q i j. IsNumber.arithmetic arithmetics.Difference q i j is))
number_printed {bs} cs names (IsNumber.arithmetic {a} {b} {k} {l} {m} {t} {u} arithmetics.Product p x y is) =
    let vars = map variable_of bs in
    same_part (term_mul vars (within m k t) (within m l u))
    (print_joined signs.Times (levels 40 40 39) refl refl p (in_kind vars m k t (number_printed cs names x)) (in_kind vars m l u (number_printed cs names y)) (λ d e q i j. IsNumber.arithmetic arithmetics.Product q i j is))
number_printed {bs} cs names (IsNumber.opposite {a} {k} {t} p x is) =
    let vars = map variable_of bs in
    same_part (term_neg vars (within (fixed sorts.Int) k t)) (print_minus p (in_kind vars (fixed sorts.Int) k t (number_printed cs names x)) (λ d q i. IsNumber.opposite q i is))
number_printed {bs} cs names (IsNumber.call_1 {a} {k} {t} f p x is) =
    let vars = map variable_of bs in
    same_part (term_call1 vars f (within (fixed (argument_1 f)) k t)) (print_applied (functions.One f) refl p (in_kind vars (fixed (argument_1 f)) k t (number_printed cs names x)) (λ d q i. IsNumber.call_1 f q i is))
number_printed {bs} cs names (IsNumber.call_2 {a} {b} {k} {l} {t} {u} f p x y is_left is_right) =
    let vars = map variable_of bs in
    let s = fixed (sort_2 f) in
    same_part (term_call2 vars f (within s k t) (within s l u))
    (print_applied_to_two (functions.Two f) refl p (in_kind vars s k t (number_printed cs names x)) (in_kind vars s l u (number_printed cs names y)) (λ d e q i j. IsNumber.call_2 f q i j is_left is_right))
number_printed {bs} cs names (IsNumber.by_literal {a} {k} {m} {t} literals.Power n p q x fits stands is) =
    same_part (term_pow (map variable_of bs) t n) (print_by_literal signs.Power (levels 29 30 30) refl refl n p q fits (number_printed cs names x) (λ d i j h. IsNumber.by_literal literals.Power n i j h fits stands is))
number_printed {bs} cs names (IsNumber.by_literal {a} {k} {m} {t} literals.Quotient n p q x fits stands is) =
    same_part (term_div (map variable_of bs) t n) (print_by_literal signs.Divide (levels 40 40 39) refl refl n p q fits (number_printed cs names x) (λ d i j h. IsNumber.by_literal literals.Quotient n i j h fits stands is))
number_printed {bs} cs names (IsNumber.by_literal {a} {k} {m} {t} literals.Remainder n p q x fits stands is) =
    same_part (term_rem (map variable_of bs) t n) (print_by_literal signs.Mod (levels 39 41 39) refl refl n p q fits (number_printed cs names x) (λ d i j h. IsNumber.by_literal literals.Remainder n i j h fits stands is))
number_printed {bs} cs names (IsNumber.by_negative {a} {k} {t} literals.Power n p q r x fits may stands is) = absurd cc
number_printed {bs} cs names (IsNumber.by_negative {a} {k} {t} literals.Quotient n p q r x fits may stands is) =
    let vars = map variable_of bs in
    same_part (term_div vars (within (fixed sorts.Int) k t) (neg_ℤ n))
    (print_by_negative signs.Divide (levels 40 40 39) refl refl n p q r fits stands (in_kind vars (fixed sorts.Int) k t (number_printed cs names x)) (λ d h i j of. IsNumber.by_negative literals.Quotient n h i j of fits may stands is))
number_printed {bs} cs names (IsNumber.by_negative {a} {k} {t} literals.Remainder n p q r x fits may stands is) =
    let vars = map variable_of bs in
    same_part (term_rem vars (within (fixed sorts.Int) k t) (neg_ℤ n))
    (print_by_negative signs.Mod (levels 39 41 39) refl refl n p q r fits stands (in_kind vars (fixed sorts.Int) k t (number_printed cs names x)) (λ d h i j of. IsNumber.by_negative literals.Remainder n h i j of fits may stands is))

-- ---- bools

pub truth_printed : {bs : List RawBound} {e : RawExpr} {b : BTerm} (cs : List RawBound) → SameNames bs cs → IsTruth bs e b → Printed (bool_part (map variable_of bs) b) e (λ (d : RawExpr). IsTruth cs d b)
truth_printed {bs} cs names (IsTruth.true_word p) = same_part (bool_true (map variable_of bs)) (print_word constants.BoolTrue (λ q. IsTruth.true_word q))
truth_printed {bs} cs names (IsTruth.false_word p) = same_part (bool_false (map variable_of bs)) (print_word constants.BoolFalse (λ q. IsTruth.false_word q))
truth_printed {bs} cs names (IsTruth.variable x p v free is) =
    same_part (bool_var (map variable_of bs) v) (variable_printed bs cs x v sorts.Bool names is (λ q. IsTruth.variable x q v free (bound_same x bs cs names ∙ is)))
truth_printed {bs} cs names (IsTruth.test {a} {b} {k} {l} {m} {t} {u} c p x y is) =
    let vars = map variable_of bs in
    same_part (bool_test vars c (within m k t) (within m l u))
    (print_joined (test_sign c) (levels 69 70 69) (test_levels c) refl p (in_kind vars m k t (number_printed cs names x)) (in_kind vars m l u (number_printed cs names y)) (λ d e q i j. IsTruth.test c q i j is))
truth_printed {bs} cs names (IsTruth.negation {a} {b} p x) = same_part (bool_not (map variable_of bs) b) (print_applied functions.Negb refl p (truth_printed cs names x) (λ d q i. IsTruth.negation q i))
truth_printed {bs} cs names (IsTruth.joined {a} {b} {c} {d} operators.And p x y) =
    same_part (bool_and (map variable_of bs) c d) (print_joined signs.BoolAnd (levels 40 40 39) refl refl p (truth_printed cs names x) (truth_printed cs names y) (λ d e q i j. IsTruth.joined operators.And q i j))
truth_printed {bs} cs names (IsTruth.joined {a} {b} {c} {d} operators.Or p x y) =
    same_part (bool_or (map variable_of bs) c d) (print_joined signs.BoolOr (levels 50 50 49) refl refl p (truth_printed cs names x) (truth_printed cs names y) (λ d e q i j. IsTruth.joined operators.Or q i j))
truth_printed {bs} cs names (IsTruth.joined {a} {b} {c} {d} (operators.Call f) p x y) =
    same_part (bool_call (map variable_of bs) f c d) (print_applied_to_two (functions.Bool f) refl p (truth_printed cs names x) (truth_printed cs names y) (λ d e q i j. IsTruth.joined (operators.Call f) q i j))

-- ---- formulas

pub statement_printed : {bs : List RawBound} {e : RawExpr} {f : Formula} (cs : List RawBound) → SameNames bs cs → IsStatement bs e f → Printed (formula_part (map variable_of bs) f) e (λ (d : RawExpr). IsStatement cs d f)
statement_printed {bs} cs names (IsStatement.true_word p) = same_part (formula_true (map variable_of bs)) (print_word constants.True (λ q. IsStatement.true_word q))
statement_printed {bs} cs names (IsStatement.false_word p) = same_part (formula_false (map variable_of bs)) (print_word constants.False (λ q. IsStatement.false_word q))
statement_printed {bs} cs names (IsStatement.comparison {a} {b} {k} {l} {m} {t} {u} c p x y is) =
    let vars = map variable_of bs in
    same_part (formula_atom vars c (within m k t) (within m l u))
    (print_joined (cmp_sign c) (levels 69 70 69) (cmp_levels c) refl p (in_kind vars m k t (number_printed cs names x)) (in_kind vars m l u (number_printed cs names y)) (λ d e q i j. IsStatement.comparison c q i j is))
statement_printed {bs} cs names (IsStatement.chain {a} {b} {c} {k} {l} {m} {n} {o} {t} {u} {v} d e p d_is e_is x y z is_first is_last) =
    let vars = map variable_of bs in
    same_part (formula_chain vars (within o k t) d (within o l u) e (within o m v))
    (print_chained (cmp_sign d) (cmp_sign e) (cmp_chains d d_is) (cmp_chains e e_is) p (in_kind vars o k t (number_printed cs names x)) (in_kind vars o l u (number_printed cs names y)) (in_kind vars o m v (number_printed cs names z))
    (λ f g h q i j r. IsStatement.chain d e q d_is e_is i j r is_first is_last))
statement_printed {bs} cs names (IsStatement.equal_bools {a} {b} {c} {d} p x y) =
    same_part (formula_same (map variable_of bs) c d) (print_joined signs.Eq (levels 69 70 69) refl refl p (truth_printed cs names x) (truth_printed cs names y) (λ d e q i j. IsStatement.equal_bools q i j))
statement_printed {bs} cs names (IsStatement.different_bools {a} {b} {c} {d} p x y) =
    same_part (formula_differ (map variable_of bs) c d) (print_joined signs.Ne (levels 69 70 69) refl refl p (truth_printed cs names x) (truth_printed cs names y) (λ d e q i j. IsStatement.different_bools q i j))
statement_printed {bs} cs names (IsStatement.negation {a} {f} p x) = same_part (formula_not (map variable_of bs) f) (print_not p (statement_printed cs names x) (λ d q i. IsStatement.negation q i))
statement_printed {bs} cs names (IsStatement.connected {a} {b} {f} {g} connectives.And p x y) =
    same_part (formula_and (map variable_of bs) f g) (print_joined signs.And (levels 79 80 80) refl refl p (statement_printed cs names x) (statement_printed cs names y) (λ d e q i j. IsStatement.connected connectives.And q i j))
statement_printed {bs} cs names (IsStatement.connected {a} {b} {f} {g} connectives.Or p x y) =
    same_part (formula_or (map variable_of bs) f g) (print_joined signs.Or (levels 84 85 85) refl refl p (statement_printed cs names x) (statement_printed cs names y) (λ d e q i j. IsStatement.connected connectives.Or q i j))
statement_printed {bs} cs names (IsStatement.connected {a} {b} {f} {g} connectives.Imp p x y) =
    same_part (formula_imp (map variable_of bs) f g) (print_joined signs.Arrow (levels 98 99 99) refl refl p (statement_printed cs names x) (statement_printed cs names y) (λ d e q i j. IsStatement.connected connectives.Imp q i j))
statement_printed {bs} cs names (IsStatement.connected {a} {b} {f} {g} connectives.Iff p x y) =
    same_part (formula_iff (map variable_of bs) f g) (print_joined signs.Iff (levels 94 95 94) refl refl p (statement_printed cs names x) (statement_printed cs names y) (λ d e q i j. IsStatement.connected connectives.Iff q i j))

-- ---- the body

pub body_read_back : (bs cs : List RawBound) → map variable_of cs ≡ map variable_of bs → AllByRecursion (λ (b : RawBound). IsName b.name.bytes) bs → (e : RawExpr) (f : Formula) → IsStatement bs e f
    → ReadBack 100 (formula_part (map variable_of bs) f).text e (λ (d : RawExpr). IsStatement cs d f)
body_read_back bs cs same named e f is = part_back (statement_printed cs (record { same = same; named = named }) is)
