-- A goal that sorting allows is well formed.
use Rattle.std.specs.Prelude.{◌≡◌, ℕ, ◌≤◌, List, [], ◌∷◌, Bool, true, false, ◌&&◌, ◌||◌, refl}
use Rattle.std.proofs.Common.{ap, sym, ◌∙◌, arith}
use Rattle.std.proofs.lemmas.List.{length-map}
use Rattle.std.proofs.lemmas.Bool.{and_from}
use Rattle.goal_ast.specs.declared.term.Sort.{Sort}
use Rattle.goal_ast.specs.declared.term.Sort.TheVariants as sorts
use Rattle.goal_ast.specs.declared.term.Term.{Term}
use Rattle.goal_ast.specs.declared.formula.Cmp.{Cmp}
use Rattle.goal_ast.specs.declared.formula.BCmp.{BCmp}
use Rattle.goal_ast.specs.declared.formula.BTerm.{BTerm}
use Rattle.goal_ast.specs.declared.formula.BTerm.TheOpen.{BTerm-F}
use Rattle.goal_ast.specs.declared.formula.BTerm.TheViews.{roll-BTerm}
use Rattle.goal_ast.specs.declared.formula.BTerm.TheVariants as bools
use Rattle.goal_ast.specs.declared.formula.BTerm.TheVariants.{rolls-True, rolls-False, rolls-Var, rolls-Test, rolls-Not, rolls-And, rolls-Or, rolls-Call}
use Rattle.goal_ast.specs.declared.formula.BTerm.TheFolds.{map-BTerm, fold-roll-BTerm}
use Rattle.goal_ast.specs.declared.formula.Formula.{Formula}
use Rattle.goal_ast.specs.declared.formula.Formula.TheOpen.{Formula-F}
use Rattle.goal_ast.specs.declared.formula.Formula.TheViews.{roll-Formula}
use Rattle.goal_ast.specs.declared.formula.Formula.TheVariants as formulas
use Rattle.goal_ast.specs.declared.formula.Formula.TheFolds.{map-Formula, fold-roll-Formula}
use Rattle.goal_ast.specs.declared.goal.Goal.{Goal}
use Rattle.goal_ast.specs.Range.{sorts_of}
use Rattle.goal_ast.specs.Sorted.{is_number, Fitting, both_have, compare_well, three_have, chain_well, bool_sort_level, is_bool, makes_chain, formula_sort_level, is_sorted, bool_literal_level, bool_literals_small, formula_literal_level, formula_literals_small, bool_node, bool_nodes, formula_node, formula_nodes, IsWellFormed}
use Rattle.goal_sort.specs.declared.raw.Head.{Head}
use Rattle.goal_sort.specs.declared.raw.RawBound.{RawBound}
use Rattle.goal_sort.specs.declared.raw.RawExpr.{RawExpr}
use Rattle.goal_sort.specs.declared.raw.RawGoal.{RawGoal}
use Rattle.goal_sort.specs.declared.operator.BoolOperator.{BoolOperator}
use Rattle.goal_sort.specs.declared.operator.BoolOperator.TheVariants as operators
use Rattle.goal_sort.specs.declared.operator.Connective.{Connective}
use Rattle.goal_sort.specs.declared.operator.Connective.TheVariants as connectives
use Rattle.goal_sort.specs.SortedNumbers.{bool_term, connected_formula}
use Rattle.goal_sort.specs.Sorting.{raw_nodes, IsReadable}
use Rattle.goal_sort.specs.Kinds.{Kind, free, fixed}
use Rattle.goal_sort.specs.IsSorted.{node, IsTruth, IsStatement, IsSorted}
use Rattle.goal_sort.proofs.TakingLaws.{KindFits, both_go, goes_on}
use Rattle.goal_sort.proofs.NumberLaws.{sorts_in, bound_sort, has_variable, NumberFits, leaf_size, one_size, two_size, three_size, part_holds, number_fits}

-- ---- numbers that are compared

second_of : (a b c d : Bool) → b ≡ true → ((a || b) || (c || d)) ≡ true
second_of true b c d h = refl
second_of false b c d h = rw h refl

third_of : (a b c d : Bool) → c ≡ true → ((a || b) || (c || d)) ≡ true
third_of true b c d h = refl
third_of false true c d h = refl
third_of false false c d h = rw h refl

fourth_of : (a b c d : Bool) → d ≡ true → ((a || b) || (c || d)) ≡ true
fourth_of true b c d h = refl
fourth_of false true c d h = refl
fourth_of false false true d h = refl
fourth_of false false false d h = h

one_of : (has : Sort → Bool) (s : Sort) → is_number s ≡ true → has s ≡ true → ((has sorts.Int || has sorts.Bin) || (has sorts.Nat || has sorts.Pos)) ≡ true
one_of has sorts.Int n h = rw h refl
one_of has sorts.Bin n h = second_of (has sorts.Int) (has sorts.Bin) (has sorts.Nat) (has sorts.Pos) h
one_of has sorts.Nat n h = third_of (has sorts.Int) (has sorts.Bin) (has sorts.Nat) (has sorts.Pos) h
one_of has sorts.Pos n h = fourth_of (has sorts.Int) (has sorts.Bin) (has sorts.Nat) (has sorts.Pos) h
one_of has sorts.Bool n h = absurd (cc)

compares : (vars : List Sort) (k : Kind) (t u : Term) → KindFits vars k t → KindFits vars k u → compare_well t u vars ≡ true
compares vars (free d z) t u f g = one_of (both_have t u vars) sorts.Int refl (and_from _ _ f.plain g.plain)
compares vars (fixed s) t u f g = one_of (both_have t u vars) s f.number (and_from _ _ f.has g.has)

chains : (vars : List Sort) (k : Kind) (t u v : Term) → KindFits vars k t → KindFits vars k u → KindFits vars k v → chain_well t u v vars ≡ true
chains vars (free d z) t u v f g h = one_of (three_have t u v vars) sorts.Int refl (and_from _ _ f.plain (and_from _ _ g.plain h.plain))
chains vars (fixed s) t u v f g h = one_of (three_have t u v vars) s f.number (and_from _ _ f.has (and_from _ _ g.has h.has))

-- ---- bools

pub record TruthFits (bs : List RawBound) (e : RawExpr) (b : BTerm) : Type 0 where
  pub sort : is_bool b (sorts_in bs) ≡ true
  pub small : bool_literals_small b ≡ true
  pub size : bool_nodes b ≤ raw_nodes e

-- a bool that is made of its parts
made_truth : (bs : List RawBound) (e : RawExpr) (y : BTerm-F BTerm) {b : BTerm} → roll-BTerm y ≡ b → bool_sort_level (map-BTerm BTerm Fitting is_bool y) (sorts_in bs) ≡ true
    → bool_literal_level (map-BTerm BTerm Bool bool_literals_small y) ≡ true → bool_node (map-BTerm BTerm ℕ bool_nodes y) ≤ raw_nodes e → TruthFits bs e b
made_truth bs e y r h k l = record {
  sort = ap (λ b. is_bool b (sorts_in bs)) (sym r) ∙ ap (λ f. f (sorts_in bs)) (fold-roll-BTerm Fitting bool_sort_level y) ∙ h;
  small = ap bool_literals_small (sym r) ∙ fold-roll-BTerm Bool bool_literal_level y ∙ k;
  size = let q = ap bool_nodes (sym r) ∙ fold-roll-BTerm ℕ bool_node y in omega (arith, q, l);
}

test_fits : (bs : List RawBound) (c : BCmp) (h : Head) (p : ℕ) (a b : RawExpr) (m : Kind) (t u : Term) → NumberFits bs a m t → NumberFits bs b m u → TruthFits bs (node h p (a ∷ b ∷ [])) (bools.Test c t u)
test_fits bs c h p a b m t u f g = made_truth bs _ (BTerm-F.Test c t u) (rolls-Test c t u) (compares (sorts_in bs) m t u f.sort g.sort) (and_from _ _ f.small g.small) (two_size h p a b _ _ f.size g.size)

joined_fits : (bs : List RawBound) (op : BoolOperator) (h : Head) (p : ℕ) (a b : RawExpr) (c d : BTerm) → TruthFits bs a c → TruthFits bs b d → TruthFits bs (node h p (a ∷ b ∷ [])) (bool_term op c d)
joined_fits bs operators.And h p a b c d f g = made_truth bs _ (BTerm-F.And c d) (rolls-And c d) (and_from _ _ f.sort g.sort) (and_from _ _ f.small g.small) (two_size h p a b _ _ f.size g.size)
joined_fits bs operators.Or h p a b c d f g = made_truth bs _ (BTerm-F.Or c d) (rolls-Or c d) (and_from _ _ f.sort g.sort) (and_from _ _ f.small g.small) (two_size h p a b _ _ f.size g.size)
joined_fits bs (operators.Call o) h p a b c d f g = made_truth bs _ (BTerm-F.Call o c d) (rolls-Call o c d) (and_from _ _ f.sort g.sort) (and_from _ _ f.small g.small) (two_size h p a b _ _ f.size g.size)

pub truth_fits : {bs : List RawBound} {e : RawExpr} {b : BTerm} → IsTruth bs e b → TruthFits bs e b
truth_fits {bs} (IsTruth.true_word p) = made_truth bs _ BTerm-F.True rolls-True refl refl (leaf_size _ p)
truth_fits {bs} (IsTruth.false_word p) = made_truth bs _ BTerm-F.False rolls-False refl refl (leaf_size _ p)
truth_fits {bs} (IsTruth.variable x p v l h) = made_truth bs _ (BTerm-F.Var v) (rolls-Var v) (has_variable (sorts_in bs) v sorts.Bool (bound_sort x bs v sorts.Bool h)) refl (leaf_size _ p)
truth_fits {bs} (IsTruth.test {a} {b} {k} {l} {m} {t} {u} c p f g h) =
    let q = both_go k l m h in test_fits bs c _ p a b m _ _ (part_holds bs a k m t (number_fits f) q.0) (part_holds bs b l m u (number_fits g) q.1)
truth_fits {bs} (IsTruth.negation {a} {b} p f) = let g = truth_fits f in made_truth bs _ (BTerm-F.Not b) (rolls-Not b) g.sort g.small (one_size _ p a _ g.size)
truth_fits {bs} (IsTruth.joined {a} {b} {c} {d} op p f g) = joined_fits bs op _ p a b c d (truth_fits f) (truth_fits g)

-- ---- formulas

pub record StatementFits (bs : List RawBound) (e : RawExpr) (f : Formula) : Type 0 where
  pub sort : is_sorted f (sorts_in bs) ≡ true
  pub small : formula_literals_small f ≡ true
  pub size : formula_nodes f ≤ raw_nodes e

-- a formula that is made of its parts
made_statement : (bs : List RawBound) (e : RawExpr) (y : Formula-F Formula) {f : Formula} → roll-Formula y ≡ f → formula_sort_level (map-Formula Formula Fitting is_sorted y) (sorts_in bs) ≡ true
    → formula_literal_level (map-Formula Formula Bool formula_literals_small y) ≡ true → formula_node (map-Formula Formula ℕ formula_nodes y) ≤ raw_nodes e → StatementFits bs e f
made_statement bs e y r h k l = record {
  sort = ap (λ f. is_sorted f (sorts_in bs)) (sym r) ∙ ap (λ f. f (sorts_in bs)) (fold-roll-Formula Fitting formula_sort_level y) ∙ h;
  small = ap formula_literals_small (sym r) ∙ fold-roll-Formula Bool formula_literal_level y ∙ k;
  size = let q = ap formula_nodes (sym r) ∙ fold-roll-Formula ℕ formula_node y in omega (arith, q, l);
}

comparison_fits : (bs : List RawBound) (c : Cmp) (h : Head) (p : ℕ) (a b : RawExpr) (m : Kind) (t u : Term) → NumberFits bs a m t → NumberFits bs b m u → StatementFits bs (node h p (a ∷ b ∷ [])) (formulas.Atom c t u)
comparison_fits bs c h p a b m t u f g = made_statement bs _ (Formula-F.Atom c t u) (formulas.rolls-Atom c t u) (compares (sorts_in bs) m t u f.sort g.sort) (and_from _ _ f.small g.small) (two_size h p a b _ _ f.size g.size)

chain_fits : (bs : List RawBound) (d e : Cmp) (h : Head) (p : ℕ) (a b c : RawExpr) (m : Kind) (t u v : Term) → (makes_chain d && makes_chain e) ≡ true → NumberFits bs a m t → NumberFits bs b m u → NumberFits bs c m v
    → StatementFits bs (node h p (a ∷ b ∷ c ∷ [])) (formulas.Chain t d u e v)
chain_fits bs d e h p a b c m t u v x i j k =
    made_statement bs _ (Formula-F.Chain t d u e v) (formulas.rolls-Chain t d u e v) (and_from _ _ x (chains (sorts_in bs) m t u v i.sort j.sort k.sort)) (and_from _ _ i.small (and_from _ _ j.small k.small))
    (three_size h p a b c _ _ _ i.size j.size k.size)

connected_fits : (bs : List RawBound) (op : Connective) (h : Head) (p : ℕ) (a b : RawExpr) (c d : Formula) → StatementFits bs a c → StatementFits bs b d → StatementFits bs (node h p (a ∷ b ∷ [])) (connected_formula op c d)
connected_fits bs connectives.And h p a b c d f g = made_statement bs _ (Formula-F.And c d) (formulas.rolls-And c d) (and_from _ _ f.sort g.sort) (and_from _ _ f.small g.small) (two_size h p a b _ _ f.size g.size)
connected_fits bs connectives.Or h p a b c d f g = made_statement bs _ (Formula-F.Or c d) (formulas.rolls-Or c d) (and_from _ _ f.sort g.sort) (and_from _ _ f.small g.small) (two_size h p a b _ _ f.size g.size)
connected_fits bs connectives.Imp h p a b c d f g = made_statement bs _ (Formula-F.Imp c d) (formulas.rolls-Imp c d) (and_from _ _ f.sort g.sort) (and_from _ _ f.small g.small) (two_size h p a b _ _ f.size g.size)
connected_fits bs connectives.Iff h p a b c d f g = made_statement bs _ (Formula-F.Iff c d) (formulas.rolls-Iff c d) (and_from _ _ f.sort g.sort) (and_from _ _ f.small g.small) (two_size h p a b _ _ f.size g.size)

pub statement_fits : {bs : List RawBound} {e : RawExpr} {f : Formula} → IsStatement bs e f → StatementFits bs e f
statement_fits {bs} (IsStatement.true_word p) = made_statement bs _ Formula-F.True formulas.rolls-True refl refl (leaf_size _ p)
statement_fits {bs} (IsStatement.false_word p) = made_statement bs _ Formula-F.False formulas.rolls-False refl refl (leaf_size _ p)
statement_fits {bs} (IsStatement.comparison {a} {b} {k} {l} {m} {t} {u} c p f g h) =
    let q = both_go k l m h in comparison_fits bs c _ p a b m _ _ (part_holds bs a k m t (number_fits f) q.0) (part_holds bs b l m u (number_fits g) q.1)
statement_fits {bs} (IsStatement.chain {a} {b} {c} {k} {l} {m} {n} {o} {t} {u} {v} d e p x y f g h i j) =
    let q = both_go k l n i in
    let r = both_go n m o j in
    chain_fits bs d e _ p a b c o _ _ _ (and_from _ _ x y) (part_holds bs a k o t (number_fits f) (goes_on k n o q.0 r.0)) (part_holds bs b l o u (number_fits g) (goes_on l n o q.1 r.0)) (part_holds bs c m o v (number_fits h) r.1)
statement_fits {bs} (IsStatement.equal_bools {a} {b} {c} {d} p f g) =
    let i = truth_fits f in
    let j = truth_fits g in
    made_statement bs _ (Formula-F.Same c d) (formulas.rolls-Same c d) (and_from _ _ i.sort j.sort) (and_from _ _ i.small j.small) (two_size _ p a b _ _ i.size j.size)
statement_fits {bs} (IsStatement.different_bools {a} {b} {c} {d} p f g) =
    let i = truth_fits f in
    let j = truth_fits g in
    made_statement bs _ (Formula-F.Differ c d) (formulas.rolls-Differ c d) (and_from _ _ i.sort j.sort) (and_from _ _ i.small j.small) (two_size _ p a b _ _ i.size j.size)
statement_fits {bs} (IsStatement.negation {a} {f} p g) = let i = statement_fits g in made_statement bs _ (Formula-F.Not f) (formulas.rolls-Not f) i.sort i.small (one_size _ p a _ i.size)
statement_fits {bs} (IsStatement.connected {a} {b} {f} {g} op p i j) = connected_fits bs op _ p a b f g (statement_fits i) (statement_fits j)

-- ---- goals

pub well_formed : (raw : RawGoal) (goal : Goal) → IsReadable raw → IsSorted raw goal → IsWellFormed goal
well_formed raw goal r s =
    let f = statement_fits s.body in
    record {
      few = rw (s.vars, length-map) r.few;
      names = s.names;
      sorted = ap (λ v. is_sorted goal.body (sorts_of v)) s.vars ∙ f.sort;
      numbers = f.small;
      size = omega (arith, f.size, r.size);
    }
