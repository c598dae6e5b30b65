-- A number has the sort of its kind, its literals are small, and it has no more nodes than what was read.
use Rattle.std.specs.Prelude.{◌≡◌, ℕ, ◌+◌, ◌≤◌, ℤ, pos, neg_ℤ, List, [], ◌∷◌, map, Bool, true, false, Some, if◌then◌else◌, slice_get, refl}
use Rattle.std.specs.Ordering.{int_eq}
use Rattle.std.specs.Option.{option_map_or}
use Rattle.std.proofs.Common.{suc, ap, ◌∙◌, subst, arith}
use Rattle.std.proofs.lemmas.Int.{ints}
use Rattle.std.proofs.lemmas.Option.{same_Some}
use Rattle.std.proofs.lemmas.Bool.{and_parts, and_from}
use Rattle.goal_ast.specs.declared.term.Sort.{Sort}
use Rattle.goal_ast.specs.declared.term.Sort.TheVariants as sorts
use Rattle.goal_ast.specs.declared.term.Fn1.{Fn1}
use Rattle.goal_ast.specs.declared.term.Fn2.{Fn2}
use Rattle.goal_ast.specs.declared.term.Term.{Term}
use Rattle.goal_ast.specs.declared.term.Term.TheOpen.{Term-F}
use Rattle.goal_ast.specs.declared.term.Term.TheVariants as terms
use Rattle.goal_ast.specs.declared.term.Term.TheVariants.{rolls-Lit, rolls-Var, rolls-Neg, rolls-Add, rolls-Sub, rolls-Mul, rolls-Pow, rolls-Div, rolls-Rem, rolls-Call1, rolls-Call2}
use Rattle.goal_ast.specs.declared.goal.Name.{Name}
use Rattle.goal_ast.specs.Range.{sorts_of}
use Rattle.goal_ast.specs.Sorted.{is_sort, is_number, is_small, argument_1, result_1, sort_2, variable_has, literals_small, term_nodes}
use Rattle.goal_sort.specs.declared.raw.Head.{Head}
use Rattle.goal_sort.specs.declared.raw.Head.TheVariants as heads
use Rattle.goal_sort.specs.declared.raw.RawBound.{RawBound}
use Rattle.goal_sort.specs.declared.raw.RawExpr.{RawExpr}
use Rattle.goal_sort.specs.declared.raw.RawExpr.TheFolds.{fold-roll-RawExpr}
use Rattle.goal_sort.specs.declared.operator.Arithmetic.{Arithmetic}
use Rattle.goal_sort.specs.declared.operator.Arithmetic.TheVariants as arithmetics
use Rattle.goal_sort.specs.declared.operator.ByLiteral.{ByLiteral}
use Rattle.goal_sort.specs.declared.operator.ByLiteral.TheVariants as literals
use Rattle.goal_sort.specs.SortedNumbers.{by_term, can_stand, can_be_negative}
use Rattle.goal_sort.specs.Sorting.{same_name, bound_from, variable_of, all_nodes, nodes_level, raw_nodes}
use Rattle.goal_sort.specs.Kinds.{Kind, free, fixed, together, within, by_kind, arithmetic_of}
use Rattle.goal_sort.specs.IsSorted.{node, written, written_minus, literal_fits, IsNumber}
use Rattle.goal_sort.proofs.TermLaws.{term_sort, term_small, term_size, keeps}
use Rattle.goal_sort.proofs.TakingLaws.{KindFits, Goes, both_go, within_fits, literal_number, arithmetic_number, by_number, by_negative_number, opposite_number, call_1_number, call_2_number, same_sort}

-- ---- the sorts of bound names

abbrev pub sorts_in : List RawBound → List Sort
sorts_in bs = sorts_of (map variable_of bs)

-- a variable counted from here is at its place in the list
abbrev IsAt : ℕ → List RawBound → (ℕ × Sort) → Type 0
IsAt i bs v = (k : ℕ) × (v.0 ≡ i + k) × (slice_get (sorts_in bs) k ≡ Some v.1)

later : (i : ℕ) (b : RawBound) (bs : List RawBound) (v : ℕ × Sort) → IsAt (i + 1) bs v → IsAt i (b ∷ bs) v
later i b bs v p = (suc p.0, omega (arith, p.1), p.2)

bound_at : (i : ℕ) (x : Name) (bs : List RawBound) (v : ℕ × Sort) → bound_from i x bs ≡ Some v → IsAt i bs v
bound_at i x [] v h = absurd (cc)
bound_at i x (b ∷ bs) v h = go (same_name x b.name) h (λ k. later i b bs v (bound_at (i + 1) x bs v k))
  where
    go : (c : Bool) → (if c then Some (i, b.sort) else bound_from (i + 1) x bs) ≡ Some v → (bound_from (i + 1) x bs ≡ Some v → IsAt i (b ∷ bs) v) → IsAt i (b ∷ bs) v
    go true h k = subst (IsAt i (b ∷ bs)) (same_Some _ _ h) (0, omega arith, refl)
    go false h k = k h

pub bound_sort : (x : Name) (bs : List RawBound) (v : ℕ) (s : Sort) → bound_from 0 x bs ≡ Some (v, s) → slice_get (sorts_in bs) v ≡ Some s
bound_sort x bs v s h =
    let p = bound_at 0 x bs (v, s) h in
    let e : v ≡ p.0 = omega (arith, p.1) in
    rw e p.2

-- ---- what holds of a number

pub record NumberFits (bs : List RawBound) (e : RawExpr) (k : Kind) (t : Term) : Type 0 where
  pub sort : KindFits (sorts_in bs) k t
  pub small : literals_small t ≡ true
  pub size : term_nodes t ≤ raw_nodes e

-- how many nodes there are with the operands
pub raw_size : (h : Head) (p : ℕ) (parts : List RawExpr) → raw_nodes (node h p parts) ≡ all_nodes (map raw_nodes parts) + 1
raw_size h p parts = fold-roll-RawExpr ℕ nodes_level (record { head = h; at = p; parts = parts })

pub leaf_size : (h : Head) (p : ℕ) → 1 ≤ raw_nodes (node h p [])
leaf_size h p = omega (arith, raw_size h p [])

pub one_size : (h : Head) (p : ℕ) (a : RawExpr) (m : ℕ) → m ≤ raw_nodes a → m + 1 ≤ raw_nodes (node h p (a ∷ []))
one_size h p a m k = omega (arith, raw_size h p (a ∷ []))

pub two_size : (h : Head) (p : ℕ) (a b : RawExpr) (m n : ℕ) → m ≤ raw_nodes a → n ≤ raw_nodes b → (m + n) + 1 ≤ raw_nodes (node h p (a ∷ b ∷ []))
two_size h p a b m n k l = omega (arith, raw_size h p (a ∷ b ∷ []))

first_size : (h : Head) (p : ℕ) (a b : RawExpr) (m : ℕ) → m ≤ raw_nodes a → m + 1 ≤ raw_nodes (node h p (a ∷ b ∷ []))
first_size h p a b m k = omega (arith, raw_size h p (a ∷ b ∷ []))

pub three_size : (h : Head) (p : ℕ) (a b c : RawExpr) (l m n : ℕ) → l ≤ raw_nodes a → m ≤ raw_nodes b → n ≤ raw_nodes c → (l + (m + n)) + 1 ≤ raw_nodes (node h p (a ∷ b ∷ c ∷ []))
three_size h p a b c l m n i j k = omega (arith, raw_size h p (a ∷ b ∷ c ∷ []))

pub within_small : (m k : Kind) (t : Term) → literals_small (within m k t) ≡ literals_small t
within_small (free e y) k t = refl
within_small (fixed s) (free d z) t = (keeps t).small s
within_small (fixed s) (fixed r) t = refl

pub within_size : (m k : Kind) (t : Term) → term_nodes (within m k t) ≡ term_nodes t
within_size (free e y) k t = refl
within_size (fixed s) (free d z) t = (keeps t).nodes s
within_size (fixed s) (fixed r) t = refl

-- ---- each form of a number

literal_holds : (bs : List RawBound) (n : ℤ) (p : ℕ) → literal_fits n → NumberFits bs (written n p) (free false (int_eq n (pos 0))) (terms.Lit n)
literal_holds bs n p h = record {
  sort = literal_number (sorts_in bs) n (and_parts _ _ h).0;
  small = term_small (Term-F.Lit n) (rolls-Lit n) ∙ (and_parts _ _ h).1;
  size = rw (term_size (Term-F.Lit n) (rolls-Lit n)) (leaf_size (heads.Lit n) p);
}

pub has_variable : (vars : List Sort) (v : ℕ) (s : Sort) → slice_get vars v ≡ Some s → variable_has vars v s ≡ true
has_variable vars v s h = ap (λ o. option_map_or (λ (t : Sort). is_sort t s) o false) h ∙ same_sort s

variable_holds : (bs : List RawBound) (x : Name) (p v : ℕ) (s : Sort) → bound_from 0 x bs ≡ Some (v, s) → is_number s ≡ true → NumberFits bs (node (heads.Name x) p []) (fixed s) (terms.Var v)
variable_holds bs x p v s h k = record {
  sort = record { number = k; has = term_sort (Term-F.Var v) (rolls-Var v) (sorts_in bs) s ∙ and_from _ _ k (has_variable (sorts_in bs) v s (bound_sort x bs v s h)) };
  small = term_small (Term-F.Var v) (rolls-Var v);
  size = rw (term_size (Term-F.Var v) (rolls-Var v)) (leaf_size (heads.Name x) p);
}

arithmetic_small : (op : Arithmetic) (k : Kind) (t u : Term) → literals_small t ≡ true → literals_small u ≡ true → literals_small (arithmetic_of op k t u) ≡ true
arithmetic_small arithmetics.Sum k t u h l = term_small (Term-F.Add t u) (rolls-Add t u) ∙ and_from _ _ h l
arithmetic_small arithmetics.Difference (free d z) t u h l = term_small (Term-F.Sub sorts.Int t u) (rolls-Sub sorts.Int t u) ∙ and_from _ _ h l
arithmetic_small arithmetics.Difference (fixed s) t u h l = term_small (Term-F.Sub s t u) (rolls-Sub s t u) ∙ and_from _ _ h l
arithmetic_small arithmetics.Product k t u h l = term_small (Term-F.Mul t u) (rolls-Mul t u) ∙ and_from _ _ h l

arithmetic_size : (op : Arithmetic) (k : Kind) (t u : Term) → term_nodes (arithmetic_of op k t u) ≡ (term_nodes t + term_nodes u) + 1
arithmetic_size arithmetics.Sum k t u = term_size (Term-F.Add t u) (rolls-Add t u)
arithmetic_size arithmetics.Difference (free d z) t u = term_size (Term-F.Sub sorts.Int t u) (rolls-Sub sorts.Int t u)
arithmetic_size arithmetics.Difference (fixed s) t u = term_size (Term-F.Sub s t u) (rolls-Sub s t u)
arithmetic_size arithmetics.Product k t u = term_size (Term-F.Mul t u) (rolls-Mul t u)

-- a number as a part of one of another kind
pub part_holds : (bs : List RawBound) (e : RawExpr) (k m : Kind) (t : Term) → NumberFits bs e k t → Goes k m → NumberFits bs e m (within m k t)
part_holds bs e k m t f g = record {
  sort = within_fits (sorts_in bs) k m t f.sort g;
  small = within_small m k t ∙ f.small;
  size = omega (arith, within_size m k t, f.size);
}

argument_holds : (bs : List RawBound) (e : RawExpr) (s : Sort) (k : Kind) (t : Term) → NumberFits bs e k t → together (fixed s) k ≡ Some (fixed s) → NumberFits bs e (fixed s) (within (fixed s) k t)
argument_holds bs e s k t f h = part_holds bs e k (fixed s) t f (both_go (fixed s) k (fixed s) h).1

arithmetic_holds : (bs : List RawBound) (op : Arithmetic) (h : Head) (p : ℕ) (a b : RawExpr) (m : Kind) (t u : Term) → NumberFits bs a m t → NumberFits bs b m u → NumberFits bs (node h p (a ∷ b ∷ [])) m (arithmetic_of op m t u)
arithmetic_holds bs op h p a b m t u f g = record {
  sort = arithmetic_number (sorts_in bs) op m t u f.sort g.sort;
  small = arithmetic_small op m t u f.small g.small;
  size = rw (arithmetic_size op m t u) (two_size h p a b _ _ f.size g.size);
}

opposite_holds : (bs : List RawBound) (h : Head) (p : ℕ) (a : RawExpr) (t : Term) → NumberFits bs a (fixed sorts.Int) t → NumberFits bs (node h p (a ∷ [])) (fixed sorts.Int) (terms.Neg t)
opposite_holds bs h p a t f = record {
  sort = opposite_number (sorts_in bs) t f.sort;
  small = term_small (Term-F.Neg t) (rolls-Neg t) ∙ f.small;
  size = rw (term_size (Term-F.Neg t) (rolls-Neg t)) (one_size h p a _ f.size);
}

call_1_holds : (bs : List RawBound) (f : Fn1) (h : Head) (p : ℕ) (a : RawExpr) (t : Term) → NumberFits bs a (fixed (argument_1 f)) t → NumberFits bs (node h p (a ∷ [])) (fixed (result_1 f)) (terms.Call1 f t)
call_1_holds bs f h p a t g = record {
  sort = call_1_number (sorts_in bs) f t g.sort;
  small = term_small (Term-F.Call1 f t) (rolls-Call1 f t) ∙ g.small;
  size = rw (term_size (Term-F.Call1 f t) (rolls-Call1 f t)) (one_size h p a _ g.size);
}

call_2_holds : (bs : List RawBound) (f : Fn2) (h : Head) (p : ℕ) (a b : RawExpr) (t u : Term) → NumberFits bs a (fixed (sort_2 f)) t → NumberFits bs b (fixed (sort_2 f)) u → NumberFits bs (node h p (a ∷ b ∷ [])) (fixed (sort_2 f)) (terms.Call2 f t u)
call_2_holds bs f h p a b t u g k = record {
  sort = call_2_number (sorts_in bs) f t u g.sort k.sort;
  small = term_small (Term-F.Call2 f t u) (rolls-Call2 f t u) ∙ and_from _ _ g.small k.small;
  size = rw (term_size (Term-F.Call2 f t u) (rolls-Call2 f t u)) (two_size h p a b _ _ g.size k.size);
}

by_small : (op : ByLiteral) (t : Term) (n : ℤ) → literals_small t ≡ true → is_small n ≡ true → literals_small (by_term op t n) ≡ true
by_small literals.Power t n h k = term_small (Term-F.Pow t n) (rolls-Pow t n) ∙ and_from _ _ h k
by_small literals.Quotient t n h k = term_small (Term-F.Div t n) (rolls-Div t n) ∙ and_from _ _ h k
by_small literals.Remainder t n h k = term_small (Term-F.Rem t n) (rolls-Rem t n) ∙ and_from _ _ h k

by_size : (op : ByLiteral) (t : Term) (n : ℤ) → term_nodes (by_term op t n) ≡ term_nodes t + 1
by_size literals.Power t n = term_size (Term-F.Pow t n) (rolls-Pow t n)
by_size literals.Quotient t n = term_size (Term-F.Div t n) (rolls-Div t n)
by_size literals.Remainder t n = term_size (Term-F.Rem t n) (rolls-Rem t n)

by_holds : (bs : List RawBound) (op : ByLiteral) (h : Head) (p : ℕ) (a b : RawExpr) (k m : Kind) (t : Term) (n : ℤ) → NumberFits bs a k t → literal_fits n → can_stand op n ≡ true → by_kind op k ≡ Some m
    → NumberFits bs (node h p (a ∷ b ∷ [])) m (by_term op t n)
by_holds bs op h p a b k m t n f l c e = record {
  sort = by_number (sorts_in bs) op k m t n f.sort c e;
  small = by_small op t n f.small (and_parts _ _ l).1;
  size = rw (by_size op t n) (first_size h p a b _ f.size);
}

negative_small : (n : ℤ) → is_small n ≡ true → is_small (neg_ℤ n) ≡ true
negative_small n h = grind (arith, ints)

by_negative_holds : (bs : List RawBound) (op : ByLiteral) (h : Head) (p : ℕ) (a b : RawExpr) (t : Term) (n : ℤ) → NumberFits bs a (fixed sorts.Int) t → literal_fits n → can_be_negative op ≡ true → can_stand op n ≡ true
    → NumberFits bs (node h p (a ∷ b ∷ [])) (fixed sorts.Int) (by_term op t (neg_ℤ n))
by_negative_holds bs op h p a b t n f l c d = record {
  sort = by_negative_number (sorts_in bs) op t n f.sort c d;
  small = by_small op t (neg_ℤ n) f.small (negative_small n (and_parts _ _ l).1);
  size = rw (by_size op t (neg_ℤ n)) (first_size h p a b _ f.size);
}

-- ---- each number

pub number_fits : {bs : List RawBound} {e : RawExpr} {k : Kind} {t : Term} → IsNumber bs e k t → NumberFits bs e k t
number_fits {bs} (IsNumber.literal n p h) = literal_holds bs n p h
number_fits {bs} (IsNumber.variable x p v s l h k) = variable_holds bs x p v s h k
number_fits {bs} (IsNumber.arithmetic {a} {b} {k} {l} {m} {t} {u} op p f g h) =
    let q = both_go k l m h in arithmetic_holds bs op _ p a b m _ _ (part_holds bs a k m t (number_fits f) q.0) (part_holds bs b l m u (number_fits g) q.1)
number_fits {bs} (IsNumber.opposite {a} {k} {t} p f h) = opposite_holds bs _ p a _ (argument_holds bs a sorts.Int k t (number_fits f) h)
number_fits {bs} (IsNumber.call_1 {a} {k} {t} f p g h) = call_1_holds bs f _ p a _ (argument_holds bs a (argument_1 f) k t (number_fits g) h)
number_fits {bs} (IsNumber.call_2 {a} {b} {k} {l} {t} {u} f p g h i j) =
    call_2_holds bs f _ p a b _ _ (argument_holds bs a (sort_2 f) k t (number_fits g) i) (argument_holds bs b (sort_2 f) l u (number_fits h) j)
number_fits {bs} (IsNumber.by_literal {a} {k} {m} {t} op n p q f l c h) = by_holds bs op _ p a (written n q) k m t n (number_fits f) l c h
number_fits {bs} (IsNumber.by_negative {a} {k} {t} op n p q r f l c d h) = by_negative_holds bs op _ p a (written_minus n q r) _ n (argument_holds bs a sorts.Int k t (number_fits f) h) l c d
