-- Some alternative of a formula holds exactly where the formula does, and some alternative of its negation exactly where
-- it doesn't.
use Rattle.std.specs.Prelude.{◌≡◌, ℤ, pos, negsuc, neg_ℤ, ◌+ℤ◌, ◌-ℤ◌, int_lt, int_le, List, [], ◌∷◌, ◌++◌, map, Bool, true, false, not, ◌&&◌, ◌||◌, refl}
use Rattle.std.specs.List.{list_any, list_all}
use Rattle.std.specs.Ordering.{int_eq}
use Rattle.std.proofs.Common.{ap, ◌∙◌, sym, subst, arith}
use Rattle.std.proofs.lemmas.Int.{ints}
use Rattle.mm_poly.specs.declared.term.Term.{Term}
use Rattle.mm_poly.specs.Poly.{value, constant_of}
use Rattle.mm_poly.proofs.ValueLaws.{value_plus, value_constant}
use Rattle.mm_poly.proofs.CaseLaws.{by_if}
use Rattle.cert_kit.specs.declared.row.PRow.{PRow}
use Rattle.cert_kit.specs.Row.{row_holds, all_hold}
use Rattle.goal_ast.specs.declared.formula.Cmp.{Cmp}
use Rattle.goal_ast.specs.declared.formula.Cmp.TheVariants as cmps
use Rattle.goal_ast.specs.Truth.{Point, compare, same}
use Rattle.goal_ast.proofs.CountingLaws.{both_same}
use Rattle.zify.specs.declared.form.ZForm.{ZForm}
use Rattle.zify.specs.declared.form.ZForm.TheOpen.{ZForm-F}
use Rattle.zify.specs.declared.form.ZForm.TheViews.{roll-ZForm}
use Rattle.zify.specs.declared.form.ZForm.TheFolds.{map-ZForm, fold-roll-ZForm, ind-ZForm}
use Rattle.zify.specs.declared.goal.ZGoal.{ZGoal}
use Rattle.zify.specs.Truth.{z_truth_level, z_truth_of}
use Rattle.clause_form.specs.Polynomial.{difference, opposite_of, poly_of}
use Rattle.clause_form.specs.Alternatives.{at_least, above, first_positive, equal, comparison, opposite, pairs, Sides, sides_level, sides_of, all_alternatives, alternatives_of}
use Rattle.clause_form.proofs.BoolLaws.{same_tests, and_true, or_false, and_assoc, or_assoc, and_or, or_and, not_and, not_or, not_not, not_implies, both_or_none, one_alone}
use Rattle.clause_form.proofs.PolynomialLaws.{value_opposite, value_difference, poly_agrees}

abbrev pub some_holds : Point → List (List PRow) → Bool
some_holds x lists = list_any (all_hold x) lists

-- ---- lists joined

all_append : (x : Point) (a b : List PRow) → all_hold x (a ++ b) ≡ (all_hold x a && all_hold x b)
all_append x [] b = refl
all_append x (r ∷ a) b = ap (λ t. row_holds x r && t) (all_append x a b) ∙ sym (and_assoc (row_holds x r) (all_hold x a) (all_hold x b))

some_append : (x : Point) (a b : List (List PRow)) → some_holds x (a ++ b) ≡ (some_holds x a || some_holds x b)
some_append x [] b = refl
some_append x (r ∷ a) b = ap (λ t. all_hold x r || t) (some_append x a b) ∙ sym (or_assoc (all_hold x r) (some_holds x a) (some_holds x b))

none_of : (a : Bool) → false ≡ (a && false)
none_of true = refl
none_of false = refl

some_each : (x : Point) (a : List PRow) (bs : List (List PRow)) → some_holds x (map (λ b. a ++ b) bs) ≡ (all_hold x a && some_holds x bs)
some_each x a [] = none_of (all_hold x a)
some_each x a (b ∷ bs) =
    both_same (λ s t. s || t) _ _ _ _ (all_append x a b) (some_each x a bs) ∙ and_or (all_hold x a) (all_hold x b) (some_holds x bs)

some_pairs : (x : Point) (a b : List (List PRow)) → some_holds x (pairs a b) ≡ (some_holds x a && some_holds x b)
some_pairs x [] b = refl
some_pairs x (r ∷ a) b =
    some_append x (map (λ c. r ++ c) b) (pairs a b)
    ∙ both_same (λ s t. s || t) _ _ _ _ (some_each x r b) (some_pairs x a b)
    ∙ or_and (all_hold x r) (some_holds x a) (some_holds x b)

-- ---- comparisons

not_below : (a b : ℤ) → int_le (pos 0) (a -ℤ b) ≡ int_le b a
not_below a b = same_tests _ _ (λ h. grind (arith, ints)) (λ h. grind (arith, ints))

is_above : (a b : ℤ) → int_le (pos 0) ((a -ℤ b) +ℤ negsuc 0) ≡ int_lt b a
is_above a b = same_tests _ _ (λ h. grind (arith, ints)) (λ h. grind (arith, ints))

is_equal : (a b : ℤ) → int_eq (a -ℤ b) (pos 0) ≡ int_eq a b
is_equal a b = same_tests _ _ (λ h. grind (arith, ints)) (λ h. grind (arith, ints))

opposite_zero : (a : ℤ) → int_eq (neg_ℤ a) (pos 0) ≡ int_eq a (pos 0)
opposite_zero a = same_tests _ _ (λ h. grind (arith, ints)) (λ h. grind (arith, ints))

first_positive_zero : (x : Point) (ts : List Term) → int_eq (value x (first_positive ts)) (pos 0) ≡ int_eq (value x ts) (pos 0)
first_positive_zero x [] = refl
first_positive_zero x (t ∷ ts) = by_if (int_lt t.coeff (pos 0)) (opposite_of (t ∷ ts)) (t ∷ ts) (λ (r : List Term). int_eq (value x r) (pos 0) ≡ int_eq (value x (t ∷ ts)) (pos 0))
    (λ h. ap (λ z. int_eq z (pos 0)) (value_opposite x (t ∷ ts)) ∙ opposite_zero (value x (t ∷ ts)))
    (λ h. refl)

at_least_holds : (x : Point) (p q : List Term) → row_holds x (at_least p q) ≡ int_le (value x q) (value x p)
at_least_holds x p q = ap (λ z. int_le (pos 0) z) (value_difference x p q) ∙ not_below (value x p) (value x q)

above_holds : (x : Point) (p q : List Term) → row_holds x (above p q) ≡ int_lt (value x q) (value x p)
above_holds x p q =
    ap (λ z. int_le (pos 0) z)
    (value_plus x (difference p q) (constant_of (negsuc 0)) ∙ both_same (λ a b. a +ℤ b) _ _ _ _ (value_difference x p q) (value_constant x (negsuc 0)))
    ∙ is_above (value x p) (value x q)

equal_holds : (x : Point) (p q : List Term) → row_holds x (equal p q) ≡ int_eq (value x p) (value x q)
equal_holds x p q = first_positive_zero x (difference p q) ∙ ap (λ z. int_eq z (pos 0)) (value_difference x p q) ∙ is_equal (value x p) (value x q)

single : (a : Bool) → ((a && true) || false) ≡ a
single a = or_false (a && true) ∙ and_true a

apart : (a b : ℤ) → (int_lt b a || int_lt a b) ≡ not (int_eq a b)
apart a b = grind (arith, ints)

comparison_holds : (x : Point) (c : Cmp) (p q : List Term) → some_holds x (comparison c p q) ≡ compare c (value x p) (value x q)
comparison_holds x cmps.Eq p q = single _ ∙ equal_holds x p q
comparison_holds x cmps.Ne p q =
    both_same (λ s t. s || t) _ _ _ _ (and_true _ ∙ above_holds x p q) (single _ ∙ above_holds x q p) ∙ apart (value x p) (value x q)
comparison_holds x cmps.Lt p q = single _ ∙ above_holds x q p
comparison_holds x cmps.Le p q = single _ ∙ at_least_holds x q p
comparison_holds x cmps.Gt p q = single _ ∙ above_holds x p q
comparison_holds x cmps.Ge p q = single _ ∙ at_least_holds x p q

lt_le : (a b : ℤ) → int_le b a ≡ not (int_lt a b)
lt_le a b = grind (arith, ints)

le_lt : (a b : ℤ) → int_lt b a ≡ not (int_le a b)
le_lt a b = grind (arith, ints)

opposite_compares : (c : Cmp) (a b : ℤ) → compare (opposite c) a b ≡ not (compare c a b)
opposite_compares cmps.Eq a b = refl
opposite_compares cmps.Ne a b = sym (not_not (int_eq a b))
opposite_compares cmps.Lt a b = lt_le a b
opposite_compares cmps.Le a b = le_lt a b
opposite_compares cmps.Gt a b = lt_le b a
opposite_compares cmps.Ge a b = le_lt b a

-- ---- formulas

-- both sides say what they should
pub record Tells (x : Point) (s : Sides) (b : Bool) : Type 0 where
  pub holds : some_holds x s.holds ≡ b
  pub fails : some_holds x s.fails ≡ not b

abbrev pub FormTells : Point → ZForm → Type 0
FormTells x f = Tells x (sides_of f) (z_truth_of x f)

abbrev KnownForm : Point → Type 0
KnownForm x = (f : ZForm) × FormTells x f

abbrev forms_of : (x : Point) → ZForm-F (KnownForm x) → ZForm-F ZForm
forms_of x y = map-ZForm (KnownForm x) ZForm (λ p. p.0) y

joins : (x : Point) (a b : List (List PRow)) (s t : Bool) → some_holds x a ≡ s → some_holds x b ≡ t → some_holds x (a ++ b) ≡ (s || t)
joins x a b s t e f = some_append x a b ∙ both_same (λ m n. m || n) _ _ _ _ e f

meets : (x : Point) (a b : List (List PRow)) (s t : Bool) → some_holds x a ≡ s → some_holds x b ≡ t → some_holds x (pairs a b) ≡ (s && t)
meets x a b s t e f = some_pairs x a b ∙ both_same (λ m n. m && n) _ _ _ _ e f

negation : (x : Point) (f : Sides) (s : Bool) → Tells x f s → Tells x (record { holds = f.fails; fails = f.holds }) (not s)
negation x f s h = record { holds = h.fails; fails = h.holds ∙ sym (not_not s) }

conjunction : (x : Point) (f g : Sides) (s t : Bool) → Tells x f s → Tells x g t → Tells x (record { holds = pairs f.holds g.holds; fails = f.fails ++ g.fails }) (s && t)
conjunction x f g s t h k = record {
  holds = meets x f.holds g.holds s t h.holds k.holds;
  fails = joins x f.fails g.fails (not s) (not t) h.fails k.fails ∙ not_and s t;
}

disjunction : (x : Point) (f g : Sides) (s t : Bool) → Tells x f s → Tells x g t → Tells x (record { holds = f.holds ++ g.holds; fails = pairs f.fails g.fails }) (s || t)
disjunction x f g s t h k = record {
  holds = joins x f.holds g.holds s t h.holds k.holds;
  fails = meets x f.fails g.fails (not s) (not t) h.fails k.fails ∙ not_or s t;
}

implication : (x : Point) (f g : Sides) (s t : Bool) → Tells x f s → Tells x g t → Tells x (record { holds = f.fails ++ g.holds; fails = pairs f.holds g.fails }) (not s || t)
implication x f g s t h k = record {
  holds = joins x f.fails g.holds (not s) t h.fails k.holds;
  fails = meets x f.holds g.fails s (not t) h.holds k.fails ∙ not_implies s t;
}

equivalence : (x : Point) (f g : Sides) (s t : Bool) → Tells x f s → Tells x g t
    → Tells x (record { holds = pairs f.holds g.holds ++ pairs f.fails g.fails; fails = pairs f.holds g.fails ++ pairs f.fails g.holds }) (same s t)
equivalence x f g s t h k = record {
  holds = joins x (pairs f.holds g.holds) (pairs f.fails g.fails) (s && t) (not s && not t)
      (meets x f.holds g.holds s t h.holds k.holds) (meets x f.fails g.fails (not s) (not t) h.fails k.fails) ∙ both_or_none s t;
  fails = joins x (pairs f.holds g.fails) (pairs f.fails g.holds) (s && not t) (not s && t)
      (meets x f.holds g.fails s (not t) h.holds k.fails) (meets x f.fails g.holds (not s) t h.fails k.holds) ∙ one_alone s t;
}

form_step : (x : Point) (y : ZForm-F (KnownForm x))
    → Tells x (sides_level (map-ZForm ZForm Sides sides_of (forms_of x y))) (z_truth_level x (map-ZForm ZForm Bool (z_truth_of x) (forms_of x y)))
form_step x ZForm-F.True = record { holds = refl; fails = refl }
form_step x ZForm-F.False = record { holds = refl; fails = refl }
form_step x (ZForm-F.Atom c t u) =
    let e = both_same (compare c) _ _ _ _ (poly_agrees x t) (poly_agrees x u) in
    record {
      holds = comparison_holds x c (poly_of t) (poly_of u) ∙ e;
      fails = comparison_holds x (opposite c) (poly_of t) (poly_of u) ∙ opposite_compares c (value x (poly_of t)) (value x (poly_of u)) ∙ ap not e;
    }
form_step x (ZForm-F.Not f) = negation x _ _ f.1
form_step x (ZForm-F.And f g) = conjunction x _ _ _ _ f.1 g.1
form_step x (ZForm-F.Or f g) = disjunction x _ _ _ _ f.1 g.1
form_step x (ZForm-F.Imp f g) = implication x _ _ _ _ f.1 g.1
form_step x (ZForm-F.Iff f g) = equivalence x _ _ _ _ f.1 g.1

moved : (x : Point) (s t : Sides) (b c : Bool) → s ≡ t → b ≡ c → Tells x t c → Tells x s b
moved x s t b c e d h = record {
  holds = ap (λ (k : Sides). some_holds x k.holds) e ∙ h.holds ∙ sym d;
  fails = ap (λ (k : Sides). some_holds x k.fails) e ∙ h.fails ∙ ap not (sym d);
}

pub form_tells : (x : Point) (f : ZForm) → FormTells x f
form_tells x = ind-ZForm (FormTells x) (λ d y q. subst (λ (z : ZForm-F ZForm). FormTells x (roll-ZForm z)) q (step y))
  where
    step : (y : ZForm-F (KnownForm x)) → FormTells x (roll-ZForm (forms_of x y))
    step y = moved x _ _ _ _ (fold-roll-ZForm Sides sides_level (forms_of x y)) (fold-roll-ZForm Bool (z_truth_level x) (forms_of x y)) (form_step x y)

-- ---- goals

all_tell : (x : Point) (hs : List ZForm) (last : List (List PRow)) (b : Bool) → some_holds x last ≡ b → some_holds x (all_alternatives hs last) ≡ (list_all (z_truth_of x) hs && b)
all_tell x [] last b e = e
all_tell x (h ∷ hs) last b e =
    meets x (sides_of h).holds (all_alternatives hs last) _ _ (form_tells x h).holds (all_tell x hs last b e) ∙ sym (and_assoc (z_truth_of x h) (list_all (z_truth_of x) hs) b)

-- some alternative holds exactly where the hypotheses do and the body doesn't
pub goal_tells : (x : Point) (z : ZGoal) → some_holds x (alternatives_of z) ≡ (list_all (z_truth_of x) z.hyps && not (z_truth_of x z.body))
goal_tells x z = all_tell x z.hyps (sides_of z.body).fails (not (z_truth_of x z.body)) (form_tells x z.body).fails
