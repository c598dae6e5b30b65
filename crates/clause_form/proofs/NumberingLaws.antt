-- The variables of a clause are numbered from 0 on, without a gap.
use Rattle.std.specs.Prelude.{◌≡◌, ◌⊎◌, ℕ, zero, suc, ◌+◌, ◌<◌, ◌≤◌, List, [], ◌∷◌, ◌++◌, map, length, Bool, true, false, cond, not, ◌||◌, nat_eq, slice_index_or, refl}
use Rattle.std.specs.List.{AllByRecursion, flat_map, list_any}
use Rattle.std.specs.List.Sorted.{IsStrictlySortedBy}
use Rattle.std.specs.Ordering.{nat_cmp, ordering_then}
use Rattle.std.specs.declared.cmp.Ordering.TheVariants.{Less}
use Rattle.std.specs.Cmp.{nat_cmp_total, tied_itself}
use Rattle.std.specs.Cmp.Lexicographic.{slice_cmp}
use Rattle.std.specs.FinMap.{nat_cmp-IsAntisymmetric}
use Rattle.std.proofs.Common.{ap, ◌∙◌, sym, subst, arith, inl, inr}
use Rattle.std.proofs.lemmas.Bool.{cases_lt}
use Rattle.std.proofs.lemmas.List.{map-append}
use Rattle.std.proofs.lemmas.Map.Keys.{below_from_sorted}
use Rattle.goal_ast.proofs.CountingLaws.{both_same}
use Rattle.mm_num.proofs.ListLaws.{all_split}
use Rattle.mm_poly.specs.declared.term.Term.{Term}
use Rattle.mm_poly.specs.Mono.{mono_degree, mono_cmp, factor_cmp, VarsAbove, IsMono}
use Rattle.mm_poly.specs.Poly.{IsPoly, AllAfter, AllMono}
use Rattle.mm_poly.specs.Renaming.{renamed_mono, renamed_terms, renamed}
use Rattle.mm_poly.proofs.CaseLaws.{by_cases}
use Rattle.mm_poly.proofs.TestLaws.{nat_less, nat_more}
use Rattle.mm_poly.proofs.FactorLaws.{less_is, more_is, above_factor, factor_first, mono_factor}
use Rattle.mm_poly.proofs.RenamingLaws.{degree_mono}
use Rattle.mm_poly.proofs.SumLaws.{plus_nil}
use Rattle.cert_kit.specs.declared.row.PRow.{PRow}
use Rattle.cert_kit.specs.Order.{row_cmp}
use Rattle.cert_kit.proofs.RowOrderLaws.{row_exact}
use Rattle.zify.specs.declared.goal.ZGoal.{ZGoal}
use Rattle.clause_form.specs.declared.named.Named.{Named}
use Rattle.cert_kit.specs.Variables.{in_order, mono_variables, poly_variables, row_variables, variables_of, place_of, numbers_from}
use Rattle.clause_form.specs.Naming.{renamed_row, named_rows}
use Rattle.clause_form.specs.Alternatives.{alternatives_of}
use Rattle.clause_form.specs.Clauses.{named, clauses_of, IsNumbered}
use Rattle.cert_kit.proofs.OrderedLaws.{in_order_rises, determined, all_with_element, any_in_order}
use Rattle.cert_kit.proofs.VariableLaws.{occurs, any_self, or_first, or_second, any_append, found, place_within, occurs_there}
use Rattle.clause_form.proofs.WellFormedRowLaws.{IsWell, IsWellRow, AreWellRows, AreWell, alternatives_well}

-- ---- variables that are among some

abbrev AreIn : List ℕ → List ℕ → Type 0
AreIn vars us = AllByRecursion (λ u. occurs u vars ≡ true) us

-- of these variables the smaller gets the smaller number
abbrev RisesOn : List ℕ → (ℕ → ℕ) → Type 0
RisesOn vars r = (v w : ℕ) → occurs v vars ≡ true → occurs w vars ≡ true → v < w → r v < r w

all_occur : (P : ℕ → Type 0) (us : List ℕ) → ((u : ℕ) → occurs u us ≡ true → P u) → AllByRecursion P us
all_occur P [] f = tt
all_occur P (u ∷ us) f = (f u (or_first (nat_eq u u) (occurs u us) (any_self u)), all_occur P us (λ w h. f w (or_second (nat_eq w u) (occurs w us) h)))

-- ---- a renumbering that rises on the variables keeps the order

above_renamed : (vars : List ℕ) (r : ℕ → ℕ) (v : ℕ) (fs : List (ℕ × ℕ)) → RisesOn vars r → occurs v vars ≡ true → AreIn vars (mono_variables fs) → VarsAbove v fs → VarsAbove (r v) (renamed_mono r fs)
above_renamed vars r v [] up o b a = tt
above_renamed vars r v (f ∷ fs) up o b a = above_factor (r v) (r f.0, f.1) (renamed_mono r fs) (up v f.0 o b.0 a.0) (above_renamed vars r v fs up o b.1 a.1)

first_renamed : (vars : List ℕ) (r : ℕ → ℕ) (f : ℕ × ℕ) (fs : List (ℕ × ℕ)) → RisesOn vars r → AreIn vars (mono_variables (f ∷ fs)) → IsMono (f ∷ fs) → renamed_mono r (f ∷ fs) ≡ (r f.0, f.1) ∷ renamed_mono r fs
first_renamed vars r f fs up b m = factor_first (r f.0, f.1) (renamed_mono r fs) (above_renamed vars r f.0 fs up b.0 b.1 m.1)

number_cmp : (vars : List ℕ) (r : ℕ → ℕ) (v w : ℕ) → RisesOn vars r → occurs v vars ≡ true → occurs w vars ≡ true → nat_cmp (r v) (r w) ≡ nat_cmp v w
number_cmp vars r v w up h k = by_cases (nat_cmp v w)
    (λ o. nat_less (r v) (r w) (up v w h k (less_is v w o)) ∙ sym o)
    (λ o. ap (λ u. nat_cmp (r v) (r u)) (sym (nat_cmp-IsAntisymmetric v w o)) ∙ tied_itself nat_cmp_total (r v) ∙ sym o)
    (λ o. nat_more (r v) (r w) (up w v k h (more_is v w o)) ∙ sym o)

slice_renamed : (vars : List ℕ) (r : ℕ → ℕ) (a b : List (ℕ × ℕ)) → RisesOn vars r → AreIn vars (mono_variables a) → IsMono a → AreIn vars (mono_variables b) → IsMono b
    → slice_cmp factor_cmp (renamed_mono r a) (renamed_mono r b) ≡ slice_cmp factor_cmp a b
slice_renamed vars r [] [] up x m y k = refl
slice_renamed vars r [] (h ∷ hs) up x m y k = ap (λ (ys : List (ℕ × ℕ)). slice_cmp factor_cmp [] ys) (first_renamed vars r h hs up y k)
slice_renamed vars r (g ∷ gs) [] up x m y k = ap (λ (xs : List (ℕ × ℕ)). slice_cmp factor_cmp xs []) (first_renamed vars r g gs up x m)
slice_renamed vars r (g ∷ gs) (h ∷ hs) up x m y k =
    ap (λ (xs : List (ℕ × ℕ)). slice_cmp factor_cmp xs (renamed_mono r (h ∷ hs))) (first_renamed vars r g gs up x m)
    ∙ ap (λ (ys : List (ℕ × ℕ)). slice_cmp factor_cmp ((r g.0, g.1) ∷ renamed_mono r gs) ys) (first_renamed vars r h hs up y k)
    ∙ ap (λ o. ordering_then (ordering_then o (nat_cmp h.1 g.1)) (slice_cmp factor_cmp (renamed_mono r gs) (renamed_mono r hs))) (number_cmp vars r g.0 h.0 up x.0 y.0)
    ∙ ap (λ o. ordering_then (factor_cmp g h) o) (slice_renamed vars r gs hs up x.1 m.2 y.1 k.2)

cmp_renamed : (vars : List ℕ) (r : ℕ → ℕ) (a b : List (ℕ × ℕ)) → RisesOn vars r → AreIn vars (mono_variables a) → IsMono a → AreIn vars (mono_variables b) → IsMono b
    → mono_cmp (renamed_mono r a) (renamed_mono r b) ≡ mono_cmp a b
cmp_renamed vars r a b up x m y k =
    ap (λ d. ordering_then (nat_cmp d (mono_degree (renamed_mono r a))) (slice_cmp factor_cmp (renamed_mono r a) (renamed_mono r b))) (degree_mono r b)
    ∙ ap (λ d. ordering_then (nat_cmp (mono_degree b) d) (slice_cmp factor_cmp (renamed_mono r a) (renamed_mono r b))) (degree_mono r a)
    ∙ ap (λ o. ordering_then (nat_cmp (mono_degree b) (mono_degree a)) o) (slice_renamed vars r a b up x m y k)

after_renamed : (vars : List ℕ) (r : ℕ → ℕ) (m : List (ℕ × ℕ)) (ts : List Term) → RisesOn vars r → AreIn vars (mono_variables m) → IsMono m → AreIn vars (poly_variables ts) → AllMono ts → AllAfter m ts
    → AllAfter (renamed_mono r m) (renamed_terms r ts)
after_renamed vars r m [] up x k y l a = tt
after_renamed vars r m (t ∷ ts) up x k y l a =
    let s = all_split (λ u. occurs u vars ≡ true) (mono_variables t.mono) (poly_variables ts) y in
    (cmp_renamed vars r m t.mono up x k s.0 l.0 ∙ a.0, after_renamed vars r m ts up x k s.1 l.1 a.1)

poly_renamed : (vars : List ℕ) (r : ℕ → ℕ) (ts : List Term) → RisesOn vars r → AreIn vars (poly_variables ts) → AllMono ts → IsPoly ts → IsPoly (renamed_terms r ts)
poly_renamed vars r [] up y l p = tt
poly_renamed vars r (t ∷ ts) up y l p =
    let s = all_split (λ u. occurs u vars ≡ true) (mono_variables t.mono) (poly_variables ts) y in
    (p.0, after_renamed vars r t.mono ts up s.0 l.0 s.1 l.1 p.1, poly_renamed vars r ts up s.1 l.1 p.2)

-- ---- the variables of renumbered rows

mono_numbers : (vars : List ℕ) (r : ℕ → ℕ) (fs : List (ℕ × ℕ)) → RisesOn vars r → AreIn vars (mono_variables fs) → IsMono fs → mono_variables (renamed_mono r fs) ≡ map r (mono_variables fs)
mono_numbers vars r [] up b m = refl
mono_numbers vars r (f ∷ fs) up b m = ap mono_variables (first_renamed vars r f fs up b m) ∙ ap (λ us. r f.0 ∷ us) (mono_numbers vars r fs up b.1 m.2)

terms_numbers : (vars : List ℕ) (r : ℕ → ℕ) (ts : List Term) → RisesOn vars r → AreIn vars (poly_variables ts) → AllMono ts → poly_variables (renamed_terms r ts) ≡ map r (poly_variables ts)
terms_numbers vars r [] up b m = refl
terms_numbers vars r (t ∷ ts) up b m =
    let s = all_split (λ u. occurs u vars ≡ true) (mono_variables t.mono) (poly_variables ts) b in
    both_same (λ (us ws : List ℕ). us ++ ws) _ _ _ _ (mono_numbers vars r t.mono up s.0 m.0) (terms_numbers vars r ts up s.1 m.1)
    ∙ sym (map-append r (mono_variables t.mono) (poly_variables ts))

poly_numbers : (vars : List ℕ) (r : ℕ → ℕ) (ts : List Term) → RisesOn vars r → AreIn vars (poly_variables ts) → IsWell ts → poly_variables (renamed r ts) ≡ map r (poly_variables ts)
poly_numbers vars r ts up b w = ap poly_variables (plus_nil (renamed_terms r ts) (poly_renamed vars r ts up b w.monos w.order)) ∙ terms_numbers vars r ts up b w.monos

rows_numbers : (vars : List ℕ) (r : ℕ → ℕ) (rows : List PRow) → RisesOn vars r → AreIn vars (row_variables rows) → AreWellRows rows → row_variables (map (renamed_row r) rows) ≡ map r (row_variables rows)
rows_numbers vars r [] up b w = refl
rows_numbers vars r (q ∷ rows) up b w =
    let s = all_split (λ u. occurs u vars ≡ true) (poly_variables q.poly) (row_variables rows) b in
    both_same (λ (us ws : List ℕ). us ++ ws) _ _ _ _ (poly_numbers vars r q.poly up s.0 w.0) (rows_numbers vars r rows up s.1 w.1)
    ∙ sym (map-append r (poly_variables q.poly) (row_variables rows))

-- ---- renumbered rows are polynomials

mono_renamed : (r : ℕ → ℕ) (fs : List (ℕ × ℕ)) → IsMono fs → IsMono (renamed_mono r fs)
mono_renamed r [] m = tt
mono_renamed r (f ∷ fs) m = mono_factor (r f.0, f.1) (renamed_mono r fs) m.0 (mono_renamed r fs m.2)

terms_renamed : (r : ℕ → ℕ) (ts : List Term) → AllMono ts → AllMono (renamed_terms r ts)
terms_renamed r [] m = tt
terms_renamed r (t ∷ ts) m = (mono_renamed r t.mono m.0, terms_renamed r ts m.1)

row_renamed : (vars : List ℕ) (r : ℕ → ℕ) (q : PRow) → RisesOn vars r → AreIn vars (poly_variables q.poly) → IsWellRow q → IsWellRow (renamed_row r q)
row_renamed vars r q up b w =
    let p = poly_renamed vars r q.poly up b w.monos w.order in
    subst (λ (ts : List Term). IsWell ts) (sym (plus_nil (renamed_terms r q.poly) p)) (record { order = p; monos = terms_renamed r q.poly w.monos })

rows_renamed : (vars : List ℕ) (r : ℕ → ℕ) (rows : List PRow) → RisesOn vars r → AreIn vars (row_variables rows) → AreWellRows rows → AreWellRows (map (renamed_row r) rows)
rows_renamed vars r [] up b w = tt
rows_renamed vars r (q ∷ rows) up b w =
    let s = all_split (λ u. occurs u vars ≡ true) (poly_variables q.poly) (row_variables rows) b in
    (row_renamed vars r q up s.0 w.0, rows_renamed vars r rows up s.1 w.1)

in_order_well : (rows : List PRow) → AreWellRows rows → AreWellRows (in_order row_cmp rows)
in_order_well [] w = tt
in_order_well (q ∷ rows) w = all_with_element row_cmp IsWellRow q (in_order row_cmp rows) w.0 (in_order_well rows w.1)

-- ---- places rise

places_rise : (vars : List ℕ) → IsStrictlySortedBy nat_cmp vars → RisesOn vars (place_of vars)
places_rise vars s v w h k l = elim (cases_lt (place_of vars v) (place_of vars w)) [
  | inl m ↦ m
  | inr m ↦ absurd (by_order (cases_lt (place_of vars w) (place_of vars v)) m)
]
  where
    by_order : ((place_of vars w < place_of vars v) ⊎ (place_of vars v ≤ place_of vars w)) → place_of vars w ≤ place_of vars v → ⊥
    by_order (inl m) n =
        let b = below_from_sorted vars (place_of vars w) (place_of vars v) 0 s m (place_within v vars h) in
        let e = found v vars h in
        let f = found w vars k in
        omega (arith, b, e, f, l)
    by_order (inr m) n =
        let e : place_of vars v ≡ place_of vars w = omega arith in
        let f = sym (found v vars h) ∙ ap (λ i. slice_index_or vars i 0) e ∙ found w vars k in
        omega (arith, f, l)

up_one : (k n : ℕ) → map (λ v. 1 + v) (numbers_from k n) ≡ numbers_from (k + 1) n
up_one k zero = refl
up_one k (suc n) = both_same (λ (v : ℕ) (vs : List ℕ). v ∷ vs) _ _ _ _ (let e : 1 + k ≡ k + 1 = omega arith in e) (up_one (k + 1) n)

places_after : (u : ℕ) (vars ws : List ℕ) → AllByRecursion (λ w. nat_cmp u w ≡ Less) ws → map (place_of (u ∷ vars)) ws ≡ map (λ v. 1 + v) (map (place_of vars) ws)
places_after u vars [] a = refl
places_after u vars (w ∷ ws) a = both_same (λ (v : ℕ) (vs : List ℕ). v ∷ vs) _ _ _ _
    (let l = less_is u w a.0 in let e : nat_eq w u ≡ false = grind arith in ap (λ (c : Bool). cond (not c) (1 + place_of vars w) 0) e)
    (places_after u vars ws a.1)

places_are : (vars : List ℕ) → IsStrictlySortedBy nat_cmp vars → map (place_of vars) vars ≡ numbers_from 0 (length vars)
unfolding IsStrictlySortedBy
places_are [] s = refl
places_are (u ∷ vars) s = both_same (λ (v : ℕ) (vs : List ℕ). v ∷ vs) _ _ _ _
    (ap (λ (c : Bool). cond (not c) (1 + place_of vars u) 0) (any_self u))
    (places_after u vars vars s.0 ∙ ap (map (λ v. 1 + v)) (places_are vars s.1) ∙ up_one 0 (length vars))

after_numbers : (k m n : ℕ) → k < m → AllByRecursion (λ w. nat_cmp k w ≡ Less) (numbers_from m n)
after_numbers k m zero l = tt
after_numbers k m (suc n) l = (nat_less k m l, after_numbers k (m + 1) n (omega arith))

numbers_rise : (k n : ℕ) → IsStrictlySortedBy nat_cmp (numbers_from k n)
unfolding IsStrictlySortedBy
numbers_rise k zero = tt
numbers_rise k (suc n) = (after_numbers k (k + 1) n (omega arith), numbers_rise (k + 1) n)

-- ---- clauses

any_flat : {X A : Type 0} → (test : A → Bool) (f : X → List A) (xs : List X) → list_any test (flat_map f xs) ≡ list_any (λ x. list_any test (f x)) xs
any_flat test f [] = refl
any_flat test f (x ∷ xs) = any_append test (f x) (flat_map f xs) ∙ ap (λ s. list_any test (f x) || s) (any_flat test f xs)

any_map : {X A : Type 0} → (test : A → Bool) (f : X → A) (xs : List X) → list_any test (map f xs) ≡ list_any (λ x. test (f x)) xs
any_map test f [] = refl
any_map test f (x ∷ xs) = ap (λ s. test (f x) || s) (any_map test f xs)

abbrev variables_in : PRow → List ℕ
variables_in r = poly_variables r.poly

any_in_rows : (test : ℕ → Bool) (rows : List PRow) → list_any test (row_variables (in_order row_cmp rows)) ≡ list_any test (row_variables rows)
any_in_rows test rows =
    any_flat test variables_in (in_order row_cmp rows)
    ∙ any_in_order row_cmp (λ r. list_any test (variables_in r)) row_exact rows
    ∙ sym (any_flat test variables_in rows)

same_members : (rows : List PRow) → AreWellRows rows → (test : ℕ → Bool)
    → list_any test (variables_of (named_rows (variables_of rows) rows)) ≡ list_any test (numbers_from 0 (length (variables_of rows)))
same_members rows w test =
    let vars = variables_of rows in
    let r = place_of vars in
    let sorted = in_order_rises nat_cmp nat_cmp_total (row_variables rows) in
    let inside = all_occur (λ u. occurs u vars ≡ true) (row_variables rows) (λ v h. occurs_there v rows h) in
    any_in_order nat_cmp test nat_cmp-IsAntisymmetric (row_variables (named_rows vars rows))
    ∙ any_in_rows test (map (renamed_row r) rows)
    ∙ ap (list_any test) (rows_numbers vars r rows (places_rise vars sorted) inside w)
    ∙ any_map test r (row_variables rows)
    ∙ sym (any_in_order nat_cmp (λ v. test (r v)) nat_cmp-IsAntisymmetric (row_variables rows))
    ∙ sym (any_map test r vars)
    ∙ ap (list_any test) (places_are vars sorted)

named_well : (rows : List PRow) → AreWellRows rows → AreWellRows (named_rows (variables_of rows) rows)
named_well rows w =
    let vars = variables_of rows in
    let sorted = in_order_rises nat_cmp nat_cmp_total (row_variables rows) in
    let inside = all_occur (λ u. occurs u vars ≡ true) (row_variables rows) (λ v h. occurs_there v rows h) in
    in_order_well (map (renamed_row (place_of vars)) rows) (rows_renamed vars (place_of vars) rows (places_rise vars sorted) inside w)

numbered : (rows : List PRow) → AreWellRows rows → IsNumbered (named rows)
numbered rows w = determined nat_cmp nat_cmp_total nat_cmp-IsAntisymmetric (variables_of (named_rows (variables_of rows) rows)) (numbers_from 0 (length (variables_of rows)))
    (in_order_rises nat_cmp nat_cmp_total (row_variables (named_rows (variables_of rows) rows)))
    (numbers_rise 0 (length (variables_of rows)))
    (same_members rows w)

all_numbered : (lists : List (List PRow)) → AreWell lists → AllByRecursion IsNumbered (map named lists)
all_numbered [] h = tt
all_numbered (rows ∷ lists) h = (numbered rows h.0, all_numbered lists h.1)

pub clauses_numbered : (z : ZGoal) → AllByRecursion IsNumbered (clauses_of z)
clauses_numbered z = all_numbered (alternatives_of z) (alternatives_well z)

-- the rows of a clause are polynomials
all_named_well : (lists : List (List PRow)) → AreWell lists → AllByRecursion (λ (n : Named). AreWellRows n.clause.rows) (map named lists)
all_named_well [] h = tt
all_named_well (rows ∷ lists) h = (named_well rows h.0, all_named_well lists h.1)

pub clauses_well : (z : ZGoal) → AllByRecursion (λ (n : Named). AreWellRows n.clause.rows) (clauses_of z)
clauses_well z = all_named_well (alternatives_of z) (alternatives_well z)

-- the variables of a clause rise
all_rise : (lists : List (List PRow)) → AllByRecursion (λ (n : Named). IsStrictlySortedBy nat_cmp n.vars) (map named lists)
all_rise [] = tt
all_rise (rows ∷ lists) = (in_order_rises nat_cmp nat_cmp_total (row_variables rows), all_rise lists)

pub clauses_rise : (z : ZGoal) → AllByRecursion (λ (n : Named). IsStrictlySortedBy nat_cmp n.vars) (clauses_of z)
clauses_rise z = all_rise (alternatives_of z)
