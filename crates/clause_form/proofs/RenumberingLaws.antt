-- Rows are renumbered by what their own variables become, so a table that has those alone serves.
use Rattle.std.specs.Prelude.{◌≡◌, ℕ, ◌+◌, ◌<◌, ◌≤◌, ◌≢◌, List, [], ◌∷◌, ◌++◌, map, length, true, nat_eq, slice_index, refl}
use Rattle.std.specs.List.{AllByRecursion}
use Rattle.std.specs.List.Sorted.{IsStrictlySortedBy}
use Rattle.std.specs.Ordering.{nat_cmp}
use Rattle.std.specs.Cmp.{nat_cmp_total}
use Rattle.std.proofs.Common.{get_or, ◌^◌, ap, ◌∙◌, sym, subst, arith, inl, inr}
use Rattle.std.proofs.lemmas.Bool.{cases_lt}
use Rattle.std.proofs.lemmas.List.Elements.{All-from_get_or}
use Rattle.std.proofs.lemmas.Map.Keys.{below_from_sorted}
use Rattle.std.proofs.lemmas.Map.Views.{length-le_from_below}
use Rattle.goal_ast.proofs.CountingLaws.{both_same}
use Rattle.mm_poly.specs.declared.term.Term.{Term}
use Rattle.mm_poly.specs.Mono.{VarsBelow, times_factor}
use Rattle.mm_poly.specs.Poly.{HasPlaces, plus}
use Rattle.mm_poly.specs.Renaming.{by_table, renamed_mono, renamed_terms}
use Rattle.cert_kit.specs.declared.row.PRow.{PRow}
use Rattle.cert_kit.specs.Order.{row_cmp}
use Rattle.cert_kit.specs.Variables.{in_order, mono_variables, poly_variables, row_variables, variables_of, place_of}
use Rattle.clause_form.specs.Naming.{renamed_row}
use Rattle.clause_form.specs.Clauses.{named}
use Rattle.clause_form.specs.machine.Numbering.{IsSetAt, Numbers}
use Rattle.cert_kit.proofs.OrderedLaws.{in_order_rises}
use Rattle.cert_kit.proofs.VariableLaws.{AgreeOn, occurs, any_self, or_first, or_second, in_first, in_second, agree_first, agree_second, found, place_within, occurs_there}

-- ---- a renumbering counts for the variables alone

mono_same : (r s : ℕ → ℕ) (fs : List (ℕ × ℕ)) → AgreeOn (mono_variables fs) r s → renamed_mono r fs ≡ renamed_mono s fs
mono_same r s [] a = refl
mono_same r s (f ∷ fs) a = both_same (λ (v : ℕ) (gs : List (ℕ × ℕ)). times_factor (v, f.1) gs) _ _ _ _
    (a f.0 (or_first (nat_eq f.0 f.0) (occurs f.0 (mono_variables fs)) (any_self f.0)))
    (mono_same r s fs (λ v h. a v (or_second (nat_eq v f.0) (occurs v (mono_variables fs)) h)))

terms_same : (r s : ℕ → ℕ) (ts : List Term) → AgreeOn (poly_variables ts) r s → renamed_terms r ts ≡ renamed_terms s ts
terms_same r s [] a = refl
terms_same r s (t ∷ ts) a = both_same (λ (m : List (ℕ × ℕ)) (us : List Term). record { coeff = t.coeff; mono = m } ∷ us) _ _ _ _
    (mono_same r s t.mono (agree_first (mono_variables t.mono) (poly_variables ts) r s a))
    (terms_same r s ts (agree_second (mono_variables t.mono) (poly_variables ts) r s a))

rows_same : (r s : ℕ → ℕ) (rows : List PRow) → AgreeOn (row_variables rows) r s → map (renamed_row r) rows ≡ map (renamed_row s) rows
rows_same r s [] a = refl
rows_same r s (q ∷ rows) a = both_same (λ (ts : List Term) (out : List PRow). record { poly = plus ts []; op = q.op } ∷ out) _ _ _ _
    (terms_same r s q.poly (agree_first (poly_variables q.poly) (row_variables rows) r s a))
    (rows_same r s rows (agree_second (poly_variables q.poly) (row_variables rows) r s a))

-- ---- places in a table

-- every variable is below this number
abbrev AllBelow : ℕ → List ℕ → Type 0
AllBelow n vars = (v : ℕ) → occurs v vars ≡ true → v < n

below_first : (n : ℕ) (xs ys : List ℕ) → AllBelow n (xs ++ ys) → AllBelow n xs
below_first n xs ys a v h = a v (in_first v xs ys h)

below_second : (n : ℕ) (xs ys : List ℕ) → AllBelow n (xs ++ ys) → AllBelow n ys
below_second n xs ys a v h = a v (in_second v xs ys h)

mono_below : (n : ℕ) (fs : List (ℕ × ℕ)) → AllBelow n (mono_variables fs) → VarsBelow n fs
mono_below n [] a = tt
mono_below n (f ∷ fs) a = (
  a f.0 (or_first (nat_eq f.0 f.0) (occurs f.0 (mono_variables fs)) (any_self f.0)),
  mono_below n fs (λ v h. a v (or_second (nat_eq v f.0) (occurs v (mono_variables fs)) h)),
)

poly_below : (n : ℕ) (ts : List Term) → AllBelow n (poly_variables ts) → HasPlaces n ts
poly_below n [] a = tt
poly_below n (t ∷ ts) a = (
  mono_below n t.mono (below_first n (mono_variables t.mono) (poly_variables ts) a),
  poly_below n ts (below_second n (mono_variables t.mono) (poly_variables ts) a),
)

-- a row's variables have places
abbrev pub RowsHavePlaces : ℕ → List PRow → Type 0
RowsHavePlaces n rows = AllByRecursion (λ (r : PRow). HasPlaces n r.poly) rows

rows_below : (n : ℕ) (rows : List PRow) → AllBelow n (row_variables rows) → RowsHavePlaces n rows
rows_below n [] a = tt
rows_below n (r ∷ rows) a = (
  poly_below n r.poly (below_first n (poly_variables r.poly) (row_variables rows) a),
  rows_below n rows (below_second n (poly_variables r.poly) (row_variables rows) a),
)

-- ---- the table of the variables that occur

pub rows_have_places : (table vars : List ℕ) (n : ℕ) (rows : List PRow) → Numbers table vars n → n ≡ length vars → vars ≡ variables_of rows → RowsHavePlaces (length table) rows
rows_have_places table vars n rows t e w = rows_below (length table) rows (λ v h.
    let o : occurs v vars ≡ true = subst (λ us. occurs v us ≡ true) (sym w) (occurs_there v rows h) in
    let p : place_of vars v < length vars = place_within v vars o in
    subst (λ u. u < length table) (found v vars o) (t.within (place_of vars v) (omega arith)))

pub rows_renumbered : (table vars : List ℕ) (n : ℕ) (rows out : List PRow) → Numbers table vars n → n ≡ length vars → vars ≡ variables_of rows → out ≡ map (renamed_row (by_table table)) rows
    → out ≡ map (renamed_row (place_of (variables_of rows))) rows
rows_renumbered table vars n rows out t e w m =
    m ∙ rows_same (by_table table) (place_of vars) rows (λ v h.
    let o : occurs v vars ≡ true = subst (λ us. occurs v us ≡ true) (sym w) (occurs_there v rows h) in
    let p : place_of vars v < length vars = place_within v vars o in
    ap (slice_index table) (sym (found v vars o)) ∙ t.number (place_of vars v) (omega arith))
    ∙ ap (λ us. map (renamed_row (place_of us)) rows) w

-- ---- filling a table

pub no_numbers : (table vars : List ℕ) → Numbers table vars 0
no_numbers table vars = record { within = λ j h. absurd (omega arith); number = λ j h. absurd (omega arith) }

pub next_number : (old new vars : List ℕ) (n m at : ℕ) → Numbers old vars n → IsSetAt old new at n → at ≡ slice_index vars n → n < length vars → m ≡ n + 1 → IsStrictlySortedBy nat_cmp vars → Numbers new vars m
next_number old new vars n m at t s e l q up = record {
  within = λ j h. elim (cases_lt j n) [
    | inl k ↦ let w : slice_index vars j < length old = t.within j k in omega (arith, s.longer)
    | inr k ↦ let z : j ≡ n = omega arith in subst (λ i. slice_index vars i < length new) (sym z) (subst (λ i. i < length new) e s.within)
  ];
  number = λ j h. elim (cases_lt j n) [
    | inl k ↦
        let w : slice_index vars j < length old = t.within j k in
        let d : slice_index vars j < slice_index vars n = below_from_sorted vars j n 0 up k l in
        let c : slice_index vars j ≢ at = omega arith in
        s.others (slice_index vars j) w c ∙ t.number j k
    | inr k ↦
        let z : j ≡ n = omega arith in
        subst (λ i. slice_index new (slice_index vars i) ≡ i) (sym z) (subst (λ i. slice_index new i ≡ n) e s.here)
  ];
}

-- rising numbers below 2^32 have places below it
pub places_below : (vars : List ℕ) (k : ℕ) → IsStrictlySortedBy nat_cmp vars → ((i : ℕ) → get_or vars i 0 < 2 ^ 32) → k < length vars → k < 2 ^ 32
places_below vars k up f l =
    let n : length vars ≤ 2 ^ 32 = length-le_from_below (2 ^ 32) vars up (All-from_get_or (λ x. x < 2 ^ 32) vars 0 (λ i h. f i)) in
    omega arith

-- ---- the clause of an alternative

pub variables_rise : (vars : List ℕ) (rows : List PRow) → vars ≡ variables_of rows → IsStrictlySortedBy nat_cmp vars
variables_rise vars rows e = subst (λ us. IsStrictlySortedBy nat_cmp us) (sym e) (in_order_rises nat_cmp nat_cmp_total (row_variables rows))

pub named_made : (table vars : List ℕ) (rows out sorted : List PRow) (found : List ℕ) → Numbers table vars (length vars) → vars ≡ variables_of rows → out ≡ map (renamed_row (by_table table)) rows
    → sorted ≡ in_order row_cmp out
    → found ≡ variables_of rows
    → record { clause = record { rows = sorted }; vars = found } ≡ named rows
named_made table vars rows out sorted found t w m s f = both_same (λ (rs : List PRow) (us : List ℕ). record { clause = record { rows = rs }; vars = us }) _ _ _ _
    (s ∙ ap (in_order row_cmp) (rows_renumbered table vars (length vars) rows out t refl w m)) f
