-- Monomials that are lent, sorted, and doubles dropped.
use Rattle.std.specs.Prelude.{◌≡◌, ℕ, ◌+◌, List, [], ◌∷◌, length, map, Bool, true, false, cond, slice_index_or, refl}
use Rattle.std.specs.Borrow.{Bor}
use Rattle.std.specs.List.{dedup, dedup_from, filter, list_all}
use Rattle.std.specs.List.Sorted.{IsPermutation, IsSorted, IsSortedBy}
use Rattle.std.specs.Cmp.{IsStrictWeakOrder}
use Rattle.std.specs.Ordering.{is_lt, is_eq, eq_by_cmp}
use Rattle.std.proofs.Common.{ap, ◌∙◌, arith}
use Rattle.std.proofs.lemmas.List.{get_or-map}
use Rattle.std.proofs.lemmas.Bool.{and_from}
use Rattle.std.proofs.lemmas.List.Folds.{list_all-append}
use Rattle.std.proofs.lemmas.List.Sorted.{ranks_by, IsPermutation-map}
use Rattle.mm_poly.specs.declared.term.Term.{Term}
use Rattle.mm_poly.specs.Mono.{mono_cmp}
use Rattle.mm_poly.proofs.OrderLaws.{mono_total, mono_exact}
use Rattle.mm_poly.proofs.CaseLaws.{by_if}
use Rattle.cert_kit.specs.declared.row.PRow.{PRow}
use Rattle.cert_kit.specs.Variables.{in_order}
use Rattle.cert_kit.proofs.OrderedLaws.{sorted_once, all_in_order}
use Rattle.nia_products.specs.Squares.{is_square, poly_squares, row_squares, squares_of}
use Rattle.nia_products.specs.machine.Lending.{lent}

abbrev pub LentMono : Type 0
LentMono = Bor (List (ℕ × ℕ))

abbrev pub comes_before : LentMono → LentMono → Bool
comes_before a b = is_lt (mono_cmp a.now b.now)

abbrev pub is_same : LentMono → LentMono → Bool
is_same a b = is_eq (mono_cmp a.now b.now)

pub monomials_order : IsStrictWeakOrder comes_before
monomials_order = ranks_by mono_total (λ (m : LentMono). m.now)

lent_sorted : (ms : List LentMono) → IsSortedBy comes_before ms → IsSorted mono_cmp (lent ms)
lent_sorted [] s k d a b = absurd (omega arith)
lent_sorted (m ∷ ms) s k d a b =
    let e = get_or-map (λ (x : LentMono). x.now) (m ∷ ms) (k + 1) m d (omega (arith, b, length-lent (m ∷ ms))) in
    let f = get_or-map (λ (x : LentMono). x.now) (m ∷ ms) k m d (omega (arith, b, length-lent (m ∷ ms))) in
    ap (λ (x : List (ℕ × ℕ)). is_lt (mono_cmp x (slice_index_or (lent (m ∷ ms)) k d))) e
    ∙ ap (λ (x : List (ℕ × ℕ)). is_lt (mono_cmp (slice_index_or (m ∷ ms) (k + 1) m).now x)) f
    ∙ s k m a (omega (arith, b, length-lent (m ∷ ms)))
  where
    length-lent : (ms : List LentMono) → length (lent ms) ≡ length ms
    length-lent [] = refl
    length-lent (m ∷ ms) = omega (arith, length-lent ms)

lent_dedup_from : (k : LentMono) (ms : List LentMono) → lent (dedup_from is_same k ms) ≡ dedup_from (eq_by_cmp mono_cmp) k.now (lent ms)
lent_dedup_from k [] = refl
lent_dedup_from k (m ∷ ms) = by_test (is_same m k) (lent_dedup_from k ms) (lent_dedup_from m ms)
  where
    by_test : (b : Bool) → lent (dedup_from is_same k ms) ≡ dedup_from (eq_by_cmp mono_cmp) k.now (lent ms) → lent (dedup_from is_same m ms) ≡ dedup_from (eq_by_cmp mono_cmp) m.now (lent ms)
        → lent (cond b (dedup_from is_same k ms) (k ∷ dedup_from is_same m ms)) ≡ cond b (dedup_from (eq_by_cmp mono_cmp) k.now (lent ms)) (k.now ∷ dedup_from (eq_by_cmp mono_cmp) m.now (lent ms))
    by_test true e f = e
    by_test false e f = ap (λ (r : List (List (ℕ × ℕ))). k.now ∷ r) f

lent_dedup : (ms : List LentMono) → lent (dedup is_same ms) ≡ dedup (eq_by_cmp mono_cmp) (lent ms)
lent_dedup [] = refl
lent_dedup (m ∷ ms) = lent_dedup_from m ms

-- what the sort and the dropping of doubles leave
pub once : (rows : List PRow) (given sorted kept : List LentMono) → lent given ≡ row_squares rows → IsPermutation given sorted → IsSortedBy comes_before sorted → kept ≡ dedup is_same sorted
    → lent kept ≡ squares_of rows
once rows given sorted kept e p s d =
    ap lent d ∙ lent_dedup sorted
    ∙ sorted_once mono_cmp mono_total mono_exact (eq_by_cmp mono_cmp) (λ x y. refl) (lent given) (lent sorted) (IsPermutation-map (λ (m : LentMono). m.now) given sorted p) (lent_sorted sorted s)
    ∙ ap (in_order mono_cmp) e

-- ---- each of them is a square

passed_pass : {A : Type 0} → (test : A → Bool) (xs : List A) → list_all test (filter test xs) ≡ true
passed_pass test [] = refl
passed_pass test (x ∷ xs) = by_if (test x) (x ∷ filter test xs) (filter test xs) (λ r. list_all test r ≡ true)
    (λ e. and_from (test x) (list_all test (filter test xs)) e (passed_pass test xs)) (λ e. passed_pass test xs)

row_squares_pass : (rows : List PRow) → list_all is_square (row_squares rows) ≡ true
row_squares_pass [] = refl
row_squares_pass (r ∷ rows) =
    list_all-append is_square (poly_squares r.poly) (row_squares rows)
    ∙ and_from (list_all is_square (poly_squares r.poly)) (list_all is_square (row_squares rows)) (passed_pass is_square (map (λ (t : Term). t.mono) r.poly)) (row_squares_pass rows)

pub squares_pass : (rows : List PRow) → list_all is_square (squares_of rows) ≡ true
squares_pass rows = all_in_order mono_cmp is_square mono_exact (row_squares rows) ∙ row_squares_pass rows
