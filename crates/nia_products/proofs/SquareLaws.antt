-- A square monomial is the square of its half.
use Rattle.std.specs.Prelude.{◌≡◌, ℕ, ◌+◌, ◌/◌, ◌%◌, ◌==◌, ◌^◌, ◌≤◌, List, [], ◌∷◌, map, Bool, true, false, not, cond, Some, refl}
use Rattle.std.specs.List.{AllByRecursion, list_all}
use Rattle.std.proofs.Common.{ap, ◌∙◌, arith}
use Rattle.std.proofs.lemmas.Bool.{and_parts}
use Rattle.mm_num.proofs.TestLaws.{is_number}
use Rattle.mm_poly.specs.declared.term.Term.{Term}
use Rattle.mm_poly.specs.Mono.{mono_degree, mono_times, mono_cmp, is_constant, VarsAbove, VarsBelow, IsMono, IsMonomial, exponent_of}
use Rattle.mm_poly.specs.Poly.{EachMono, Fits, times}
use Rattle.mm_poly.proofs.FactorLaws.{mono_of_times}
use Rattle.mm_poly.proofs.ExponentLaws.{exponent_times, mono_unique}
use Rattle.mm_poly.proofs.EachLaws.{all_monomials}
use Rattle.mm_poly.proofs.TestLaws.{fits_if}
use Rattle.cert_kit.specs.declared.row.PRow.{PRow}
use Rattle.cert_kit.specs.declared.bounds.Bounds.{Bounds}
use Rattle.cert_kit.specs.Meaning.{meaning, measure, Measure, own_bounds, product_bounds, at_least_0}
use Rattle.cert_kit.proofs.FormLaws.{square_means, square_measures}
use Rattle.cert_kit.proofs.BoundedLaws.{within_limits}
use Rattle.nia_products.specs.Squares.{is_even, is_square, poly_squares, row_squares, squares_of, half_of, poly_of, square_row, square_source}
use Rattle.nia_products.specs.Enriching.{AreFit}
use Rattle.nia_products.proofs.EachLaws.{each_passed, each_ordered, each_of_lists, each_made}

-- ---- halves

half_there : (n : ℕ) → 1 ≤ n → (n % 2 == 0) ≡ true → 1 ≤ n / 2
half_there n h e = let z = is_number (n % 2) 0 e in omega (arith, z)

half_twice : (n : ℕ) → (n % 2 == 0) ≡ true → n / 2 + n / 2 ≡ n
half_twice n e = let z = is_number (n % 2) 0 e in omega (arith, z)

even_parts : (f : ℕ × ℕ) (fs : List (ℕ × ℕ)) → list_all is_even (f ∷ fs) ≡ true → (is_even f ≡ true) × (list_all is_even fs ≡ true)
even_parts f fs e = and_parts (is_even f) (list_all is_even fs) e

pub even_of : (m : List (ℕ × ℕ)) → is_square m ≡ true → list_all is_even m ≡ true
even_of m e = let p = and_parts (not (is_constant m)) (list_all is_even m) e in p.1

above_half : (v : ℕ) (m : List (ℕ × ℕ)) → VarsAbove v m → VarsAbove v (half_of m)
above_half v [] a = tt
above_half v (f ∷ fs) a = (a.0, above_half v fs a.1)

below_half : (n : ℕ) (m : List (ℕ × ℕ)) → VarsBelow n m → VarsBelow n (half_of m)
below_half n [] a = tt
below_half n (f ∷ fs) a = (a.0, below_half n fs a.1)

mono_half : (m : List (ℕ × ℕ)) → IsMono m → list_all is_even m ≡ true → IsMono (half_of m)
mono_half [] k e = tt
mono_half (f ∷ fs) k e = let p = even_parts f fs e in (half_there f.1 k.0 p.0, above_half f.0 fs k.1, mono_half fs k.2 p.1)

degree_half : (m : List (ℕ × ℕ)) → list_all is_even m ≡ true → mono_degree (half_of m) + mono_degree (half_of m) ≡ mono_degree m
degree_half [] e = omega arith
degree_half (f ∷ fs) e =
    let p = even_parts f fs e in
    let h = half_twice f.1 p.0 in
    let r = degree_half fs p.1 in
    omega (arith, h, r)

pub monomial_half : (m : List (ℕ × ℕ)) → IsMonomial m → is_square m ≡ true → IsMonomial (half_of m)
monomial_half m k s = record {
  order = mono_half m k.order (even_of m s);
  degree = (let h = degree_half m (even_of m s) in let d = k.degree in omega (arith, h, d));
  room = below_half (2 ^ 32) m k.room;
}

exponent_half : (m : List (ℕ × ℕ)) (v : ℕ) → list_all is_even m ≡ true → exponent_of (half_of m) v + exponent_of (half_of m) v ≡ exponent_of m v
exponent_half [] v e = omega arith
exponent_half (f ∷ fs) v e = let p = even_parts f fs e in by_test (f.0 == v) (half_twice f.1 p.0) (exponent_half fs v p.1)
  where
    by_test : (b : Bool) → f.1 / 2 + f.1 / 2 ≡ f.1 → exponent_of (half_of fs) v + exponent_of (half_of fs) v ≡ exponent_of fs v
        → cond b (f.1 / 2) (exponent_of (half_of fs) v) + cond b (f.1 / 2) (exponent_of (half_of fs) v) ≡ cond b f.1 (exponent_of fs v)
    by_test true h r = h
    by_test false h r = r

-- the square of a half
pub times_half : (m : List (ℕ × ℕ)) → IsMono m → is_square m ≡ true → mono_times (half_of m) (half_of m) ≡ m
times_half m k s =
    let e = even_of m s in
    let h = mono_half m k e in
    mono_unique (mono_times (half_of m) (half_of m)) m (mono_of_times (half_of m) (half_of m) h h) k (λ v. exponent_times (half_of m) (half_of m) v h h ∙ exponent_half m v e)

-- ---- polynomials of one monomial

pub single_fits : (m : List (ℕ × ℕ)) → IsMonomial m → Fits (poly_of m)
single_fits m k = fits_if (poly_of m) (omega arith) refl (k, tt) (omega arith)

single_square : (h : List (ℕ × ℕ)) → times (poly_of h) (poly_of h) ≡ poly_of (mono_times h h)
single_square h = refl

pub square_is : (rows : List PRow) (m : List (ℕ × ℕ)) → IsMonomial m → is_square m ≡ true → meaning (square_source m) rows ≡ Some (square_row m)
square_is rows m k s =
    square_means (poly_of (half_of m)) rows
    ∙ ap (λ (p : List Term). Some (at_least_0 p)) (single_square (half_of m) ∙ ap (λ (n : List (ℕ × ℕ)). poly_of n) (times_half m k.order s))

pub square_within : (rows : List PRow) (m : List (ℕ × ℕ)) → IsMonomial m → is_square m ≡ true → (measure (square_source m) rows).within ≡ true
square_within rows m k s =
    let h = degree_half m (even_of m s) in
    let d = k.degree in
    let b : Bounds = product_bounds (own_bounds (poly_of (half_of m))) (own_bounds (poly_of (half_of m))) in
    ap (λ (x : Measure). x.within) (square_measures (poly_of (half_of m)) rows) ∙ within_limits b (omega arith) (omega arith) (omega (arith, h, d))

-- ---- those of rows

abbrev pub IsSquare : List (ℕ × ℕ) → Type 0
IsSquare m = IsMonomial m × (is_square m ≡ true)

monos_of : (ts : List Term) → EachMono IsMonomial ts → AllByRecursion IsMonomial (map (λ (t : Term). t.mono) ts)
monos_of ts h = each_made IsMonomial (λ (t : Term). IsMonomial t.mono) (λ (t : Term). t.mono) (λ t k. k) ts h

row_squares_are : (r : PRow) → Fits r.poly → AllByRecursion IsSquare (poly_squares r.poly)
row_squares_are r f = each_passed IsMonomial is_square (map (λ (t : Term). t.mono) r.poly) (monos_of r.poly (all_monomials r.poly f.monos f.room f.degree))

pub squares_are : (rows : List PRow) → AreFit rows → AllByRecursion IsSquare (squares_of rows)
squares_are rows f = each_ordered IsSquare mono_cmp (row_squares rows) (each_of_lists IsSquare (λ (r : PRow). Fits r.poly) (λ (r : PRow). poly_squares r.poly) row_squares_are rows f)
