-- The terms of a list in any order, joined, are a polynomial, and so is the product.
use Rattle.std.specs.Prelude.{◌≡◌, ◌≢◌, ℕ, ◌+◌, ◌*◌, ◌^◌, ◌<◌, ◌≤◌, pos, ◌+ℤ◌, unsigned_abs, List, [], ◌∷◌, ◌++◌, refl}
use Rattle.std.proofs.Common.{ap, sym, ◌∙◌, arith}
use Rattle.std.proofs.lemmas.Int.{unsigned_abs-mul}
use Rattle.mm_poly.specs.declared.term.Term.{Term}
use Rattle.mm_poly.specs.Mono.{IsMono}
use Rattle.mm_poly.specs.Poly.{norm, spread, degree, coeff_of, IsPoly, Fits, add_term, plus, times_term, times}
use Rattle.mm_poly.specs.Product.{total_of, term_times, term_products, all_products, AllNonZero}
use Rattle.mm_poly.proofs.FactorLaws.{mono_of_times}
use Rattle.mm_poly.proofs.EachLaws.{each_times, places_times}
use Rattle.mm_poly.proofs.ValueLaws.{zero_sum, sum_zero, sum_assoc}
use Rattle.mm_poly.proofs.BoundLaws.{norm_plus, norm_times, spread_times, degree_times}
use Rattle.mm_poly.proofs.PolyLaws.{poly_add_term, poly_plus, poly_times, product_nonzero}
use Rattle.mm_poly.proofs.CoeffLaws.{coeff_add_term, coeff_plus, unique}

pub nonzero_of : (p : List Term) → IsPoly p → AllNonZero p
nonzero_of [] a = tt
nonzero_of (t ∷ p) a = (a.0, nonzero_of p a.2)

pub nonzero_append : (xs ys : List Term) → AllNonZero xs → AllNonZero ys → AllNonZero (xs ++ ys)
nonzero_append [] ys a b = b
nonzero_append (x ∷ xs) ys a b = (a.0, nonzero_append xs ys a.1 b)

pub front_of : (xs ys : List Term) → AllNonZero (xs ++ ys) → AllNonZero xs
front_of [] ys a = tt
front_of (x ∷ xs) ys a = (a.0, front_of xs ys a.1)

pub back_of : (xs ys : List Term) → AllNonZero (xs ++ ys) → AllNonZero ys
back_of [] ys a = a
back_of (x ∷ xs) ys a = back_of xs ys a.1

pub norm_append : (xs ys : List Term) → norm (xs ++ ys) ≡ norm xs + norm ys
norm_append [] ys = omega arith
norm_append (x ∷ xs) ys = omega (arith, norm_append xs ys)

-- terms put into a polynomial
pub poly_into : (xs q : List Term) → AllNonZero xs → IsPoly q → IsPoly (plus xs q)
poly_into [] q a b = b
poly_into (t ∷ xs) q a b = poly_add_term t (plus xs q) a.0 (poly_into xs q a.1 b)

pub coeff_into : (xs q : List Term) (m : List (ℕ × ℕ)) → AllNonZero xs → IsPoly q → coeff_of (plus xs q) m ≡ total_of xs m +ℤ coeff_of q m
coeff_into [] q m a b = sym (zero_sum (coeff_of q m))
coeff_into (t ∷ xs) q m a b =
    coeff_add_term t (plus xs q) m (poly_into xs q a.1 b)
    ∙ ap (λ v. coeff_of (t ∷ []) m +ℤ v) (coeff_into xs q m a.1 b)
    ∙ sum_assoc (coeff_of (t ∷ []) m) (total_of xs m) (coeff_of q m)

-- it doesn't matter whether they are joined to each other first
pub joined_first : (xs q : List Term) → AllNonZero xs → IsPoly q → plus (plus xs []) q ≡ plus xs q
joined_first xs q a b = unique (plus (plus xs []) q) (plus xs q) (poly_plus (plus xs []) q (poly_into xs [] a tt) b) (poly_into xs q a b)
    (λ m. coeff_plus (plus xs []) q m (poly_into xs [] a tt) b
    ∙ ap (λ v. v +ℤ coeff_of q m) (coeff_into xs [] m a tt ∙ sum_zero (total_of xs m))
    ∙ sym (coeff_into xs q m a b))

pub plus_append : (xs ys q : List Term) → plus (xs ++ ys) q ≡ plus xs (plus ys q)
plus_append [] ys q = refl
plus_append (t ∷ xs) ys q = ap (λ (r : List Term). add_term t r) (plus_append xs ys q)

pub joined_append : (xs ys : List Term) → AllNonZero xs → AllNonZero ys → plus (plus xs []) (plus ys []) ≡ plus (xs ++ ys) []
joined_append xs ys a b = joined_first xs (plus ys []) a (poly_into ys [] b tt) ∙ sym (plus_append xs ys [])

pub poly_joined : (xs : List Term) → AllNonZero xs → IsPoly (plus xs [])
poly_joined xs a = poly_into xs [] a tt

pub norm_joined : (xs : List Term) → norm (plus xs []) ≤ norm xs
norm_joined xs = omega (arith, norm_plus xs [])

nonzero_products : (t : Term) (us : List Term) → t.coeff ≢ pos 0 → AllNonZero us → AllNonZero (term_products t us)
nonzero_products t [] n a = tt
nonzero_products t (u ∷ us) n a = (product_nonzero t.coeff u.coeff n a.0, nonzero_products t us n a.1)

pub nonzero_all : (p q : List Term) → AllNonZero p → AllNonZero q → AllNonZero (all_products p q)
nonzero_all [] q a b = tt
nonzero_all (t ∷ p) q a b = nonzero_append (term_products t q) (all_products p q) (nonzero_products t q a.0 b) (nonzero_all p q a.1 b)

norm_products : (t : Term) (us : List Term) → norm (term_products t us) ≡ unsigned_abs t.coeff * norm us
norm_products t [] = omega arith
norm_products t (u ∷ us) = omega (arith, unsigned_abs-mul t.coeff u.coeff, norm_products t us)

pub norm_all : (p q : List Term) → norm (all_products p q) ≡ norm p * norm q
norm_all [] q = omega arith
norm_all (t ∷ p) q = omega (arith, norm_append (term_products t q) (all_products p q), norm_products t q, norm_all p q)

row : (t : Term) (us : List Term) → times_term t us ≡ plus (term_products t us) []
row t [] = refl
row t (u ∷ us) = ap (λ (r : List Term). add_term (term_times t u) r) (row t us)

-- the product is all products, joined
pub times_all : (p q : List Term) → AllNonZero p → AllNonZero q → times p q ≡ plus (all_products p q) []
times_all [] q a b = refl
times_all (t ∷ p) q a b =
    ap (λ (r : List Term). plus r (times p q)) (row t q)
    ∙ ap (λ (r : List Term). plus (plus (term_products t q) []) r) (times_all p q a.1 b)
    ∙ joined_append (term_products t q) (all_products p q) (nonzero_products t q a.0 b) (nonzero_all p q a.1 b)

pub fits_times : (p q : List Term) → Fits p → Fits q → norm p * norm q < 2 ^ 126 → spread p * spread q ≤ 65536 → degree p + degree q ≤ 255 → Fits (times p q)
fits_times p q a b n s d = record {
  order = poly_times p q a.order b.order;
  monos = each_times IsMono p q mono_of_times a.monos b.monos;
  room = places_times (2 ^ 32) p q a.room b.room;
  norm = omega (arith, norm_times p q, n);
  spread = omega (arith, spread_times p q, s);
  degree = omega (arith, degree_times p q, d);
}
