-- The order of its two factors doesn't matter to a product.
use Rattle.std.specs.Prelude.{◌≡◌, ℕ, ℤ, ◌+ℤ◌, ◌*ℤ◌, List, [], ◌∷◌, ◌++◌, refl}
use Rattle.std.proofs.Common.{ap, sym, ◌∙◌, arith}
use Rattle.std.proofs.lemmas.Int.{ints}
use Rattle.std.proofs.Math.IntN.{*ℤ_comm}
use Rattle.mm_poly.specs.declared.term.Term.{Term}
use Rattle.mm_poly.specs.Mono.{mono_times, IsMono}
use Rattle.mm_poly.specs.Poly.{coeff_of, IsPoly, AllMono, plus, times}
use Rattle.mm_poly.specs.Product.{total_of, term_times, term_products, all_products}
use Rattle.mm_poly.proofs.ExponentLaws.{times_swap}
use Rattle.mm_poly.proofs.ValueLaws.{zero_sum, sum_assoc}
use Rattle.mm_poly.proofs.ProductLaws.{nonzero_of, nonzero_all, poly_joined, times_all}
use Rattle.mm_poly.proofs.JoinLaws.{coeff_joined}
use Rattle.mm_poly.proofs.SingleLaws.{no_products}
use Rattle.mm_poly.proofs.CoeffLaws.{unique}

abbrev term_of : ℤ → List (ℕ × ℕ) → Term
term_of c m = record { coeff = c; mono = m }

term_exchanged : (t u : Term) → IsMono t.mono → IsMono u.mono → term_times t u ≡ term_times u t
term_exchanged t u a b =
    ap (λ c. term_of c (mono_times t.mono u.mono)) (*ℤ_comm t.coeff u.coeff)
    ∙ ap (λ m. term_of (u.coeff *ℤ t.coeff) m) (times_swap t.mono u.mono a b)

total_append : (xs ys : List Term) (m : List (ℕ × ℕ)) → total_of (xs ++ ys) m ≡ total_of xs m +ℤ total_of ys m
total_append [] ys m = sym (zero_sum (total_of ys m))
total_append (x ∷ xs) ys m =
    ap (λ v. coeff_of (x ∷ []) m +ℤ v) (total_append xs ys m) ∙ sum_assoc (coeff_of (x ∷ []) m) (total_of xs m) (total_of ys m)

four : (c a x y : ℤ) → c +ℤ (a +ℤ (x +ℤ y)) ≡ (c +ℤ x) +ℤ (a +ℤ y)
four c a x y = omega (arith, ints)

-- the products with the first of the right factor's terms, and those with the others
column : (p : List Term) (u : Term) (q : List Term) (m : List (ℕ × ℕ)) → total_of (all_products p (u ∷ q)) m ≡ total_of (all_products p (u ∷ [])) m +ℤ total_of (all_products p q) m
column [] u q m = refl
column (t ∷ p) u q m =
    ap (λ v. coeff_of (term_times t u ∷ []) m +ℤ v) (total_append (term_products t q) (all_products p (u ∷ q)) m
    ∙ ap (λ v. total_of (term_products t q) m +ℤ v) (column p u q m))
    ∙ four (coeff_of (term_times t u ∷ []) m) (total_of (term_products t q) m) (total_of (all_products p (u ∷ [])) m) (total_of (all_products p q) m)
    ∙ ap (λ v. (coeff_of (term_times t u ∷ []) m +ℤ total_of (all_products p (u ∷ [])) m) +ℤ v) (sym (total_append (term_products t q) (all_products p q) m))

column_exchanged : (p : List Term) (u : Term) → AllMono p → IsMono u.mono → all_products p (u ∷ []) ≡ term_products u p
column_exchanged [] u a b = refl
column_exchanged (t ∷ p) u a b =
    ap (λ (x : Term). x ∷ all_products p (u ∷ [])) (term_exchanged t u a.0 b)
    ∙ ap (λ (xs : List Term). term_times u t ∷ xs) (column_exchanged p u a.1 b)

totals : (p q : List Term) (m : List (ℕ × ℕ)) → AllMono p → AllMono q → total_of (all_products p q) m ≡ total_of (all_products q p) m
totals p [] m a b = ap (λ (xs : List Term). total_of xs m) (no_products p)
totals p (u ∷ q) m a b =
    column p u q m
    ∙ ap (λ (xs : List Term). total_of xs m +ℤ total_of (all_products p q) m) (column_exchanged p u a b.0)
    ∙ ap (λ v. total_of (term_products u p) m +ℤ v) (totals p q m a b.1)
    ∙ sym (total_append (term_products u p) (all_products q p) m)

pub exchanged : (p q : List Term) → IsPoly p → AllMono p → IsPoly q → AllMono q → times p q ≡ times q p
exchanged p q a k b l =
    let m = nonzero_of p a in
    let n = nonzero_of q b in
    let here = nonzero_all p q m n in
    let there = nonzero_all q p n m in
    times_all p q m n
    ∙ unique (plus (all_products p q) []) (plus (all_products q p) []) (poly_joined (all_products p q) here) (poly_joined (all_products q p) there)
    (λ x. coeff_joined (all_products p q) x here ∙ totals p q x k l ∙ sym (coeff_joined (all_products q p) x there))
    ∙ sym (times_all q p n m)
