-- A product by a polynomial of at most one term: its terms are in order as they come.
use Rattle.std.specs.Prelude.{◌≡◌, ℕ, ◌≤◌, List, [], ◌∷◌, length, refl}
use Rattle.std.proofs.Common.{ap, sym, ◌∙◌, append-nil, arith}
use Rattle.mm_poly.specs.declared.term.Term.{Term}
use Rattle.mm_poly.specs.Mono.{mono_times, IsMono}
use Rattle.mm_poly.specs.Poly.{AllAfter, IsPoly, AllMono, plus, times}
use Rattle.mm_poly.specs.Product.{term_products, all_products}
use Rattle.mm_poly.proofs.PolyLaws.{product_nonzero}
use Rattle.mm_poly.proofs.SumLaws.{plus_nil}
use Rattle.mm_poly.proofs.ProductLaws.{nonzero_of, times_all}
use Rattle.mm_poly.proofs.KeepLaws.{keep_order}

-- a term times each term
after_products : (t : Term) (m : List (ℕ × ℕ)) (us : List Term) → IsMono t.mono → IsMono m → AllMono us → AllAfter m us → AllAfter (mono_times t.mono m) (term_products t us)
after_products t m [] a k b h = tt
after_products t m (u ∷ us) a k b h = (keep_order t.mono m u.mono a k b.0 ∙ h.0, after_products t m us a k b.1 h.1)

poly_products : (t : Term) (us : List Term) → IsPoly (t ∷ []) → IsMono t.mono → AllMono us → IsPoly us → IsPoly (term_products t us)
poly_products t [] n a b p = tt
poly_products t (u ∷ us) n a b p = (product_nonzero t.coeff u.coeff n.0 p.0, after_products t u.mono us a b.0 b.1 p.1, poly_products t us n a b.1 p.2)

left_single : (t : Term) (q : List Term) → IsPoly (t ∷ []) → IsMono t.mono → IsPoly q → AllMono q → times (t ∷ []) q ≡ all_products (t ∷ []) q
left_single t q n a p b =
    let e : all_products (t ∷ []) q ≡ term_products t q = append-nil (term_products t q) in
    times_all (t ∷ []) q (nonzero_of (t ∷ []) n) (nonzero_of q p)
    ∙ ap (λ (ts : List Term). plus ts []) e
    ∙ plus_nil (term_products t q) (poly_products t q n a b p)
    ∙ sym e

pub single_left : (p q : List Term) → length p ≤ 1 → IsPoly p → AllMono p → IsPoly q → AllMono q → times p q ≡ all_products p q
single_left [] q h a m b k = refl
single_left (t ∷ []) q h a m b k = left_single t q a m.0 b k
single_left (t ∷ u ∷ us) q h a m b k = absurd (omega arith)

pub no_products : (p : List Term) → all_products p [] ≡ []
no_products [] = refl
no_products (t ∷ p) = no_products p
