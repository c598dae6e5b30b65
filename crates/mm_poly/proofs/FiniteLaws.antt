-- A polynomial is a finite map from monomials to coefficients: those of a multiple and of a product.
use Rattle.std.specs.Prelude.{◌≡◌, ℕ, ℤ, pos, ◌+ℤ◌, ◌*ℤ◌, List, [], ◌∷◌, refl}
use Rattle.std.proofs.Common.{ap, sym, ◌∙◌}
use Rattle.mm_num.proofs.Ring.{dist, mul_zero}
use Rattle.mm_poly.specs.declared.term.Term.{Term}
use Rattle.mm_poly.specs.Mono.{mono_cmp}
use Rattle.mm_poly.specs.Poly.{coeff_of, IsPoly, scaled, times}
use Rattle.mm_poly.specs.Product.{total_of, all_products}
use Rattle.mm_poly.proofs.CaseLaws.{by_cases}
use Rattle.mm_poly.proofs.ValueLaws.{sum_zero, one_mul}
use Rattle.mm_poly.proofs.PolyLaws.{after_scaled, poly_scaled}
use Rattle.mm_poly.proofs.CoeffLaws.{coeff_first, coeff_with, unique}
use Rattle.mm_poly.proofs.ProductLaws.{coeff_into, nonzero_of, nonzero_all, times_all}

one_multiple : (c a : ℤ) (k m : List (ℕ × ℕ)) → coeff_of (record { coeff = c *ℤ a; mono = k } ∷ []) m ≡ c *ℤ coeff_of (record { coeff = a; mono = k } ∷ []) m
one_multiple c a k m = by_cases (mono_cmp k m) (λ h. rw h (sym (mul_zero c))) (λ h. rw h refl) (λ h. rw h (sym (mul_zero c)))

-- the coefficients of a multiple
pub coeff_scaled : (c : ℤ) (p : List Term) (m : List (ℕ × ℕ)) → IsPoly p → coeff_of (scaled c p) m ≡ c *ℤ coeff_of p m
coeff_scaled c [] m a = sym (mul_zero c)
coeff_scaled c (t ∷ ts) m a =
    coeff_with (c *ℤ t.coeff) t.mono (scaled c ts) m (after_scaled t.mono c ts a.1)
    ∙ ap (λ z. z +ℤ coeff_of (scaled c ts) m) (one_multiple c t.coeff t.mono m)
    ∙ ap (λ z. c *ℤ coeff_of (t ∷ []) m +ℤ z) (coeff_scaled c ts m a.2)
    ∙ sym (dist c (coeff_of (t ∷ []) m) (coeff_of ts m))
    ∙ ap (λ z. c *ℤ z) (sym (coeff_first t ts m a.1))

-- the coefficients of a product: each term of one times each term of the other
pub coeff_times : (p q : List Term) (m : List (ℕ × ℕ)) → IsPoly p → IsPoly q → coeff_of (times p q) m ≡ total_of (all_products p q) m
coeff_times p q m a b =
    ap (λ ts. coeff_of ts m) (times_all p q (nonzero_of p a) (nonzero_of q b))
    ∙ coeff_into (all_products p q) [] m (nonzero_all p q (nonzero_of p a) (nonzero_of q b)) tt
    ∙ sum_zero (total_of (all_products p q) m)

-- once a polynomial is itself
pub one_scaled : (p : List Term) → IsPoly p → scaled (pos 1) p ≡ p
one_scaled p a = unique (scaled (pos 1) p) p (poly_scaled (pos 1) p a) a (λ m. coeff_scaled (pos 1) p m a ∙ one_mul (coeff_of p m))
