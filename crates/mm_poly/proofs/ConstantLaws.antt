-- A polynomial of degree 0 is its constant, and a product by a constant is a multiple.
use Rattle.std.specs.Prelude.{◌≡◌, ◌≢◌, ℕ, ℤ, pos, ◌*ℤ◌, List, [], ◌∷◌, refl}
use Rattle.std.proofs.Common.{ap, sym, ◌∙◌, subst, arith}
use Rattle.std.specs.declared.cmp.Ordering.TheVariants.{Less}
use Rattle.mm_poly.specs.declared.term.Term.{Term}
use Rattle.mm_poly.specs.Mono.{mono_cmp, mono_degree, IsMono}
use Rattle.mm_poly.specs.Poly.{value, degree, IsPoly, AllMono, add_term, plus, scaled, times_term, times, constant_of, constant_part}
use Rattle.mm_poly.proofs.OrderLaws.{mono_not_self}
use Rattle.mm_poly.proofs.CaseLaws.{by_coeff}
use Rattle.mm_poly.proofs.ValueLaws.{value_constant, sum_zero}
use Rattle.mm_poly.proofs.PolyLaws.{after_scaled, poly_scaled, product_nonzero}
use Rattle.mm_poly.proofs.SumLaws.{add_first, with_nonzero, plus_nil}

-- a monomial of degree 0 has no factor
no_factor : (m : List (ℕ × ℕ)) → IsMono m → mono_degree m ≡ 0 → m ≡ []
no_factor [] a e = refl
no_factor (f ∷ fs) a e = absurd (omega (arith, a.0))

alone : (c : ℤ) → (c ≡ pos 0 → ⊥) → record { coeff = c; mono = [] } ∷ [] ≡ constant_of c
alone c n = by_coeff c [] [] (λ r. record { coeff = c; mono = [] } ∷ [] ≡ r) (λ e. absurd (n e)) (λ m. refl)

one_term : (c : ℤ) (m : List (ℕ × ℕ)) → m ≡ [] → (c ≡ pos 0 → ⊥) → record { coeff = c; mono = m } ∷ [] ≡ constant_of (constant_part (record { coeff = c; mono = m } ∷ []))
one_term c [] e n = alone c n ∙ ap (λ a. constant_of a) (sym (sum_zero c))
one_term c (f ∷ fs) e n = cc

pub degree_zero : (p : List Term) → IsPoly p → AllMono p → degree p ≡ 0 → p ≡ constant_of (constant_part p)
degree_zero [] a m e = refl
degree_zero (t ∷ []) a m e = one_term t.coeff t.mono (no_factor t.mono m.0 (omega arith)) a.0
degree_zero (t ∷ u ∷ us) a m e =
    let first : t.mono ≡ [] = no_factor t.mono m.0 (omega arith) in
    let second : u.mono ≡ [] = no_factor u.mono m.1.0 (omega arith) in
    let less : mono_cmp [] u.mono ≡ Less = subst (λ k. mono_cmp k u.mono ≡ Less) first a.1.0 in
    absurd (mono_not_self [] (subst (λ k. mono_cmp [] k ≡ Less) second less))

pub value_degree_zero : (x : ℕ → ℤ) (p : List Term) → IsPoly p → AllMono p → degree p ≡ 0 → value x p ≡ constant_part p
value_degree_zero x p a m e = ap (λ q. value x q) (degree_zero p a m e) ∙ value_constant x (constant_part p)

multiple_terms : (k : ℤ) (p : List Term) → k ≢ pos 0 → IsPoly p → times_term (record { coeff = k; mono = [] }) p ≡ scaled k p
multiple_terms k [] n a = refl
multiple_terms k (u ∷ us) n a =
    let v : Term = record { coeff = k *ℤ u.coeff; mono = u.mono } in
    ap (λ (r : List Term). add_term v r) (multiple_terms k us n a.2)
    ∙ add_first v (scaled k us) (after_scaled u.mono k us a.1)
    ∙ sym (with_nonzero (k *ℤ u.coeff) u.mono (scaled k us) (product_nonzero k u.coeff n a.0))

-- a product by a constant other than 0
pub times_constant : (k : ℤ) (p : List Term) → k ≢ pos 0 → IsPoly p → times (constant_of k) p ≡ scaled k p
times_constant k p n a =
    ap (λ (q : List Term). times q p) (with_nonzero k [] [] n)
    ∙ ap (λ (r : List Term). plus r []) (multiple_terms k p n a)
    ∙ plus_nil (scaled k p) (poly_scaled k p a)
