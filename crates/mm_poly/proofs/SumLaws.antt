-- How a sum begins.
use Rattle.std.specs.Prelude.{◌≡◌, ◌≢◌, ℕ, ℤ, pos, ◌+ℤ◌, List, [], ◌∷◌, ◌++◌, refl}
use Rattle.std.proofs.Common.{ap, ◌∙◌, subst, append_assoc}
use Rattle.std.specs.declared.cmp.Ordering.TheVariants.{Less, Equal, Greater}
use Rattle.std.specs.Ordering.{int_cmp, ordering_reverse}
use Rattle.mm_poly.specs.declared.term.Term.{Term}
use Rattle.mm_poly.specs.Mono.{mono_cmp}
use Rattle.mm_poly.specs.Poly.{AllAfter, IsPoly, with_coeff, add_term, plus}
use Rattle.mm_poly.proofs.OrderLaws.{mono_total, mono_exact, mono_back}
use Rattle.mm_poly.proofs.CaseLaws.{by_cases, by_coeff}
use Rattle.mm_poly.proofs.PolyLaws.{after_through, after_plus}

pub with_front : (c : ℤ) (m : List (ℕ × ℕ)) (ts : List Term) → with_coeff c m [] ++ ts ≡ with_coeff c m ts
with_front c m ts = by_cases (int_cmp c (pos 0)) (λ h. rw (h, with_coeff) refl) (λ h. rw (h, with_coeff) refl) (λ h. rw (h, with_coeff) refl)

pub with_after : (out : List Term) (c : ℤ) (m : List (ℕ × ℕ)) (ts : List Term) → (out ++ with_coeff c m []) ++ ts ≡ out ++ with_coeff c m ts
with_after out c m ts = append_assoc out (with_coeff c m []) ts ∙ ap (λ (r : List Term). out ++ r) (with_front c m ts)

pub add_first : (t : Term) (us : List Term) → AllAfter t.mono us → add_term t us ≡ t ∷ us
add_first t [] a = refl
add_first t (u ∷ us) a = rw (a.0, add_term) refl

-- a coefficient that isn't 0 isn't left out
pub with_nonzero : (c : ℤ) (m : List (ℕ × ℕ)) (ts : List Term) → c ≢ pos 0 → with_coeff c m ts ≡ record { coeff = c; mono = m } ∷ ts
with_nonzero c m ts n = by_coeff c m ts (λ r. r ≡ record { coeff = c; mono = m } ∷ ts) (λ e. absurd (n e)) (λ k. refl)

pub plus_nil : (p : List Term) → IsPoly p → plus p [] ≡ p
plus_nil [] a = refl
plus_nil (t ∷ p) a = ap (λ (r : List Term). add_term t r) (plus_nil p a.2) ∙ add_first t p a.1

pub mono_forth : (a b : List (ℕ × ℕ)) → mono_cmp a b ≡ Less → mono_cmp b a ≡ Greater
mono_forth a b e = mono_total.antisymm b a ∙ ap ordering_reverse e

pub plus_front : (p : List Term) (u : Term) (q : List Term) → AllAfter u.mono p → plus p (u ∷ q) ≡ u ∷ plus p q
plus_front [] u q a = refl
plus_front (t ∷ p) u q a =
    let g = mono_forth u.mono t.mono a.0 in
    ap (λ (r : List Term). add_term t r) (plus_front p u q a.1) ∙ rw (g, add_term) refl

pub plus_less : (t : Term) (p : List Term) (u : Term) (q : List Term) → IsPoly (t ∷ p) → IsPoly (u ∷ q) → mono_cmp t.mono u.mono ≡ Less
    → plus (t ∷ p) (u ∷ q) ≡ t ∷ plus p (u ∷ q)
plus_less t p u q a b e = add_first t (plus p (u ∷ q)) (after_plus t.mono p (u ∷ q) a.1 (e, after_through t.mono u.mono q e b.1))

pub plus_greater : (t : Term) (p : List Term) (u : Term) (q : List Term) → IsPoly (t ∷ p) → IsPoly (u ∷ q) → mono_cmp t.mono u.mono ≡ Greater
    → plus (t ∷ p) (u ∷ q) ≡ u ∷ plus (t ∷ p) q
plus_greater t p u q a b e =
    let back = mono_back t.mono u.mono e in
    plus_front (t ∷ p) u q (back, after_through u.mono t.mono p back a.1)

pub plus_equal : (t : Term) (p : List Term) (u : Term) (q : List Term) → IsPoly (t ∷ p) → IsPoly (u ∷ q) → mono_cmp t.mono u.mono ≡ Equal
    → plus (t ∷ p) (u ∷ q) ≡ with_coeff (t.coeff +ℤ u.coeff) u.mono (plus p q)
plus_equal t p u q a b e =
    let after : AllAfter u.mono p = subst (λ m. AllAfter m p) (mono_exact t.mono u.mono e) a.1 in
    ap (λ (r : List Term). add_term t r) (plus_front p u q after) ∙ rw (e, add_term) refl
