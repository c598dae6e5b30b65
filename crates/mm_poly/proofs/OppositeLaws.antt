-- Two polynomials of which the second is the first times -1.
use Rattle.std.specs.Prelude.{◌≡◌, ℕ, ℤ, neg_ℤ, unsigned_abs, List, [], ◌∷◌, length, Bool, true, false, ◌&&◌, refl}
use Rattle.std.proofs.Common.{ap, sym, ◌∙◌, arith}
use Rattle.std.proofs.lemmas.Int.{ints}
use Rattle.std.specs.Ordering.{int_eq, is_eq}
use Rattle.std.proofs.lemmas.Bool.{and_parts}
use Rattle.mm_poly.specs.declared.term.Term.{Term}
use Rattle.mm_poly.specs.Mono.{mono_cmp}
use Rattle.mm_poly.specs.Poly.{norm, spread, is_opposite}
use Rattle.mm_poly.proofs.CaseLaws.{by_cases}
use Rattle.mm_poly.proofs.OrderLaws.{mono_exact, mono_same}

-- a test that tells equal monomials
same_is : (m n : List (ℕ × ℕ)) (b : Bool) → (b ≡ true → m ≡ n) → (m ≡ n → b ≡ true) → b ≡ is_eq (mono_cmp m n)
same_is m n true h k = sym (ap is_eq (ap (λ (l : List (ℕ × ℕ)). mono_cmp m l) (sym (h refl)) ∙ mono_same m))
same_is m n false h k = by_cases (mono_cmp m n) (λ e. rw e refl) (λ e. let q = k (mono_exact m n e) in absurd (cc)) (λ e. rw e refl)

-- the first test decides where it fails, and else the second one
pub first_fails : (m n : List (ℕ × ℕ)) (b y : Bool) → (b ≡ true → m ≡ n) → (m ≡ n → b ≡ true) → b ≡ false → b ≡ is_eq (mono_cmp m n) && (y && true)
first_fails m n b y h k e = e ∙ ap (λ (a : Bool). a && (y && true)) (sym e ∙ same_is m n b h k)

pub second_decides : (m n : List (ℕ × ℕ)) (b x y : Bool) → (b ≡ true → m ≡ n) → (m ≡ n → b ≡ true) → b ≡ true → x ≡ y → x ≡ is_eq (mono_cmp m n) && (y && true)
second_decides m n b x y h k e q = q ∙ plain y ∙ ap (λ (a : Bool). a && (y && true)) (sym e ∙ same_is m n b h k)
  where
    plain : (z : Bool) → z ≡ true && (z && true)
    plain true = refl
    plain false = refl

-- opposite polynomials have the same norm and spread
abs_opposite : (a b : ℤ) → int_eq b (neg_ℤ a) ≡ true → unsigned_abs b ≡ unsigned_abs a
abs_opposite a b h = grind (arith, ints)

pub opposite_norm : (p q : List Term) → is_opposite p q ≡ true → norm q ≡ norm p
opposite_norm [] [] h = refl
opposite_norm [] (u ∷ us) h = absurd (cc)
opposite_norm (t ∷ ts) [] h = absurd (cc)
opposite_norm (t ∷ ts) (u ∷ us) h =
    let a : (is_eq (mono_cmp t.mono u.mono) ≡ true) × (int_eq u.coeff (neg_ℤ t.coeff) && is_opposite ts us ≡ true) = and_parts _ _ h in
    let b : (int_eq u.coeff (neg_ℤ t.coeff) ≡ true) × (is_opposite ts us ≡ true) = and_parts _ _ a.1 in
    omega (arith, abs_opposite t.coeff u.coeff b.0, opposite_norm ts us b.1)

pub opposite_spread : (p q : List Term) → is_opposite p q ≡ true → spread q ≡ spread p
opposite_spread [] [] h = refl
opposite_spread [] (u ∷ us) h = absurd (cc)
opposite_spread (t ∷ ts) [] h = absurd (cc)
opposite_spread (t ∷ ts) (u ∷ us) h =
    let a : (is_eq (mono_cmp t.mono u.mono) ≡ true) × (int_eq u.coeff (neg_ℤ t.coeff) && is_opposite ts us ≡ true) = and_parts _ _ h in
    let b : (int_eq u.coeff (neg_ℤ t.coeff) ≡ true) × (is_opposite ts us ≡ true) = and_parts _ _ a.1 in
    omega (arith, opposite_spread ts us b.1)

-- lists of other lengths are not opposite
pub other_lengths : (p q : List Term) → (length p ≡ length q → ⊥) → false ≡ is_opposite p q
other_lengths p q n = by_answer (is_opposite p q) (λ e. n (sym (opposite_spread p q e)))
  where
    by_answer : (b : Bool) → (b ≡ true → ⊥) → false ≡ b
    by_answer true h = absurd (h refl)
    by_answer false h = refl
