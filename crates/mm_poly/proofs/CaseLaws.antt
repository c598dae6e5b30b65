-- What holds in each case of a definition holds of it.
use Rattle.std.specs.Prelude.{◌≡◌, ◌≢◌, ℕ, ◌+◌, ℤ, pos, ◌+ℤ◌, List, [], ◌∷◌, Bool, true, false, cond, if◌then◌else◌, refl}
use Rattle.std.proofs.Common.{subst}
use Rattle.std.specs.declared.cmp.Ordering.{Ordering}
use Rattle.std.specs.declared.cmp.Ordering.TheVariants.{Less, Equal, Greater}
use Rattle.std.specs.Ordering.{is_eq, int_eq, int_cmp, nat_cmp}
use Rattle.std.specs.FinMap.{int_cmp-IsAntisymmetric}
use Rattle.mm_poly.specs.declared.term.Term.{Term}
use Rattle.mm_poly.specs.Mono.{mono_cmp, times_factor, is_constant}
use Rattle.mm_poly.specs.Poly.{with_coeff, add_term}
use Rattle.mm_poly.proofs.OrderLaws.{mono_exact}

pub by_if : {A : Type 0} (b : Bool) (x y : A) (P : A → Type 0) → (b ≡ true → P x) → (b ≡ false → P y) → P (if b then x else y)
by_if true x y P h k = h refl
by_if false x y P h k = k refl

-- one answer at the constant monomial, and else another one
pub by_constant : {A : Type 0} (m : List (ℕ × ℕ)) (a b : A) (P : A → Type 0) → P a → P b → P (cond (is_constant m) a b)
by_constant [] a b P h k = h
by_constant (f ∷ fs) a b P h k = k

pub by_cases : {G : Type 0} (o : Ordering) → (o ≡ Less → G) → (o ≡ Equal → G) → (o ≡ Greater → G) → G
by_cases Less l e g = l refl
by_cases Equal l e g = e refl
by_cases Greater l e g = g refl

unequal : (o : Ordering) → (Equal ≡ o → ⊥) → int_cmp (pos 0) (pos 0) ≡ o → ⊥
unequal o n h = n h

-- one answer where a number is 0, and else another one
pub by_zero : {A : Type 0} (c : ℤ) (a b : A) (P : A → Type 0) → (c ≡ pos 0 → P a) → (c ≢ pos 0 → P b) → P (cond (int_eq c (pos 0)) a b)
by_zero c a b P z n = by_cases (int_cmp c (pos 0))
    (λ h. rw h (n (λ e. unequal Less (λ k. cc) (subst (λ a. int_cmp a (pos 0) ≡ Less) e h))))
    (λ h. rw h (z (int_cmp-IsAntisymmetric c (pos 0) h)))
    (λ h. rw h (n (λ e. unequal Greater (λ k. cc) (subst (λ a. int_cmp a (pos 0) ≡ Greater) e h))))

pub by_coeff : (c : ℤ) (m : List (ℕ × ℕ)) (ts : List Term) (P : List Term → Type 0)
    → (c ≡ pos 0 → P ts)
    → (c ≢ pos 0 → P (record { coeff = c; mono = m } ∷ ts))
    → P (with_coeff c m ts)
by_coeff c m ts P z n = by_zero c ts (record { coeff = c; mono = m } ∷ ts) P z n

pub by_order : (t u : Term) (us : List Term) (P : List Term → Type 0)
    → (mono_cmp t.mono u.mono ≡ Less → P (t ∷ u ∷ us))
    → (mono_cmp t.mono u.mono ≡ Equal → P (with_coeff (t.coeff +ℤ u.coeff) u.mono us))
    → (mono_cmp t.mono u.mono ≡ Greater → P (u ∷ add_term t us))
    → P (add_term t (u ∷ us))
by_order t u us P l e g = by_cases (mono_cmp t.mono u.mono) (λ h. rw (h, add_term) (l h)) (λ h. rw (h, add_term) (e h)) (λ h. rw (h, add_term) (g h))

pub by_factor : (f g : ℕ × ℕ) (gs : List (ℕ × ℕ)) (P : List (ℕ × ℕ) → Type 0)
    → (nat_cmp f.0 g.0 ≡ Less → P (f ∷ g ∷ gs))
    → (nat_cmp f.0 g.0 ≡ Equal → P ((f.0, f.1 + g.1) ∷ gs))
    → (nat_cmp f.0 g.0 ≡ Greater → P (g ∷ times_factor f gs))
    → P (times_factor f (g ∷ gs))
by_factor f g gs P l e h = by_cases (nat_cmp f.0 g.0) (λ k. rw (k, times_factor) (l k)) (λ k. rw (k, times_factor) (e k)) (λ k. rw (k, times_factor) (h k))

-- one number where two monomials are the same, and else another one
pub by_same : (k m : List (ℕ × ℕ)) (c d : ℤ) (P : ℤ → Type 0)
    → (k ≡ m → P c)
    → P d
    → P (cond (is_eq (mono_cmp k m)) c d)
by_same k m c d P s n = by_cases (mono_cmp k m) (λ h. rw h n) (λ h. rw h (s (mono_exact k m h))) (λ h. rw h n)
