-- The value of a sum and of a multiple where each monomial counts for itself, and that with one weight changed.
use Rattle.std.specs.Prelude.{◌≡◌, ℕ, ℤ, pos, ◌+ℤ◌, ◌*ℤ◌, List, [], ◌∷◌, refl}
use Rattle.std.proofs.Common.{ap, sym, ◌∙◌, subst}
use Rattle.mm_poly.specs.declared.term.Term.{Term}
use Rattle.mm_poly.specs.Mono.{mono_value, mono_cmp}
use Rattle.mm_poly.specs.Poly.{value, linear_value, with_weight, coeff_of, IsPoly, with_coeff, add_term, plus, scaled, constant_of}
use Rattle.mm_poly.proofs.OrderLaws.{mono_exact}
use Rattle.mm_poly.proofs.CaseLaws.{by_cases, by_coeff, by_order}
use Rattle.mm_poly.proofs.ValueLaws.{zero_mul, zero_sum, sum_zero, sum_assoc, sum_swap, without_term, joined_term, multiple_of_term}
use Rattle.mm_poly.proofs.CoeffLaws.{coeff_after}
use Rattle.mm_num.proofs.Ring.{mul_zero}

-- a point's value is the one where each monomial counts for its value there
pub at_point : (x : ℕ → ℤ) (ts : List Term) → value x ts ≡ linear_value (mono_value x) ts
at_point x [] = refl
at_point x (t ∷ ts) = ap (λ v. t.coeff *ℤ mono_value x t.mono +ℤ v) (at_point x ts)

pub linear_with : (w : List (ℕ × ℕ) → ℤ) (c : ℤ) (m : List (ℕ × ℕ)) (ts : List Term) → linear_value w (with_coeff c m ts) ≡ c *ℤ w m +ℤ linear_value w ts
linear_with w c m ts = by_coeff c m ts (λ r. linear_value w r ≡ c *ℤ w m +ℤ linear_value w ts) (λ e. without_term c (w m) (linear_value w ts) e) (λ n. refl)

pub linear_add_term : (w : List (ℕ × ℕ) → ℤ) (t : Term) (us : List Term) → linear_value w (add_term t us) ≡ t.coeff *ℤ w t.mono +ℤ linear_value w us
linear_add_term w t [] = refl
linear_add_term w t (u ∷ us) = by_order t u us (λ r. linear_value w r ≡ t.coeff *ℤ w t.mono +ℤ (u.coeff *ℤ w u.mono +ℤ linear_value w us))
    (λ e. refl)
    (λ e. linear_with w (t.coeff +ℤ u.coeff) u.mono us
    ∙ joined_term t.coeff u.coeff (w u.mono) (linear_value w us)
    ∙ ap (λ m. t.coeff *ℤ w m +ℤ (u.coeff *ℤ w u.mono +ℤ linear_value w us)) (sym (mono_exact t.mono u.mono e)))
    (λ e. ap (λ v. u.coeff *ℤ w u.mono +ℤ v) (linear_add_term w t us) ∙ sum_swap (u.coeff *ℤ w u.mono) (t.coeff *ℤ w t.mono) (linear_value w us))

pub linear_plus : (w : List (ℕ × ℕ) → ℤ) (p q : List Term) → linear_value w (plus p q) ≡ linear_value w p +ℤ linear_value w q
linear_plus w [] q = sym (zero_sum (linear_value w q))
linear_plus w (t ∷ p) q =
    linear_add_term w t (plus p q) ∙ ap (λ v. t.coeff *ℤ w t.mono +ℤ v) (linear_plus w p q) ∙ sum_assoc (t.coeff *ℤ w t.mono) (linear_value w p) (linear_value w q)

pub linear_scaled : (w : List (ℕ × ℕ) → ℤ) (c : ℤ) (ts : List Term) → linear_value w (scaled c ts) ≡ c *ℤ linear_value w ts
linear_scaled w c [] = sym (mul_zero c)
linear_scaled w c (t ∷ ts) =
    linear_with w (c *ℤ t.coeff) t.mono (scaled c ts)
    ∙ ap (λ v. (c *ℤ t.coeff) *ℤ w t.mono +ℤ v) (linear_scaled w c ts)
    ∙ multiple_of_term c t.coeff (w t.mono) (linear_value w ts)

pub linear_constant : (w : List (ℕ × ℕ) → ℤ) (c : ℤ) → linear_value w (constant_of c) ≡ c *ℤ w []
linear_constant w c = linear_with w c [] [] ∙ sum_zero (c *ℤ w [])

-- the changed monomial's own term
own_term : (c z l : ℤ) → c *ℤ z +ℤ (pos 0 *ℤ z +ℤ l) ≡ c *ℤ z +ℤ (c *ℤ pos 0 +ℤ l)
own_term c z l = ap (λ a. c *ℤ z +ℤ (a +ℤ l)) (zero_mul z ∙ sym (mul_zero c))

-- one weight changed: its monomial's coefficient times the new one, and the rest as where that is 0
pub linear_set : (w : List (ℕ × ℕ) → ℤ) (u : List (ℕ × ℕ)) (z : ℤ) (ts : List Term) → IsPoly ts
    → linear_value (with_weight w u z) ts ≡ coeff_of ts u *ℤ z +ℤ linear_value (with_weight w u (pos 0)) ts
linear_set w u z [] p = sym (zero_sum (pos 0)) ∙ ap (λ a. a +ℤ pos 0) (sym (zero_mul z))
linear_set w u z (t ∷ ts) p =
    let rest = linear_set w u z ts p.2 in
    let l = linear_value (with_weight w u (pos 0)) ts in
    by_cases (mono_cmp t.mono u)
    (λ h. rw h (ap (λ v. t.coeff *ℤ w t.mono +ℤ v) rest ∙ sum_swap (t.coeff *ℤ w t.mono) (coeff_of ts u *ℤ z) l))
    (λ h.
    let none : coeff_of ts u ≡ pos 0 = subst (λ k. coeff_of ts k ≡ pos 0) (mono_exact t.mono u h) (coeff_after t.mono ts p.1) in
    rw h (ap (λ v. t.coeff *ℤ z +ℤ v) (rest ∙ ap (λ k. k *ℤ z +ℤ l) none) ∙ own_term t.coeff z l))
    (λ h. rw h (ap (λ v. t.coeff *ℤ w t.mono +ℤ v) rest ∙ sum_swap (t.coeff *ℤ w t.mono) (coeff_of ts u *ℤ z) l))
