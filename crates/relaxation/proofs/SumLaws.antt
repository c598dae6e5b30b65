-- A polynomial's value as the sum of its unknowns' coefficients times their weights.
use Rattle.std.specs.Prelude.{◌≡◌, ◌⊎◌, ℕ, ℤ, pos, ◌+ℤ◌, ◌*ℤ◌, List, [], ◌∷◌, refl}
use Rattle.std.proofs.Common.{ap, sym, ◌∙◌, subst, inl, inr, arith}
use Rattle.std.proofs.lemmas.Int.{ints}
use Rattle.std.specs.List.{AllByRecursion}
use Rattle.std.specs.declared.cmp.Ordering.TheVariants.{Less}
use Rattle.mm_num.proofs.Ring.{dist_r}
use Rattle.mm_poly.specs.declared.term.Term.{Term}
use Rattle.mm_poly.specs.Mono.{mono_cmp}
use Rattle.mm_poly.specs.Poly.{linear_value, coeff_of, IsPoly}
use Rattle.mm_poly.proofs.ValueLaws.{zero_mul, zero_sum, sum_zero}
use Rattle.mm_poly.proofs.CoeffLaws.{coeff_first}
use Rattle.mm_poly.proofs.PartLaws.{coeff_found, coeff_passed}
use Rattle.fm_elim.proofs.SolveLaws.{Has, Knows}
use Rattle.fm_elim.proofs.NumberLaws.{Rise}
use Rattle.relaxation.specs.Relaxing.{Mono}
use Rattle.relaxation.proofs.UnknownLaws.{not_later}

-- the sum of f times w over a list
abbrev pub weighed : (Mono → ℤ) → (Mono → ℤ) → List Mono → ℤ
weighed f w [] = pos 0
weighed f w (u ∷ us) = f u *ℤ w u +ℤ weighed f w us

pub weighed_agrees : (f w v : Mono → ℤ) (us : List Mono) → AllByRecursion (λ u. w u ≡ v u) us → weighed f w us ≡ weighed f v us
weighed_agrees f w v [] a = refl
weighed_agrees f w v (u ∷ us) a = ap (λ z. f u *ℤ z +ℤ weighed f w us) a.0 ∙ ap (λ z. f u *ℤ v u +ℤ z) (weighed_agrees f w v us a.1)

pub weighed_same : (f g w : Mono → ℤ) (us : List Mono) → ((u : Mono) → f u ≡ g u) → weighed f w us ≡ weighed g w us
weighed_same f g w [] e = refl
weighed_same f g w (u ∷ us) e = ap (λ z. z *ℤ w u +ℤ weighed f w us) (e u) ∙ ap (λ z. g u *ℤ w u +ℤ z) (weighed_same f g w us e)

four : (a b c d : ℤ) → (a +ℤ b) +ℤ (c +ℤ d) ≡ (a +ℤ c) +ℤ (b +ℤ d)
four a b c d = omega (arith, ints)

pub weighed_sum : (f g w : Mono → ℤ) (us : List Mono) → weighed (λ u. f u +ℤ g u) w us ≡ weighed f w us +ℤ weighed g w us
weighed_sum f g w [] = refl
weighed_sum f g w (u ∷ us) =
    ap (λ z. z +ℤ weighed (λ u. f u +ℤ g u) w us) (dist_r (f u) (g u) (w u))
    ∙ ap (λ z. (f u *ℤ w u +ℤ g u *ℤ w u) +ℤ z) (weighed_sum f g w us)
    ∙ four (f u *ℤ w u) (g u *ℤ w u) (weighed f w us) (weighed g w us)

pub weighed_zero : (f w : Mono → ℤ) (us : List Mono) → AllByRecursion (λ u. f u ≡ pos 0) us → weighed f w us ≡ pos 0
weighed_zero f w [] a = refl
weighed_zero f w (u ∷ us) a =
    ap (λ z. z *ℤ w u +ℤ weighed f w us) a.0 ∙ ap (λ z. z +ℤ weighed f w us) (zero_mul (w u)) ∙ zero_sum (weighed f w us) ∙ weighed_zero f w us a.1

-- the coefficients of a term whose monomial isn't in the list
absent_coeffs : (t : Term) (us : List Mono) → (Has t.mono us → ⊥) → AllByRecursion (λ u. coeff_of (t ∷ []) u ≡ pos 0) us
absent_coeffs t [] h = tt
absent_coeffs t (u ∷ us) h = (coeff_passed t [] u (λ s. h (inl s)), absent_coeffs t us (λ k. h (inr k)))

absent : (w : Mono → ℤ) (t : Term) (us : List Mono) → (Has t.mono us → ⊥) → weighed (coeff_of (t ∷ [])) w us ≡ pos 0
absent w t us h = weighed_zero (coeff_of (t ∷ [])) w us (absent_coeffs t us h)

present : (w : Mono → ℤ) (t : Term) (us : List Mono) → Rise us → Has t.mono us → weighed (coeff_of (t ∷ [])) w us ≡ t.coeff *ℤ w t.mono
present w t [] r h = absurd h
present w t (u ∷ us) r (inl e) =
    ap (λ z. z *ℤ w u +ℤ weighed (coeff_of (t ∷ [])) w us) (coeff_found t [] u e)
    ∙ ap (λ z. t.coeff *ℤ w u +ℤ z) (absent w t us (λ h. not_later u us r.0 (subst (λ (m : Mono). Has m us) e h)))
    ∙ sum_zero (t.coeff *ℤ w u)
    ∙ ap (λ (m : Mono). t.coeff *ℤ w m) (sym e)
present w t (u ∷ us) r (inr h) =
    ap (λ z. z *ℤ w u +ℤ weighed (coeff_of (t ∷ [])) w us) (coeff_passed t [] u (λ e. not_later u us r.0 (subst (λ (m : Mono). Has m us) e h)))
    ∙ ap (λ z. z +ℤ weighed (coeff_of (t ∷ [])) w us) (zero_mul (w u))
    ∙ zero_sum (weighed (coeff_of (t ∷ [])) w us)
    ∙ present w t us r.1 h

-- a term's value, where its monomial is the constant one or an unknown
one_term : (w : Mono → ℤ) (us : List Mono) (t : Term) → Rise us → (Has [] us → ⊥) → (t.mono ≡ []) ⊎ Has t.mono us
    → t.coeff *ℤ w t.mono ≡ weighed (coeff_of (t ∷ [])) w us +ℤ coeff_of (t ∷ []) [] *ℤ w []
one_term w us t r n (inl e) =
    ap (λ (m : Mono). t.coeff *ℤ w m) e
    ∙ ap (λ z. z *ℤ w []) (sym (coeff_found t [] [] e))
    ∙ sym (zero_sum (coeff_of (t ∷ []) [] *ℤ w []))
    ∙ ap (λ z. z +ℤ coeff_of (t ∷ []) [] *ℤ w []) (sym (absent w t us (λ h. n (subst (λ (m : Mono). Has m us) e h))))
one_term w us t r n (inr h) =
    sym (present w t us r h)
    ∙ sym (sum_zero (weighed (coeff_of (t ∷ [])) w us))
    ∙ ap (λ z. weighed (coeff_of (t ∷ [])) w us +ℤ z) (sym (zero_mul (w [])) ∙ ap (λ z. z *ℤ w []) (sym (coeff_passed t [] [] (λ e. n (subst (λ (m : Mono). Has m us) e h)))))

-- the value is the sum over the unknowns, and the constant
pub value_over : (w : Mono → ℤ) (us : List Mono) (p : List Term) → Rise us → (Has [] us → ⊥) → IsPoly p → Knows us p
    → linear_value w p ≡ weighed (coeff_of p) w us +ℤ coeff_of p [] *ℤ w []
value_over w us [] r n p k =
    sym (zero_sum (pos 0)) ∙ ap (λ z. z +ℤ pos 0) (sym (weighed_zero (coeff_of []) w us (none us))) ∙ ap (λ z. weighed (coeff_of []) w us +ℤ z) (sym (zero_mul (w [])))
  where
    none : (us : List Mono) → AllByRecursion (λ u. coeff_of [] u ≡ pos 0) us
    none [] = tt
    none (u ∷ us) = (refl, none us)
value_over w us (t ∷ ts) r n p k =
    ap (λ z. z +ℤ linear_value w ts) (one_term w us t r n k.0)
    ∙ ap (λ z. (weighed (coeff_of (t ∷ [])) w us +ℤ coeff_of (t ∷ []) [] *ℤ w []) +ℤ z) (value_over w us ts r n p.2 k.1)
    ∙ four (weighed (coeff_of (t ∷ [])) w us) (coeff_of (t ∷ []) [] *ℤ w []) (weighed (coeff_of ts) w us) (coeff_of ts [] *ℤ w [])
    ∙ ap (λ z. z +ℤ (coeff_of (t ∷ []) [] *ℤ w [] +ℤ coeff_of ts [] *ℤ w []))
    (sym (weighed_sum (coeff_of (t ∷ [])) (coeff_of ts) w us) ∙ weighed_same (λ u. coeff_of (t ∷ []) u +ℤ coeff_of ts u) (coeff_of (t ∷ ts)) w us (λ u. sym (coeff_first t ts u p.1)))
    ∙ ap (λ z. weighed (coeff_of (t ∷ ts)) w us +ℤ z)
    (sym (dist_r (coeff_of (t ∷ []) []) (coeff_of ts []) (w [])) ∙ ap (λ z. z *ℤ w []) (sym (coeff_first t ts [] p.1)))
