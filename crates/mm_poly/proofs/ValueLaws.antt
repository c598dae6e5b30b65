-- The value of a sum, a multiple and a product.
use Rattle.std.specs.Prelude.{◌≡◌, ℕ, zero, suc, ◌+◌, ℤ, pos, negsuc, ◌+ℤ◌, ◌*ℤ◌, List, [], ◌∷◌, refl}
use Rattle.std.proofs.Common.{ap, sym, ◌∙◌, arith, zero-add}
use Rattle.std.proofs.lemmas.Int.{ints}
use Rattle.std.proofs.Math.IntN.{*ℤ_comm}
use Rattle.std.specs.FinMap.{nat_cmp-IsAntisymmetric}
use Rattle.mm_num.specs.Power.{power}
use Rattle.mm_num.proofs.Ring.{dist, dist_r, assoc, swap, mul_zero}
use Rattle.mm_poly.specs.declared.term.Term.{Term}
use Rattle.mm_poly.specs.Mono.{mono_value, mono_times, times_factor}
use Rattle.mm_poly.specs.Poly.{value, term_value, with_coeff, add_term, plus, scaled, times_term, times, constant_of, variable_of}
use Rattle.mm_poly.proofs.OrderLaws.{mono_exact}
use Rattle.mm_poly.proofs.CaseLaws.{by_coeff, by_order, by_factor}

pub zero_mul : (a : ℤ) → pos 0 *ℤ a ≡ pos 0
zero_mul (pos n) = omega (arith, ints)
zero_mul (negsuc n) = omega (arith, ints)

pub one_mul : (a : ℤ) → pos 1 *ℤ a ≡ a
one_mul (pos n) = omega (arith, ints)
one_mul (negsuc n) = omega (arith, ints)

pub zero_sum : (a : ℤ) → pos 0 +ℤ a ≡ a
zero_sum a = omega (arith, ints)

pub sum_zero : (a : ℤ) → a +ℤ pos 0 ≡ a
sum_zero a = omega (arith, ints)

pub sum_assoc : (a b c : ℤ) → a +ℤ (b +ℤ c) ≡ a +ℤ b +ℤ c
sum_assoc a b c = omega (arith, ints)

pub sum_swap : (a b c : ℤ) → a +ℤ (b +ℤ c) ≡ b +ℤ (a +ℤ c)
sum_swap a b c = omega (arith, ints)

pub without_term : (c m v : ℤ) → c ≡ pos 0 → v ≡ c *ℤ m +ℤ v
without_term c m v e = rw (e, zero_mul m) (sym (zero_sum v))

pub value_with : (x : ℕ → ℤ) (c : ℤ) (m : List (ℕ × ℕ)) (ts : List Term) → value x (with_coeff c m ts) ≡ c *ℤ mono_value x m +ℤ value x ts
value_with x c m ts = by_coeff c m ts (λ r. value x r ≡ c *ℤ mono_value x m +ℤ value x ts)
    (λ e. without_term c (mono_value x m) (value x ts) e) (λ n. refl)

pub joined_term : (a b m v : ℤ) → (a +ℤ b) *ℤ m +ℤ v ≡ a *ℤ m +ℤ (b *ℤ m +ℤ v)
joined_term a b m v = ap (λ z. z +ℤ v) (dist_r a b m) ∙ sym (sum_assoc (a *ℤ m) (b *ℤ m) v)

pub value_add_term : (x : ℕ → ℤ) (t : Term) (us : List Term) → value x (add_term t us) ≡ term_value x t +ℤ value x us
value_add_term x t [] = refl
value_add_term x t (u ∷ us) = by_order t u us (λ r. value x r ≡ term_value x t +ℤ (term_value x u +ℤ value x us))
    (λ e. refl)
    (λ e. value_with x (t.coeff +ℤ u.coeff) u.mono us
    ∙ joined_term t.coeff u.coeff (mono_value x u.mono) (value x us)
    ∙ ap (λ m. t.coeff *ℤ mono_value x m +ℤ (term_value x u +ℤ value x us)) (sym (mono_exact t.mono u.mono e)))
    (λ e. ap (λ v. term_value x u +ℤ v) (value_add_term x t us) ∙ sum_swap (term_value x u) (term_value x t) (value x us))

-- the sum's value
pub value_plus : (x : ℕ → ℤ) (p q : List Term) → value x (plus p q) ≡ value x p +ℤ value x q
value_plus x [] q = sym (zero_sum (value x q))
value_plus x (t ∷ p) q =
    value_add_term x t (plus p q) ∙ ap (λ v. term_value x t +ℤ v) (value_plus x p q) ∙ sum_assoc (term_value x t) (value x p) (value x q)

pub multiple_of_term : (c a m v : ℤ) → (c *ℤ a) *ℤ m +ℤ c *ℤ v ≡ c *ℤ (a *ℤ m +ℤ v)
multiple_of_term c a m v = ap (λ z. z +ℤ c *ℤ v) (assoc c a m) ∙ sym (dist c (a *ℤ m) v)

-- the multiple's value
pub value_scaled : (x : ℕ → ℤ) (c : ℤ) (ts : List Term) → value x (scaled c ts) ≡ c *ℤ value x ts
value_scaled x c [] = sym (mul_zero c)
value_scaled x c (t ∷ ts) =
    value_with x (c *ℤ t.coeff) t.mono (scaled c ts)
    ∙ ap (λ v. (c *ℤ t.coeff) *ℤ mono_value x t.mono +ℤ v) (value_scaled x c ts)
    ∙ multiple_of_term c t.coeff (mono_value x t.mono) (value x ts)

pub value_constant : (x : ℕ → ℤ) (c : ℤ) → value x (constant_of c) ≡ c
value_constant x c = value_with x c [] [] ∙ sum_zero (c *ℤ pos 1) ∙ *ℤ_comm c (pos 1) ∙ one_mul c

pub value_variable : (x : ℕ → ℤ) (v : ℕ) → value x (variable_of v) ≡ x v
value_variable x v =
    sum_zero (pos 1 *ℤ ((x v *ℤ pos 1) *ℤ pos 1))
    ∙ one_mul ((x v *ℤ pos 1) *ℤ pos 1)
    ∙ *ℤ_comm (x v *ℤ pos 1) (pos 1)
    ∙ one_mul (x v *ℤ pos 1)
    ∙ *ℤ_comm (x v) (pos 1)
    ∙ one_mul (x v)

power_sum : (z : ℤ) (m n : ℕ) → power z (m + n) ≡ power z m *ℤ power z n
power_sum z zero n = rw (zero-add n) (sym (one_mul (power z n)))
power_sum z (suc m) n =
    let e : suc m + n ≡ suc (m + n) = omega arith in
    rw e (ap (λ p. z *ℤ p) (power_sum z m n) ∙ sym (assoc z (power z m) (power z n)))

pub value_times_factor : (x : ℕ → ℤ) (f : ℕ × ℕ) (gs : List (ℕ × ℕ)) → mono_value x (times_factor f gs) ≡ power (x f.0) f.1 *ℤ mono_value x gs
value_times_factor x f [] = refl
value_times_factor x f (g ∷ gs) = by_factor f g gs (λ r. mono_value x r ≡ power (x f.0) f.1 *ℤ (power (x g.0) g.1 *ℤ mono_value x gs))
    (λ e. refl)
    (λ e. ap (λ p. p *ℤ mono_value x gs) (power_sum (x f.0) f.1 g.1)
    ∙ assoc (power (x f.0) f.1) (power (x f.0) g.1) (mono_value x gs)
    ∙ ap (λ v. power (x f.0) f.1 *ℤ (power (x v) g.1 *ℤ mono_value x gs)) (nat_cmp-IsAntisymmetric f.0 g.0 e))
    (λ e. ap (λ p. power (x g.0) g.1 *ℤ p) (value_times_factor x f gs)
    ∙ swap (power (x g.0) g.1) (power (x f.0) f.1) (mono_value x gs))

pub value_mono_times : (x : ℕ → ℤ) (a b : List (ℕ × ℕ)) → mono_value x (mono_times a b) ≡ mono_value x a *ℤ mono_value x b
value_mono_times x [] b = sym (one_mul (mono_value x b))
value_mono_times x (f ∷ fs) b =
    value_times_factor x f (mono_times fs b)
    ∙ ap (λ p. power (x f.0) f.1 *ℤ p) (value_mono_times x fs b)
    ∙ sym (assoc (power (x f.0) f.1) (mono_value x fs) (mono_value x b))

product_of_terms : (a b m n : ℤ) → (a *ℤ b) *ℤ (m *ℤ n) ≡ (a *ℤ m) *ℤ (b *ℤ n)
product_of_terms a b m n = assoc a b (m *ℤ n) ∙ ap (λ z. a *ℤ z) (swap b m n) ∙ sym (assoc a m (b *ℤ n))

pub value_times_term : (x : ℕ → ℤ) (t : Term) (us : List Term) → value x (times_term t us) ≡ term_value x t *ℤ value x us
value_times_term x t [] = sym (mul_zero (term_value x t))
value_times_term x t (u ∷ us) =
    value_add_term x (record { coeff = t.coeff *ℤ u.coeff; mono = mono_times t.mono u.mono }) (times_term t us)
    ∙ ap (λ v. (t.coeff *ℤ u.coeff) *ℤ mono_value x (mono_times t.mono u.mono) +ℤ v) (value_times_term x t us)
    ∙ ap (λ v. (t.coeff *ℤ u.coeff) *ℤ v +ℤ term_value x t *ℤ value x us) (value_mono_times x t.mono u.mono)
    ∙ ap (λ v. v +ℤ term_value x t *ℤ value x us) (product_of_terms t.coeff u.coeff (mono_value x t.mono) (mono_value x u.mono))
    ∙ sym (dist (term_value x t) (term_value x u) (value x us))

-- the product's value
pub value_times : (x : ℕ → ℤ) (p q : List Term) → value x (times p q) ≡ value x p *ℤ value x q
value_times x [] q = sym (zero_mul (value x q))
value_times x (t ∷ p) q =
    value_plus x (times_term t q) (times p q)
    ∙ ap (λ v. v +ℤ value x (times p q)) (value_times_term x t q)
    ∙ ap (λ v. term_value x t *ℤ value x q +ℤ v) (value_times x p q)
    ∙ sym (dist_r (term_value x t) (value x p) (value x q))
