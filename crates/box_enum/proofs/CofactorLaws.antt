-- The cofactor's product with a variable less its value, added to a polynomial, puts the value for the variable.
use Rattle.std.specs.Prelude.{◌≡◌, ◌≢◌, ℕ, zero, suc, ◌+◌, ◌<◌, ◌≤◌, ◌==◌, ℤ, pos, ◌+ℤ◌, ◌*ℤ◌, neg_ℤ, List, [], ◌∷◌, Bool, true, false, cond, refl}
use Rattle.std.proofs.Common.{ap, sym, ◌∙◌, subst, arith, eq-eqb}
use Rattle.std.proofs.lemmas.Int.{ints}
use Rattle.std.proofs.lemmas.Bool.{ne_eqb, eqb-true}
use Rattle.std.proofs.Math.IntN.{*ℤ_comm}
use Rattle.std.specs.Ordering.{nat_cmp}
use Rattle.std.specs.Cmp.{nat_cmp_total, tied_itself}
use Rattle.std.specs.declared.cmp.Ordering.TheVariants.{Less, Equal, Greater}
use Rattle.mm_num.specs.Power.{power}
use Rattle.mm_num.proofs.Ring.{ring, mul_zero}
use Rattle.mm_poly.specs.declared.term.Term.{Term}
use Rattle.mm_poly.specs.Mono.{mono_times, times_factor, exponent_of, without_variable, with_exponent, VarsAbove, IsMono}
use Rattle.mm_poly.specs.Poly.{linear_value, with_weight, coeff_of, IsPoly, AllMono, with_coeff, plus, times_term, times, variable_of, constant_of, joined}
use Rattle.std.specs.FinMap.{nat_cmp-IsAntisymmetric}
use Rattle.mm_poly.proofs.CaseLaws.{by_cases}
use Rattle.mm_poly.proofs.ValueLaws.{one_mul, sum_zero, multiple_of_term}
use Rattle.mm_poly.proofs.CoeffLaws.{unique}
use Rattle.mm_poly.proofs.LinearLaws.{linear_add_term, linear_plus, linear_constant, linear_set}
use Rattle.mm_poly.proofs.PolyLaws.{poly_plus, poly_times, poly_with}
use Rattle.mm_poly.proofs.FactorLaws.{less_is, more_is, mono_factor, factor_first, times_nil}
use Rattle.mm_poly.proofs.ExponentLaws.{mono_without, exponent_below, times_swap}
use Rattle.mm_poly.proofs.TestLaws.{above_through, nat_more}
use Rattle.box_enum.specs.machine.Putting.{exponent, without, put_value, put_terms, quotient_terms, cofactor_terms, cofactor, difference}
use Rattle.box_enum.proofs.JoiningLaws.{linear_joined, linear_append, with_joined, poly_of_joined}

-- ---- a variable of a monomial

pub by_equal : (a b : ℕ) {G : Type 0} → (a ≡ b → G) → ((a ≡ b → ⊥) → G) → G
by_equal a b {G = G} s n = by_test (a == b) refl
  where
    by_test : (t : Bool) → (a == b) ≡ t → G
    by_test true e = s (eqb-true a b e)
    by_test false e = n (λ h. absurd (subst (λ (t : Bool). t ≡ false → ⊥) (sym (eq-eqb a b h)) (λ f. cc) e))

is_first : (f : ℕ × ℕ) (x : ℕ) → f.0 ≡ x → ((f.0 == x) ≡ true) × ((x == f.0) ≡ true)
is_first f x e = (eq-eqb f.0 x e, eq-eqb x f.0 (sym e))

is_other : (f : ℕ × ℕ) (x : ℕ) → (f.0 ≡ x → ⊥) → ((f.0 == x) ≡ false) × ((x == f.0) ≡ false)
is_other f x n = (ne_eqb f.0 x n, ne_eqb x f.0 (λ e. n (sym e)))

pub exponent_same : (x : ℕ) (m : List (ℕ × ℕ)) → exponent x m ≡ exponent_of m x
exponent_same x [] = refl
exponent_same x (f ∷ fs) = by_equal f.0 x
    (λ e. let s = is_first f x e in rw (s.0, s.1) refl)
    (λ n. let s = is_other f x n in rw (s.0, s.1) (exponent_same x fs))

without_absent : (x : ℕ) (fs : List (ℕ × ℕ)) → VarsAbove x fs → without_variable fs x ≡ fs
without_absent x [] a = refl
without_absent x (f ∷ fs) a =
    let e : (f.0 == x) ≡ false = ne_eqb f.0 x (λ s. omega (arith, a.0)) in
    rw e (ap (λ (r : List (ℕ × ℕ)). f ∷ r) (without_absent x fs a.1))

without_first : (f : ℕ × ℕ) (fs : List (ℕ × ℕ)) (x : ℕ) → f.0 ≡ x → VarsAbove f.0 fs → without_variable (f ∷ fs) x ≡ fs
without_first f fs x e a = let s = is_first f x e in rw s.0 (without_absent x fs (subst (λ w. VarsAbove w fs) e a))

without_other : (f : ℕ × ℕ) (fs : List (ℕ × ℕ)) (x : ℕ) → (f.0 ≡ x → ⊥) → without_variable (f ∷ fs) x ≡ f ∷ without_variable fs x
without_other f fs x n = let s = is_other f x n in rw s.0 refl

pub without_same : (x : ℕ) (m : List (ℕ × ℕ)) → IsMono m → without x m ≡ without_variable m x
without_same x [] a = refl
without_same x (f ∷ fs) a = by_equal f.0 x
    (λ e. let s = is_first f x e in rw s.1 (sym (without_first f fs x e a.1)))
    (λ n. let s = is_other f x n in rw s.1 (ap (λ (r : List (ℕ × ℕ)). f ∷ r) (without_same x fs a.2) ∙ sym (without_other f fs x n)))

exponent_first : (f : ℕ × ℕ) (fs : List (ℕ × ℕ)) (x : ℕ) → f.0 ≡ x → exponent_of (f ∷ fs) x ≡ f.1
exponent_first f fs x e = let s = is_first f x e in rw s.0 refl

exponent_other : (f : ℕ × ℕ) (fs : List (ℕ × ℕ)) (x : ℕ) → (f.0 ≡ x → ⊥) → exponent_of (f ∷ fs) x ≡ exponent_of fs x
exponent_other f fs x n = let s = is_other f x n in rw s.0 refl

-- ---- a factor that passes others

passes : (f g : ℕ × ℕ) (gs : List (ℕ × ℕ)) → nat_cmp f.0 g.0 ≡ Less → times_factor f (g ∷ gs) ≡ f ∷ g ∷ gs
passes f g gs h = rw (h, times_factor) refl

joins : (f g : ℕ × ℕ) (gs : List (ℕ × ℕ)) → nat_cmp f.0 g.0 ≡ Equal → times_factor f (g ∷ gs) ≡ (f.0, f.1 + g.1) ∷ gs
joins f g gs h = rw (h, times_factor) refl

goes : (f g : ℕ × ℕ) (gs : List (ℕ × ℕ)) → nat_cmp f.0 g.0 ≡ Greater → times_factor f (g ∷ gs) ≡ g ∷ times_factor f gs
goes f g gs h = rw (h, times_factor) refl

-- ---- a variable's power put back

-- the power of a variable times a monomial, which is the monomial itself for the exponent 0
abbrev pub power_times : ℕ → ℕ → List (ℕ × ℕ) → List (ℕ × ℕ)
power_times x k w = cond (k == 0) w (times_factor (x, k) w)

pub power_more : (x k : ℕ) (w : List (ℕ × ℕ)) → power_times x (suc k) w ≡ times_factor (x, suc k) w
power_more x k w = let e : (suc k == 0) ≡ false = ne_eqb (suc k) 0 (λ s. omega arith) in rw e refl

-- a variable that occurs among later ones comes later
later : (g x : ℕ) (fs : List (ℕ × ℕ)) → VarsAbove g fs → (exponent_of fs x ≡ 0 → ⊥) → g < x
later g x fs a n = by_cases (nat_cmp g x)
    (λ h. less_is g x h)
    (λ h. let s = nat_cmp-IsAntisymmetric g x h in absurd (n (exponent_below fs x (subst (λ w. VarsAbove w fs) s a))))
    (λ h. let l = more_is g x h in absurd (n (exponent_below fs x (above_through x g fs l a))))

pair_of : (f : ℕ × ℕ) (x : ℕ) → f.0 ≡ x → (x, f.1) ≡ f
pair_of f x e = ap (λ (n : ℕ). (n, f.1)) (sym e)

whole_first : (f : ℕ × ℕ) (fs : List (ℕ × ℕ)) (x : ℕ) → f.0 ≡ x → 1 ≤ f.1 → VarsAbove f.0 fs → power_times x f.1 fs ≡ f ∷ fs
whole_first f fs x e one a =
    let t : (f.1 == 0) ≡ false = ne_eqb f.1 0 (λ s. omega arith) in
    rw t (factor_first (x, f.1) fs (subst (λ w. VarsAbove w fs) e a) ∙ ap (λ (p : ℕ × ℕ). p ∷ fs) (pair_of f x e))

whole_other : (f : ℕ × ℕ) (w fs : List (ℕ × ℕ)) (x k : ℕ) → power_times x k w ≡ fs → (k ≢ 0 → f.0 < x) → power_times x k (f ∷ w) ≡ f ∷ fs
whole_other f w fs x zero e l = ap (λ (r : List (ℕ × ℕ)). f ∷ r) e
whole_other f w fs x (suc k) e l =
    let more = nat_more x f.0 (l (λ s. absurd (omega arith))) in
    power_more x k (f ∷ w) ∙ goes (x, suc k) f w more ∙ ap (λ (r : List (ℕ × ℕ)). f ∷ r) (sym (power_more x k w) ∙ e)

-- the exponent that it had
pub whole : (x : ℕ) (m : List (ℕ × ℕ)) → IsMono m → with_exponent m x (exponent_of m x) ≡ m
whole x [] a = refl
whole x (f ∷ fs) a = by_equal f.0 x
    (λ e. ap (λ k. power_times x k (without_variable (f ∷ fs) x)) (exponent_first f fs x e)
    ∙ ap (λ (w : List (ℕ × ℕ)). power_times x f.1 w) (without_first f fs x e a.1)
    ∙ whole_first f fs x e a.0 a.1)
    (λ n. ap (λ k. power_times x k (without_variable (f ∷ fs) x)) (exponent_other f fs x n)
    ∙ ap (λ (w : List (ℕ × ℕ)). power_times x (exponent_of fs x) w) (without_other f fs x n)
    ∙ whole_other f (without_variable fs x) fs x (exponent_of fs x) (whole x fs a.2) (later f.0 x fs a.1))

twice : (x a b : ℕ) (w : List (ℕ × ℕ)) → times_factor (x, a) (times_factor (x, b) w) ≡ times_factor (x, a + b) w
twice x a b [] = joins (x, a) (x, b) [] (tied_itself nat_cmp_total x)
twice x a b (g ∷ gs) = by_cases (nat_cmp x g.0)
    (λ h.
    let same = tied_itself nat_cmp_total x in
    ap (λ (r : List (ℕ × ℕ)). times_factor (x, a) r) (passes (x, b) g gs h) ∙ joins (x, a) (x, b) (g ∷ gs) same ∙ sym (passes (x, a + b) g gs h))
    (λ h.
    ap (λ (r : List (ℕ × ℕ)). times_factor (x, a) r) (joins (x, b) g gs h)
    ∙ joins (x, a) (x, b + g.1) gs (tied_itself nat_cmp_total x)
    ∙ ap (λ (n : ℕ). (x, n) ∷ gs) (omega arith)
    ∙ sym (joins (x, a + b) g gs h))
    (λ h.
    ap (λ (r : List (ℕ × ℕ)). times_factor (x, a) r) (goes (x, b) g gs h)
    ∙ goes (x, a) g (times_factor (x, b) gs) h
    ∙ ap (λ (r : List (ℕ × ℕ)). g ∷ r) (twice x a b gs)
    ∙ sym (goes (x, a + b) g gs h))

pub mono_with : (m : List (ℕ × ℕ)) (x k : ℕ) → IsMono m → IsMono (with_exponent m x k)
mono_with m x zero a = mono_without m x a
mono_with m x (suc k) a = subst (λ r. IsMono r) (sym (power_more x k (without_variable m x))) (mono_factor (x, suc k) (without_variable m x) (omega arith) (mono_without m x a))

more_power : (m : List (ℕ × ℕ)) (x k : ℕ) → times_factor (x, 1) (with_exponent m x k) ≡ with_exponent m x (suc k)
more_power m x zero = sym (power_more x 0 (without_variable m x))
more_power m x (suc k) =
    ap (λ (r : List (ℕ × ℕ)). times_factor (x, 1) r) (power_more x k (without_variable m x))
    ∙ twice x 1 (suc k) (without_variable m x)
    ∙ ap (λ n. times_factor (x, n) (without_variable m x)) (omega arith)
    ∙ sym (power_more x (suc k) (without_variable m x))

-- one power more
pub times_variable : (m : List (ℕ × ℕ)) (x k : ℕ) → IsMono m → mono_times (with_exponent m x k) ((x, 1) ∷ []) ≡ with_exponent m x (suc k)
times_variable m x k a = times_swap (with_exponent m x k) ((x, 1) ∷ []) (mono_with m x k a) (omega arith, tt, tt) ∙ more_power m x k

-- ---- the value of a product where each monomial counts for itself

linear_times_term : (w : List (ℕ × ℕ) → ℤ) (t : Term) (us : List Term) → linear_value w (times_term t us) ≡ t.coeff *ℤ linear_value (λ k. w (mono_times t.mono k)) us
linear_times_term w t [] = sym (mul_zero t.coeff)
linear_times_term w t (u ∷ us) =
    linear_add_term w (record { coeff = t.coeff *ℤ u.coeff; mono = mono_times t.mono u.mono }) (times_term t us)
    ∙ ap (λ v. (t.coeff *ℤ u.coeff) *ℤ w (mono_times t.mono u.mono) +ℤ v) (linear_times_term w t us)
    ∙ multiple_of_term t.coeff u.coeff (w (mono_times t.mono u.mono)) (linear_value (λ k. w (mono_times t.mono k)) us)

pub linear_times : (w : List (ℕ × ℕ) → ℤ) (p q : List Term) → linear_value w (times p q) ≡ linear_value (λ m. linear_value (λ k. w (mono_times m k)) q) p
linear_times w [] q = refl
linear_times w (t ∷ p) q =
    linear_plus w (times_term t q) (times p q)
    ∙ ap (λ v. v +ℤ linear_value w (times p q)) (linear_times_term w t q)
    ∙ ap (λ v. t.coeff *ℤ linear_value (λ k. w (mono_times t.mono k)) q +ℤ v) (linear_times w p q)

-- a monomial times x - v
abbrev shifted : (List (ℕ × ℕ) → ℤ) → ℕ → ℤ → List (ℕ × ℕ) → ℤ
shifted w x v m = linear_value (λ k. w (mono_times m k)) (difference x v)

shifted_is : (w : List (ℕ × ℕ) → ℤ) (x : ℕ) (v : ℤ) (m : List (ℕ × ℕ)) (k : ℕ) → IsMono m
    → shifted w x v (with_exponent m x k) ≡ w (with_exponent m x (suc k)) +ℤ neg_ℤ v *ℤ w (with_exponent m x k)
shifted_is w x v m k a =
    let n = with_exponent m x k in
    linear_plus (λ r. w (mono_times n r)) (variable_of x) (constant_of (neg_ℤ v))
    ∙ ap (λ z. (pos 1 *ℤ w (mono_times n ((x, 1) ∷ [])) +ℤ pos 0) +ℤ z) (linear_constant (λ r. w (mono_times n r)) (neg_ℤ v))
    ∙ ap (λ z. z +ℤ neg_ℤ v *ℤ w (mono_times n [])) (sum_zero (pos 1 *ℤ w (mono_times n ((x, 1) ∷ []))) ∙ one_mul (w (mono_times n ((x, 1) ∷ []))))
    ∙ ap (λ r. w r +ℤ neg_ℤ v *ℤ w (mono_times n [])) (times_variable m x k a)
    ∙ ap (λ r. w (with_exponent m x (suc k)) +ℤ neg_ℤ v *ℤ w r) (times_nil n (mono_with m x k a))

first_power : (c z : ℤ) → pos 0 ≡ c *ℤ z +ℤ neg_ℤ ((c *ℤ pos 1) *ℤ z)
first_power c z =
    let one : c *ℤ pos 1 ≡ c = *ℤ_comm c (pos 1) ∙ one_mul c in
    rw one (omega (arith, ints))

cancels : (c v a b p z : ℤ) → c *ℤ (a +ℤ neg_ℤ v *ℤ b) +ℤ ((c *ℤ v) *ℤ b +ℤ neg_ℤ (((c *ℤ v) *ℤ p) *ℤ z)) ≡ c *ℤ a +ℤ neg_ℤ ((c *ℤ (v *ℤ p)) *ℤ z)
cancels c v a b p z = simp ring (omega (arith, ints))

-- all powers between cancel
linear_quotient : (w : List (ℕ × ℕ) → ℤ) (x : ℕ) (v c : ℤ) (k : ℕ) (m : List (ℕ × ℕ)) → IsMono m
    → linear_value (shifted w x v) (quotient_terms x v c k m) ≡ c *ℤ w (with_exponent m x k) +ℤ neg_ℤ ((c *ℤ power v k) *ℤ w (without_variable m x))
linear_quotient w x v c zero m a = first_power c (w (without_variable m x))
linear_quotient w x v c (suc k) m a =
    ap (λ z. c *ℤ z +ℤ linear_value (shifted w x v) (quotient_terms x v (c *ℤ v) k m)) (shifted_is w x v m k a)
    ∙ ap (λ z. c *ℤ (w (with_exponent m x (suc k)) +ℤ neg_ℤ v *ℤ w (with_exponent m x k)) +ℤ z) (linear_quotient w x v (c *ℤ v) k m a)
    ∙ cancels c v (w (with_exponent m x (suc k))) (w (with_exponent m x k)) (power v k) (w (without_variable m x))

parts : (c a p z : ℤ) → c *ℤ a +ℤ (neg_ℤ c *ℤ a +ℤ neg_ℤ ((neg_ℤ c *ℤ p) *ℤ z)) ≡ (c *ℤ p) *ℤ z
parts c a p z = simp ring (omega (arith, ints))

both_sums : (a b c d : ℤ) → (a +ℤ b) +ℤ (c +ℤ d) ≡ (a +ℤ c) +ℤ (b +ℤ d)
both_sums a b c d = omega (arith, ints)

linear_cofactor : (w : List (ℕ × ℕ) → ℤ) (x : ℕ) (v : ℤ) (p : List Term) → AllMono p
    → linear_value w p +ℤ linear_value (shifted w x v) (cofactor_terms x v p) ≡ linear_value w (put_terms x v p)
linear_cofactor w x v [] a = refl
linear_cofactor w x v (t ∷ ts) a =
    let e = exponent_of t.mono x in
    let q = quotient_terms x v (neg_ℤ t.coeff) e t.mono in
    let own : linear_value (shifted w x v) q ≡ neg_ℤ t.coeff *ℤ w t.mono +ℤ neg_ℤ ((neg_ℤ t.coeff *ℤ power v e) *ℤ w (without_variable t.mono x)) =
    linear_quotient w x v (neg_ℤ t.coeff) e t.mono a.0
    ∙ ap (λ m. neg_ℤ t.coeff *ℤ w m +ℤ neg_ℤ ((neg_ℤ t.coeff *ℤ power v e) *ℤ w (without_variable t.mono x))) (whole x t.mono a.0) in
    ap (λ z. (t.coeff *ℤ w t.mono +ℤ linear_value w ts) +ℤ z) (linear_append (shifted w x v) q (cofactor_terms x v ts))
    ∙ both_sums (t.coeff *ℤ w t.mono) (linear_value w ts) (linear_value (shifted w x v) q) (linear_value (shifted w x v) (cofactor_terms x v ts))
    ∙ ap (λ z. (t.coeff *ℤ w t.mono +ℤ z) +ℤ (linear_value w ts +ℤ linear_value (shifted w x v) (cofactor_terms x v ts))) own
    ∙ ap (λ z. z +ℤ (linear_value w ts +ℤ linear_value (shifted w x v) (cofactor_terms x v ts))) (parts t.coeff (w t.mono) (power v e) (w (without_variable t.mono x)))
    ∙ ap (λ z. (t.coeff *ℤ power v e) *ℤ w (without_variable t.mono x) +ℤ z) (linear_cofactor w x v ts a.1)

-- ---- polynomials with the same values

times_one : (a : ℤ) → a *ℤ pos 1 ≡ a
times_one a = *ℤ_comm a (pos 1) ∙ one_mul a

same_coeff : (a b l m : ℤ) → a *ℤ pos 1 +ℤ l ≡ b *ℤ pos 1 +ℤ m → l ≡ m → a ≡ b
same_coeff a b l m h k = omega (arith, ints, times_one a, times_one b)

abbrev nothing : List (ℕ × ℕ) → ℤ
nothing m = pos 0

pub same_values : (p q : List Term) → IsPoly p → IsPoly q → ((w : List (ℕ × ℕ) → ℤ) → linear_value w p ≡ linear_value w q) → p ≡ q
same_values p q a b h = unique p q a b (λ m.
    same_coeff (coeff_of p m) (coeff_of q m) (linear_value (with_weight nothing m (pos 0)) p) (linear_value (with_weight nothing m (pos 0)) q)
    (sym (linear_set nothing m (pos 1) p a) ∙ h (with_weight nothing m (pos 1)) ∙ linear_set nothing m (pos 1) q b)
    (h (with_weight nothing m (pos 0))))

-- ---- the value put for the variable

pub put_joined : (x : ℕ) (v : ℤ) (p : List Term) → AllMono p → put_value x v p ≡ joined (put_terms x v p)
put_joined x v [] a = refl
put_joined x v (t ∷ ts) a =
    ap (λ k. plus (with_coeff (t.coeff *ℤ power v k) (without x t.mono) []) (put_value x v ts)) (exponent_same x t.mono)
    ∙ ap (λ m. plus (with_coeff (t.coeff *ℤ power v (exponent_of t.mono x)) m []) (put_value x v ts)) (without_same x t.mono a.0)
    ∙ ap (λ r. plus (with_coeff (t.coeff *ℤ power v (exponent_of t.mono x)) (without_variable t.mono x) []) r) (put_joined x v ts a.1)
    ∙ with_joined (t.coeff *ℤ power v (exponent_of t.mono x)) (without_variable t.mono x) (put_terms x v ts)

one_nonzero : pos 1 ≢ pos 0
one_nonzero e = absurd (omega (arith, ints))

pub poly_difference : (x : ℕ) (v : ℤ) → IsPoly (difference x v)
poly_difference x v = poly_plus (variable_of x) (constant_of (neg_ℤ v)) (one_nonzero, tt, tt) (poly_with (neg_ℤ v) [] [] tt tt)

pub put_is : (x : ℕ) (v : ℤ) (p : List Term) → IsPoly p → AllMono p → plus p (times (cofactor x v p) (difference x v)) ≡ put_value x v p
put_is x v p a m =
    same_values (plus p (times (cofactor x v p) (difference x v))) (joined (put_terms x v p))
    (poly_plus p (times (cofactor x v p) (difference x v)) a (poly_times (cofactor x v p) (difference x v) (poly_of_joined (cofactor_terms x v p)) (poly_difference x v)))
    (poly_of_joined (put_terms x v p))
    (λ w. linear_plus w p (times (cofactor x v p) (difference x v))
    ∙ ap (λ z. linear_value w p +ℤ z) (linear_times w (cofactor x v p) (difference x v) ∙ linear_joined (shifted w x v) (cofactor_terms x v p))
    ∙ linear_cofactor w x v p m
    ∙ sym (linear_joined w (put_terms x v p)))
    ∙ sym (put_joined x v p m)
