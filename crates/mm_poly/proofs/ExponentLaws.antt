-- A monomial is a finite map from variables to exponents; one without a variable is a monomial.
use Rattle.std.specs.Prelude.{◌≡◌, ℕ, ◌+◌, ◌^◌, ◌≤◌, ◌==◌, List, [], ◌∷◌, true, false, cond, not, refl}
use Rattle.std.proofs.Common.{ap, sym, ◌∙◌, subst, eq-eqb, arith}
use Rattle.std.proofs.lemmas.Bool.{ne_eqb}
use Rattle.std.specs.FinMap.{nat_cmp-IsAntisymmetric}
use Rattle.std.specs.Ordering.{nat_cmp}
use Rattle.mm_poly.specs.Mono.{mono_degree, VarsAbove, VarsBelow, IsMono, IsMonomial, exponent_of, without_variable, mono_times, times_factor}
use Rattle.mm_poly.proofs.CaseLaws.{by_if, by_cases, by_factor}
use Rattle.mm_poly.proofs.TestLaws.{above_through}
use Rattle.mm_poly.proofs.FactorLaws.{less_is, more_is, mono_of_times}

-- a factor stays or goes
pub by_variable : (f : ℕ × ℕ) (fs : List (ℕ × ℕ)) (v : ℕ) (P : List (ℕ × ℕ) → Type 0) → P (f ∷ without_variable fs v) → P (without_variable fs v) → P (without_variable (f ∷ fs) v)
by_variable f fs v P h k = by_if (not (f.0 == v)) (f ∷ without_variable fs v) (without_variable fs v) P (λ e. h) (λ e. k)

above_without : (w : ℕ) (fs : List (ℕ × ℕ)) (v : ℕ) → VarsAbove w fs → VarsAbove w (without_variable fs v)
above_without w [] v a = tt
above_without w (f ∷ fs) v a = let rest = above_without w fs v a.1 in by_variable f fs v (λ r. VarsAbove w r) (a.0, rest) rest

pub mono_without : (fs : List (ℕ × ℕ)) (v : ℕ) → IsMono fs → IsMono (without_variable fs v)
mono_without [] v a = tt
mono_without (f ∷ fs) v a = let rest = mono_without fs v a.2 in by_variable f fs v (λ r. IsMono r) (a.0, above_without f.0 fs v a.1, rest) rest

pub below_without : (n : ℕ) (fs : List (ℕ × ℕ)) (v : ℕ) → VarsBelow n fs → VarsBelow n (without_variable fs v)
below_without n [] v a = tt
below_without n (f ∷ fs) v a = let rest = below_without n fs v a.1 in by_variable f fs v (λ r. VarsBelow n r) (a.0, rest) rest

pub degree_without_variable : (fs : List (ℕ × ℕ)) (v : ℕ) → mono_degree (without_variable fs v) ≤ mono_degree fs
degree_without_variable [] v = omega arith
degree_without_variable (f ∷ fs) v =
    by_variable f fs v (λ r. mono_degree r ≤ mono_degree (f ∷ fs)) (omega (arith, degree_without_variable fs v)) (omega (arith, degree_without_variable fs v))

pub monomial_without : (fs : List (ℕ × ℕ)) (v : ℕ) → IsMonomial fs → IsMonomial (without_variable fs v)
monomial_without fs v m = record {
  order = mono_without fs v m.order;
  degree = omega (arith, degree_without_variable fs v, m.degree);
  room = below_without (2 ^ 32) fs v m.room;
}

-- ---- exponents

-- a variable below all has no exponent
pub exponent_below : (fs : List (ℕ × ℕ)) (v : ℕ) → VarsAbove v fs → exponent_of fs v ≡ 0
exponent_below [] v a = refl
exponent_below (f ∷ fs) v a = let e : (f.0 == v) ≡ false = ne_eqb f.0 v (λ s. omega (arith, a.0)) in rw e (exponent_below fs v a.1)

exponent_first : (f : ℕ × ℕ) (fs : List (ℕ × ℕ)) → exponent_of (f ∷ fs) f.0 ≡ f.1
exponent_first f fs = let e : (f.0 == f.0) ≡ true = eq-eqb f.0 f.0 refl in rw e refl

exponent_other : (f : ℕ × ℕ) (fs : List (ℕ × ℕ)) (v : ℕ) → (f.0 ≡ v → ⊥) → exponent_of (f ∷ fs) v ≡ exponent_of fs v
exponent_other f fs v n = let e : (f.0 == v) ≡ false = ne_eqb f.0 v n in rw e refl

-- what a factor adds to the exponent of a variable
abbrev added : (ℕ × ℕ) → ℕ → ℕ
added f v = cond (f.0 == v) f.1 0

by_equal : (a b : ℕ) {G : Type 0} → (a ≡ b → G) → ((a ≡ b → ⊥) → G) → G
by_equal a b s n = by_cases (nat_cmp a b)
    (λ h. n (λ e. let l = less_is a b h in absurd (omega arith)))
    (λ h. s (nat_cmp-IsAntisymmetric a b h))
    (λ h. n (λ e. let l = more_is a b h in absurd (omega arith)))

added_here : (f : ℕ × ℕ) (v : ℕ) → f.0 ≡ v → added f v ≡ f.1
added_here f v e = let t : (f.0 == v) ≡ true = eq-eqb f.0 v e in rw t refl

added_there : (f : ℕ × ℕ) (v : ℕ) → (f.0 ≡ v → ⊥) → added f v ≡ 0
added_there f v n = let t : (f.0 == v) ≡ false = ne_eqb f.0 v n in rw t refl

exponent_cons : (f : ℕ × ℕ) (fs : List (ℕ × ℕ)) (v : ℕ) → VarsAbove f.0 fs → exponent_of (f ∷ fs) v ≡ added f v + exponent_of fs v
exponent_cons f fs v a = by_equal f.0 v
    (λ e.
    let first : exponent_of (f ∷ fs) v ≡ f.1 = subst (λ w. exponent_of (f ∷ fs) w ≡ f.1) e (exponent_first f fs) in
    let none : exponent_of fs v ≡ 0 = subst (λ w. exponent_of fs w ≡ 0) e (exponent_below fs f.0 a) in
    omega (arith, first, none, added_here f v e))
    (λ n. omega (arith, exponent_other f fs v n, added_there f v n))

added_sum : (f g : ℕ × ℕ) (v : ℕ) → f.0 ≡ g.0 → added (f.0, f.1 + g.1) v ≡ added f v + added g v
added_sum f g v e = by_equal f.0 v
    (λ s. omega (arith, added_here f v s, added_here g v (sym e ∙ s), added_here (f.0, f.1 + g.1) v s))
    (λ n. omega (arith, added_there f v n, added_there g v (λ s. n (e ∙ s)), added_there (f.0, f.1 + g.1) v n))

pub exponent_factor : (f : ℕ × ℕ) (gs : List (ℕ × ℕ)) (v : ℕ) → IsMono gs → exponent_of (times_factor f gs) v ≡ added f v + exponent_of gs v
exponent_factor f [] v m = exponent_cons f [] v tt
exponent_factor f (g ∷ gs) v m = by_factor f g gs (λ r. exponent_of r v ≡ added f v + exponent_of (g ∷ gs) v)
    (λ e. let l = less_is f.0 g.0 e in exponent_cons f (g ∷ gs) v (l, above_through f.0 g.0 gs l m.1))
    (λ e.
    let s = nat_cmp-IsAntisymmetric f.0 g.0 e in
    let a : VarsAbove f.0 gs = subst (λ w. VarsAbove w gs) (sym s) m.1 in
    omega (arith, exponent_cons (f.0, f.1 + g.1) gs v a, exponent_cons g gs v m.1, added_sum f g v s))
    (λ e. by_equal g.0 v
    (λ s.
    let other : f.0 ≡ v → ⊥ = λ q. let l = more_is f.0 g.0 e in absurd (omega arith) in
    let first : (fs : List (ℕ × ℕ)) → exponent_of (g ∷ fs) v ≡ g.1 = λ fs. subst (λ w. exponent_of (g ∷ fs) w ≡ g.1) s (exponent_first g fs) in
    omega (arith, first (times_factor f gs), first gs, added_there f v other))
    (λ n. omega (arith, exponent_other g (times_factor f gs) v n, exponent_other g gs v n, exponent_factor f gs v m.2)))

-- the exponents of a product are the sums
pub exponent_times : (a b : List (ℕ × ℕ)) (v : ℕ) → IsMono a → IsMono b → exponent_of (mono_times a b) v ≡ exponent_of a v + exponent_of b v
exponent_times [] b v m k = omega arith
exponent_times (f ∷ fs) b v m k =
    omega (arith, exponent_factor f (mono_times fs b) v (mono_of_times fs b m.2 k), exponent_times fs b v m.2 k, exponent_cons f fs v m.1)

not_first : (f : ℕ × ℕ) (fs gs : List (ℕ × ℕ)) → 1 ≤ f.1 → VarsAbove f.0 gs → exponent_of (f ∷ fs) f.0 ≡ exponent_of gs f.0 → ⊥
not_first f fs gs one a e = absurd (omega (arith, exponent_first f fs, exponent_below gs f.0 a))

pair_is : (f g : ℕ × ℕ) → f.0 ≡ g.0 → f.1 ≡ g.1 → f ≡ g
pair_is f g e h = ap (λ (n : ℕ). (n, f.1)) e ∙ ap (λ (n : ℕ). (g.0, n)) h

-- two monomials with the same exponents are the same
pub mono_unique : (a b : List (ℕ × ℕ)) → IsMono a → IsMono b → ((v : ℕ) → exponent_of a v ≡ exponent_of b v) → a ≡ b
mono_unique [] [] m k h = refl
mono_unique [] (g ∷ gs) m k h = absurd (not_first g gs [] k.0 tt (sym (h g.0)))
mono_unique (f ∷ fs) [] m k h = absurd (not_first f fs [] m.0 tt (h f.0))
mono_unique (f ∷ fs) (g ∷ gs) m k h = by_cases (nat_cmp f.0 g.0)
    (λ e. let l = less_is f.0 g.0 e in absurd (not_first f fs (g ∷ gs) m.0 (l, above_through f.0 g.0 gs l k.1) (h f.0)))
    (λ e.
    let s = nat_cmp-IsAntisymmetric f.0 g.0 e in
    let there : exponent_of (f ∷ fs) g.0 ≡ f.1 = subst (λ w. exponent_of (f ∷ fs) w ≡ f.1) s (exponent_first f fs) in
    let same : f.1 ≡ g.1 = sym there ∙ h g.0 ∙ exponent_first g gs in
    let both : (v : ℕ) → added f v ≡ added g v = λ v. ap (λ p. added p v) (pair_is f g s same) in
    let rest = mono_unique fs gs m.2 k.2 (λ v. omega (arith, h v, exponent_cons f fs v m.1, exponent_cons g gs v k.1, both v)) in
    ap (λ (p : ℕ × ℕ). p ∷ fs) (pair_is f g s same) ∙ ap (λ (r : List (ℕ × ℕ)). g ∷ r) rest)
    (λ e. let l = more_is f.0 g.0 e in absurd (not_first g gs (f ∷ fs) k.0 (l, above_through g.0 f.0 fs l m.1) (sym (h g.0))))

-- the factors' order doesn't matter
pub times_swap : (a b : List (ℕ × ℕ)) → IsMono a → IsMono b → mono_times a b ≡ mono_times b a
times_swap a b m k = mono_unique (mono_times a b) (mono_times b a) (mono_of_times a b m k) (mono_of_times b a k m)
    (λ v. omega (arith, exponent_times a b v m k, exponent_times b a v k m))
