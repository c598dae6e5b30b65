-- The parts of a polynomial: the constant stands last, and each other term before it.
use Rattle.std.specs.Prelude.{◌≡◌, ℕ, suc, ◌+◌, ◌-◌, ◌<◌, ◌≤◌, ℤ, pos, ◌+ℤ◌, unsigned_abs, List, [], ◌∷◌, length, take, drop, cond, refl}
use Rattle.std.proofs.Common.{get_or, ap, sym, ◌∙◌, subst, arith}
use Rattle.std.proofs.lemmas.Int.{ints}
use Rattle.std.specs.declared.cmp.Ordering.{Ordering}
use Rattle.std.specs.declared.cmp.Ordering.TheVariants.{Less, Equal, Greater}
use Rattle.std.specs.Ordering.{nat_cmp, ordering_then}
use Rattle.std.specs.Cmp.Lexicographic.{slice_cmp}
use Rattle.mm_poly.specs.declared.term.Term.{Term}
use Rattle.mm_poly.specs.Mono.{factor_cmp, mono_cmp, mono_degree, is_constant, IsMono}
use Rattle.mm_poly.specs.Poly.{norm, coeff_of, AllAfter, IsPoly, AllMono, constant_part, without_constant}
use Rattle.mm_poly.proofs.OrderLaws.{mono_same, mono_not_self}
use Rattle.mm_poly.proofs.CaseLaws.{by_same}
use Rattle.mm_poly.proofs.MergeSteps.{front}
use Rattle.mm_poly.proofs.TestLaws.{nat_more}
use Rattle.mm_poly.proofs.ValueLaws.{sum_zero}

decided : (o r : Ordering) → o ≡ Greater → ordering_then o r ≡ Less → ⊥
decided Less r g e = cc
decided Equal r g e = cc
decided Greater r g e = cc

-- no monomial comes after the constant one
pub constant_last : (m : List (ℕ × ℕ)) → IsMono m → mono_cmp [] m ≡ Less → ⊥
constant_last [] a e = mono_not_self [] e
constant_last (f ∷ fs) a e = decided (nat_cmp (mono_degree (f ∷ fs)) 0) (slice_cmp factor_cmp [] (f ∷ fs)) (nat_more (mono_degree (f ∷ fs)) 0 (omega (arith, a.0))) e

-- a term that isn't constant, and one that is
pub unknown_first : (t : Term) (ts : List Term) → (t.mono ≡ [] → ⊥) → (without_constant (t ∷ ts) ≡ t ∷ without_constant ts) × (constant_part (t ∷ ts) ≡ constant_part ts)
unknown_first t ts n = by_mono t.mono refl
  where
    by_mono : (m : List (ℕ × ℕ)) → t.mono ≡ m → (without_constant (t ∷ ts) ≡ t ∷ without_constant ts) × (constant_part (t ∷ ts) ≡ constant_part ts)
    by_mono [] e = absurd (n e)
    by_mono (f ∷ fs) e = (
      ap (λ (k : List (ℕ × ℕ)). cond (is_constant k) (without_constant ts) (t ∷ without_constant ts)) e,
      ap (λ (k : List (ℕ × ℕ)). cond (is_constant k) (t.coeff +ℤ constant_part ts) (constant_part ts)) e,
    )

pub constant_first : (t : Term) (ts : List Term) → t.mono ≡ [] → (without_constant (t ∷ ts) ≡ without_constant ts) × (constant_part (t ∷ ts) ≡ t.coeff +ℤ constant_part ts)
constant_first t ts e = (
  ap (λ (k : List (ℕ × ℕ)). cond (is_constant k) (without_constant ts) (t ∷ without_constant ts)) e,
  ap (λ (k : List (ℕ × ℕ)). cond (is_constant k) (t.coeff +ℤ constant_part ts) (constant_part ts)) e,
)

-- a term before another one isn't constant
pub before_another : (t u : Term) (us : List Term) → AllAfter t.mono (u ∷ us) → IsMono u.mono → t.mono ≡ [] → ⊥
before_another t u us a m e = constant_last u.mono m (subst (λ k. mono_cmp k u.mono ≡ Less) e a.0)

-- the last term where it is constant: the others are not
pub last_constant : (p : List Term) (t : Term) → IsPoly p → AllMono p → 0 < length p → t ≡ get_or p (length p - 1) t → t.mono ≡ []
    → (without_constant p ≡ take (length p - 1) p) × (constant_part p ≡ t.coeff)
last_constant [] t a m h is e = absurd (omega arith)
last_constant (u ∷ []) t a m h is e =
    let same : t ≡ u = is in
    let k : u.mono ≡ [] = ap (λ (v : Term). v.mono) (sym same) ∙ e in
    let c = constant_first u [] k in
    (c.0, c.1 ∙ sum_zero u.coeff ∙ ap (λ (v : Term). v.coeff) (sym same))
last_constant (u ∷ v ∷ vs) t a m h is e =
    let c = unknown_first u (v ∷ vs) (before_another u v vs a.1 m.1.0) in
    let n : length (u ∷ v ∷ vs) - 1 ≡ suc (length (v ∷ vs) - 1) = omega arith in
    let r = last_constant (v ∷ vs) t a.2 m.1 (omega arith) (is ∙ ap (λ k. get_or (u ∷ v ∷ vs) k t) n) e in
    (c.0 ∙ ap (λ (us : List Term). u ∷ us) r.0 ∙ ap (λ k. take k (u ∷ v ∷ vs)) (sym n), c.1 ∙ r.1)

-- the last term where it isn't constant: none is
pub last_unknown : (p : List Term) (t : Term) → IsPoly p → AllMono p → 0 < length p → t ≡ get_or p (length p - 1) t → (t.mono ≡ [] → ⊥)
    → (without_constant p ≡ p) × (constant_part p ≡ pos 0)
last_unknown [] t a m h is e = absurd (omega arith)
last_unknown (u ∷ []) t a m h is e =
    let same : t ≡ u = is in
    unknown_first u [] (λ k. e (ap (λ (v : Term). v.mono) same ∙ k))
last_unknown (u ∷ v ∷ vs) t a m h is e =
    let c = unknown_first u (v ∷ vs) (before_another u v vs a.1 m.1.0) in
    let n : length (u ∷ v ∷ vs) - 1 ≡ suc (length (v ∷ vs) - 1) = omega arith in
    let r = last_unknown (v ∷ vs) t a.2 m.1 (omega arith) (is ∙ ap (λ k. get_or (u ∷ v ∷ vs) k t) n) e in
    (c.0 ∙ ap (λ (us : List Term). u ∷ us) r.0, c.1 ∙ r.1)

pub no_terms : (p : List Term) → length p ≤ 0 → (p ≡ []) × (without_constant p ≡ p) × (constant_part p ≡ pos 0)
no_terms [] h = (refl, refl, refl)
no_terms (t ∷ ts) h = absurd (omega arith)

-- ---- coefficients

pub coeff_found : (t : Term) (ts : List Term) (m : List (ℕ × ℕ)) → t.mono ≡ m → coeff_of (t ∷ ts) m ≡ t.coeff
coeff_found t ts m e = rw (e, mono_same m) refl

pub coeff_passed : (t : Term) (ts : List Term) (m : List (ℕ × ℕ)) → (t.mono ≡ m → ⊥) → coeff_of (t ∷ ts) m ≡ coeff_of ts m
coeff_passed t ts m n = by_same t.mono m t.coeff (coeff_of ts m) (λ r. r ≡ coeff_of ts m) (λ e. absurd (n e)) refl

-- the coefficients that are left decide
pub coeff_step : (ts : List Term) (n : ℕ) (t : Term) (m : List (ℕ × ℕ)) → n < length ts → t ≡ get_or ts n t → (t.mono ≡ m → ⊥) → coeff_of (drop n ts) m ≡ coeff_of ts m
    → coeff_of (drop (n + 1) ts) m ≡ coeff_of ts m
coeff_step ts n t m h is e k = sym (coeff_passed t (drop (n + 1) ts) m e) ∙ ap (λ (us : List Term). coeff_of us m) (sym (front ts n t h is)) ∙ k

pub coeff_here : (ts : List Term) (n : ℕ) (t : Term) (m : List (ℕ × ℕ)) → n < length ts → t ≡ get_or ts n t → t.mono ≡ m → coeff_of (drop n ts) m ≡ coeff_of ts m → t.coeff ≡ coeff_of ts m
coeff_here ts n t m h is e k = sym (coeff_found t (drop (n + 1) ts) m e) ∙ ap (λ (us : List Term). coeff_of us m) (sym (front ts n t h is)) ∙ k

-- no coefficient's magnitude is above the norm
pub coeff_small : (ts : List Term) (m : List (ℕ × ℕ)) → unsigned_abs (coeff_of ts m) ≤ norm ts
coeff_small [] m = omega arith
coeff_small (t ∷ ts) m = by_same t.mono m t.coeff (coeff_of ts m) (λ r. unsigned_abs r ≤ norm (t ∷ ts)) (λ e. omega arith) (omega (arith, coeff_small ts m))

pub constant_small : (ts : List Term) → unsigned_abs (constant_part ts) ≤ norm ts
constant_small [] = omega arith
constant_small (t ∷ ts) = step t.coeff t.mono (constant_part ts) (norm ts) (constant_small ts)
  where
    step : (c : ℤ) (m : List (ℕ × ℕ)) (k : ℤ) (n : ℕ) → unsigned_abs k ≤ n → unsigned_abs (cond (is_constant m) (c +ℤ k) k) ≤ unsigned_abs c + n
    step c [] k n h = omega (arith, ints)
    step c (f ∷ fs) k n h = omega arith
