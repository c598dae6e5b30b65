-- Multiplying by a monomial keeps the order of monomials.
use Rattle.std.specs.Prelude.{◌≡◌, ℕ, ◌+◌, ◌<◌, ◌≤◌, List, [], ◌∷◌, refl}
use Rattle.std.proofs.Common.{ap, sym, ◌∙◌, subst, arith}
use Rattle.std.specs.declared.cmp.Ordering.{Ordering}
use Rattle.std.specs.declared.cmp.Ordering.TheVariants.{Less, Equal, Greater}
use Rattle.std.specs.Ordering.{nat_cmp, ordering_then}
use Rattle.std.specs.Cmp.{nat_cmp_total, tied_itself}
use Rattle.std.specs.Cmp.Lexicographic.{slice_cmp}
use Rattle.std.specs.FinMap.{nat_cmp-IsAntisymmetric}
use Rattle.mm_poly.specs.Mono.{factor_cmp, mono_cmp, mono_degree, mono_times, times_factor, IsMono}
use Rattle.mm_poly.proofs.CaseLaws.{by_cases, by_factor}
use Rattle.mm_poly.proofs.OrderLaws.{factor_total, factor_exact}
use Rattle.mm_poly.proofs.TestLaws.{nat_less, nat_more}
use Rattle.mm_poly.proofs.BoundLaws.{degree_mono_times}
use Rattle.mm_poly.proofs.FactorLaws.{less_is, more_is, mono_of_times}

-- how the first factors decide
pub first_less : (g h : ℕ × ℕ) (gs hs : List (ℕ × ℕ)) → g.0 < h.0 → slice_cmp factor_cmp (g ∷ gs) (h ∷ hs) ≡ Less
first_less g h gs hs l = rw (nat_less g.0 h.0 l) refl

pub first_more : (g h : ℕ × ℕ) (gs hs : List (ℕ × ℕ)) → h.0 < g.0 → slice_cmp factor_cmp (g ∷ gs) (h ∷ hs) ≡ Greater
first_more g h gs hs l = rw (nat_more g.0 h.0 l) refl

pub power_less : (v m n : ℕ) (gs hs : List (ℕ × ℕ)) → n < m → slice_cmp factor_cmp ((v, m) ∷ gs) ((v, n) ∷ hs) ≡ Less
power_less v m n gs hs l = rw (tied_itself nat_cmp_total v, nat_less n m l) refl

pub power_more : (v m n : ℕ) (gs hs : List (ℕ × ℕ)) → m < n → slice_cmp factor_cmp ((v, m) ∷ gs) ((v, n) ∷ hs) ≡ Greater
power_more v m n gs hs l = rw (tied_itself nat_cmp_total v, nat_more n m l) refl

pub same_first : (g : ℕ × ℕ) (gs hs : List (ℕ × ℕ)) → slice_cmp factor_cmp (g ∷ gs) (g ∷ hs) ≡ slice_cmp factor_cmp gs hs
same_first g gs hs = rw (tied_itself factor_total g) refl

powers : (v m n k : ℕ) (gs hs : List (ℕ × ℕ)) → slice_cmp factor_cmp ((v, k + m) ∷ gs) ((v, k + n) ∷ hs) ≡ slice_cmp factor_cmp ((v, m) ∷ gs) ((v, n) ∷ hs)
powers v m n k gs hs = by_cases (nat_cmp m n)
    (λ e. let l = less_is m n e in power_more v (k + m) (k + n) gs hs (omega arith) ∙ sym (power_more v m n gs hs l))
    (λ e.
    let s = nat_cmp-IsAntisymmetric m n e in
    subst (λ p. slice_cmp factor_cmp ((v, k + m) ∷ gs) ((v, k + p) ∷ hs) ≡ slice_cmp factor_cmp ((v, m) ∷ gs) ((v, p) ∷ hs)) s
    (same_first (v, k + m) gs hs ∙ sym (same_first (v, m) gs hs)))
    (λ e. let l = more_is m n e in power_less v (k + m) (k + n) gs hs (omega arith) ∙ sym (power_less v m n gs hs l))

-- the same first factor, or one that decides
pub by_first : (g h : ℕ × ℕ) (gs hs ks ls : List (ℕ × ℕ)) → (g ≡ h → slice_cmp factor_cmp ks ls ≡ slice_cmp factor_cmp gs hs)
    → slice_cmp factor_cmp (g ∷ ks) (h ∷ ls) ≡ slice_cmp factor_cmp (g ∷ gs) (h ∷ hs)
by_first g h gs hs ks ls e = by_cases (factor_cmp g h)
    (λ o. ap (λ r. ordering_then r (slice_cmp factor_cmp ks ls)) o ∙ ap (λ r. ordering_then r (slice_cmp factor_cmp gs hs)) (sym o))
    (λ o. ap (λ r. ordering_then (factor_cmp g h) r) (e (factor_exact g h o)))
    (λ o. ap (λ r. ordering_then r (slice_cmp factor_cmp ks ls)) o ∙ ap (λ r. ordering_then r (slice_cmp factor_cmp gs hs)) (sym o))

same_variable : (v m n k : ℕ) (g h : ℕ × ℕ) (gs hs : List (ℕ × ℕ)) → v ≡ g.0 → v ≡ h.0
    → slice_cmp factor_cmp ((v, k + g.1) ∷ gs) ((v, k + h.1) ∷ hs) ≡ slice_cmp factor_cmp (g ∷ gs) (h ∷ hs)
same_variable v m n k g h gs hs e f =
    powers v g.1 h.1 k gs hs
    ∙ ap (λ w. slice_cmp factor_cmp ((w, g.1) ∷ gs) ((v, h.1) ∷ hs)) e
    ∙ ap (λ w. slice_cmp factor_cmp (g ∷ gs) ((w, h.1) ∷ hs)) f

pub keep_factor : (f : ℕ × ℕ) (a b : List (ℕ × ℕ)) → 1 ≤ f.1 → IsMono a → IsMono b → mono_degree a ≡ mono_degree b
    → slice_cmp factor_cmp (times_factor f a) (times_factor f b) ≡ slice_cmp factor_cmp a b
keep_factor f [] [] one m k e = same_first f [] []
keep_factor f [] (h ∷ hs) one m k e = absurd (omega (arith, k.0))
keep_factor f (g ∷ gs) [] one m k e = absurd (omega (arith, m.0))
keep_factor f (g ∷ gs) (h ∷ hs) one m k e = by_factor f g gs (λ r. slice_cmp factor_cmp r (times_factor f (h ∷ hs)) ≡ slice_cmp factor_cmp (g ∷ gs) (h ∷ hs))
    (λ o.
    let l = less_is f.0 g.0 o in
    by_factor f h hs (λ r. slice_cmp factor_cmp (f ∷ g ∷ gs) r ≡ slice_cmp factor_cmp (g ∷ gs) (h ∷ hs))
    (λ p. same_first f (g ∷ gs) (h ∷ hs))
    (λ p. let s = nat_cmp-IsAntisymmetric f.0 h.0 p in power_more f.0 f.1 (f.1 + h.1) (g ∷ gs) hs (omega (arith, k.0)) ∙ sym (first_more g h gs hs (omega arith)))
    (λ p. let q = more_is f.0 h.0 p in first_more f h (g ∷ gs) (times_factor f hs) q ∙ sym (first_more g h gs hs (omega arith))))
    (λ o.
    let s = nat_cmp-IsAntisymmetric f.0 g.0 o in
    by_factor f h hs (λ r. slice_cmp factor_cmp ((f.0, f.1 + g.1) ∷ gs) r ≡ slice_cmp factor_cmp (g ∷ gs) (h ∷ hs))
    (λ p. let l = less_is f.0 h.0 p in power_less f.0 (f.1 + g.1) f.1 gs (h ∷ hs) (omega (arith, m.0)) ∙ sym (first_less g h gs hs (omega arith)))
    (λ p. same_variable f.0 0 0 f.1 g h gs hs s (nat_cmp-IsAntisymmetric f.0 h.0 p))
    (λ p. let q = more_is f.0 h.0 p in first_more (f.0, f.1 + g.1) h gs (times_factor f hs) q ∙ sym (first_more g h gs hs (omega arith))))
    (λ o.
    let q = more_is f.0 g.0 o in
    by_factor f h hs (λ r. slice_cmp factor_cmp (g ∷ times_factor f gs) r ≡ slice_cmp factor_cmp (g ∷ gs) (h ∷ hs))
    (λ p. let l = less_is f.0 h.0 p in first_less g f (times_factor f gs) (h ∷ hs) q ∙ sym (first_less g h gs hs (omega arith)))
    (λ p. let s = nat_cmp-IsAntisymmetric f.0 h.0 p in first_less g (f.0, f.1 + h.1) (times_factor f gs) hs q ∙ sym (first_less g h gs hs (omega arith)))
    (λ p. by_first g h gs hs (times_factor f gs) (times_factor f hs)
    (λ s. keep_factor f gs hs one m.2 k.2 (let t = ap (λ (r : ℕ × ℕ). r.1) s in omega arith))))

keep_slice : (c a b : List (ℕ × ℕ)) → IsMono c → IsMono a → IsMono b → mono_degree a ≡ mono_degree b
    → slice_cmp factor_cmp (mono_times c a) (mono_times c b) ≡ slice_cmp factor_cmp a b
keep_slice [] a b l m k e = refl
keep_slice (f ∷ fs) a b l m k e =
    keep_factor f (mono_times fs a) (mono_times fs b) l.0 (mono_of_times fs a l.2 m) (mono_of_times fs b l.2 k)
    (omega (arith, degree_mono_times fs a, degree_mono_times fs b))
    ∙ keep_slice fs a b l.2 m k e

keep_number : (c a b d e : ℕ) → d ≡ c + a → e ≡ c + b → nat_cmp d e ≡ nat_cmp a b
keep_number c a b d e h k = by_cases (nat_cmp a b)
    (λ o. let l = less_is a b o in nat_less d e (omega arith) ∙ sym o)
    (λ o. let s = nat_cmp-IsAntisymmetric a b o in let t : d ≡ e = omega arith in ap (λ n. nat_cmp d n) (sym t) ∙ tied_itself nat_cmp_total d ∙ sym o)
    (λ o. let l = more_is a b o in nat_more d e (omega arith) ∙ sym o)

by_degree : (o : Ordering) (r s : Ordering) → (o ≡ Equal → r ≡ s) → ordering_then o r ≡ ordering_then o s
by_degree Less r s h = refl
by_degree Equal r s h = h refl
by_degree Greater r s h = refl

-- multiplying by a monomial keeps the order
pub keep_order : (c a b : List (ℕ × ℕ)) → IsMono c → IsMono a → IsMono b → mono_cmp (mono_times c a) (mono_times c b) ≡ mono_cmp a b
keep_order c a b l m k =
    ap (λ o. ordering_then o (slice_cmp factor_cmp (mono_times c a) (mono_times c b)))
    (keep_number (mono_degree c) (mono_degree b) (mono_degree a) (mono_degree (mono_times c b)) (mono_degree (mono_times c a)) (degree_mono_times c b) (degree_mono_times c a))
    ∙ by_degree (nat_cmp (mono_degree b) (mono_degree a)) (slice_cmp factor_cmp (mono_times c a) (mono_times c b)) (slice_cmp factor_cmp a b)
    (λ o. keep_slice c a b l m k (sym (nat_cmp-IsAntisymmetric (mono_degree b) (mono_degree a) o)))
