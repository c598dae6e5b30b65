-- At one degree monomials are ordered as their lists of variables, each repeated by its exponent.
use Rattle.std.specs.Prelude.{◌≡◌, ℕ, zero, suc, ◌+◌, ◌<◌, ◌≤◌, ◌-◌, List, [], ◌∷◌, ◌++◌, replicate, refl}
use Rattle.std.proofs.Common.{ap, sym, ◌∙◌, subst, append_assoc, arith}
use Rattle.std.proofs.lemmas.List.{replicate-append-replicate}
use Rattle.std.specs.declared.cmp.Ordering.TheVariants.{Less, Greater}
use Rattle.std.specs.Ordering.{nat_cmp, ordering_then}
use Rattle.std.specs.Cmp.{nat_cmp_total, tied_itself}
use Rattle.std.specs.Cmp.Lexicographic.{slice_cmp}
use Rattle.std.specs.FinMap.{nat_cmp-IsAntisymmetric}
use Rattle.mm_poly.specs.Mono.{factor_cmp, mono_cmp, mono_degree, repeated, VarsAbove, IsMono}
use Rattle.mm_poly.proofs.CaseLaws.{by_cases}
use Rattle.mm_poly.proofs.TestLaws.{nat_less, nat_more}
use Rattle.mm_poly.proofs.FactorLaws.{less_is, more_is}
use Rattle.mm_poly.proofs.KeepLaws.{first_less, first_more, power_less, power_more, same_first}

-- equal beginnings don't decide
strip : (n v : ℕ) (xs ys : List ℕ) → slice_cmp nat_cmp (replicate n v ++ xs) (replicate n v ++ ys) ≡ slice_cmp nat_cmp xs ys
strip zero v xs ys = refl
strip (suc n) v xs ys = rw (tied_itself nat_cmp_total v) (strip n v xs ys)

heads_less : (v w : ℕ) (xs ys : List ℕ) → v < w → slice_cmp nat_cmp (v ∷ xs) (w ∷ ys) ≡ Less
heads_less v w xs ys h = rw (nat_less v w h) refl

heads_more : (v w : ℕ) (xs ys : List ℕ) → w < v → slice_cmp nat_cmp (v ∷ xs) (w ∷ ys) ≡ Greater
heads_more v w xs ys h = rw (nat_more v w h) refl

-- a variable before all of a monomial that has one
lead_less : (v : ℕ) (xs : List ℕ) (hs : List (ℕ × ℕ)) → IsMono hs → VarsAbove v hs → 1 ≤ mono_degree hs → slice_cmp nat_cmp (v ∷ xs) (repeated hs) ≡ Less
lead_less v xs [] m a d = absurd (omega arith)
lead_less v xs ((w, zero) ∷ hs) m a d = absurd (omega (arith, m.0))
lead_less v xs ((w, suc n) ∷ hs) m a d = heads_less v w xs (replicate n w ++ repeated hs) a.0

lead_more : (v : ℕ) (xs : List ℕ) (hs : List (ℕ × ℕ)) → IsMono hs → VarsAbove v hs → 1 ≤ mono_degree hs → slice_cmp nat_cmp (repeated hs) (v ∷ xs) ≡ Greater
lead_more v xs [] m a d = absurd (omega arith)
lead_more v xs ((w, zero) ∷ hs) m a d = absurd (omega (arith, m.0))
lead_more v xs ((w, suc n) ∷ hs) m a d = heads_more w v (replicate n w ++ repeated hs) xs a.0

-- a power is a lower one and what is left of it
split : (v m n d : ℕ) (xs : List ℕ) → n ≡ m + suc d → replicate n v ++ xs ≡ replicate m v ++ v ∷ (replicate d v ++ xs)
split v m n d xs e =
    ap (λ k. replicate k v ++ xs) e
    ∙ ap (λ (r : List ℕ). r ++ xs) (sym (replicate-append-replicate m (suc d) v))
    ∙ append_assoc (replicate m v) (replicate (suc d) v) xs

above_it : (m n : ℕ) → m < n → (d : ℕ) × (n ≡ m + suc d)
above_it m zero h = absurd (omega arith)
above_it m (suc n) h = (n - m, omega arith)

same_lead : (v m n : ℕ) (gs hs : List (ℕ × ℕ)) → IsMono gs → IsMono hs → VarsAbove v gs → VarsAbove v hs → m + mono_degree gs ≡ n + mono_degree hs
    → (m ≡ n → slice_cmp factor_cmp gs hs ≡ slice_cmp nat_cmp (repeated gs) (repeated hs))
    → slice_cmp factor_cmp ((v, m) ∷ gs) ((v, n) ∷ hs) ≡ slice_cmp nat_cmp (replicate m v ++ repeated gs) (replicate n v ++ repeated hs)
same_lead v m n gs hs a b k l e rest = by_cases (nat_cmp m n)
    (λ o.
    let less = less_is m n o in
    let p = above_it m n less in
    power_more v m n gs hs less
    ∙ sym (ap (λ (r : List ℕ). slice_cmp nat_cmp (replicate m v ++ repeated gs) r) (split v m n p.0 (repeated hs) p.1)
    ∙ strip m v (repeated gs) (v ∷ (replicate p.0 v ++ repeated hs))
    ∙ lead_more v (replicate p.0 v ++ repeated hs) gs a k (omega (arith, p.1))))
    (λ o.
    let s = nat_cmp-IsAntisymmetric m n o in
    subst (λ i. slice_cmp factor_cmp ((v, m) ∷ gs) ((v, i) ∷ hs) ≡ slice_cmp nat_cmp (replicate m v ++ repeated gs) (replicate i v ++ repeated hs)) s
    (same_first (v, m) gs hs ∙ rest s ∙ sym (strip m v (repeated gs) (repeated hs))))
    (λ o.
    let more = more_is m n o in
    let p = above_it n m more in
    power_less v m n gs hs more
    ∙ sym (ap (λ (r : List ℕ). slice_cmp nat_cmp r (replicate n v ++ repeated hs)) (split v n m p.0 (repeated gs) p.1)
    ∙ strip n v (v ∷ (replicate p.0 v ++ repeated gs)) (repeated hs)
    ∙ lead_less v (replicate p.0 v ++ repeated gs) hs b l (omega (arith, p.1))))

leads_less : (v m w n : ℕ) (gs hs : List (ℕ × ℕ)) → 1 ≤ m → 1 ≤ n → v < w → slice_cmp nat_cmp (replicate m v ++ repeated gs) (replicate n w ++ repeated hs) ≡ Less
leads_less v zero w n gs hs a b h = absurd (omega arith)
leads_less v (suc m) w zero gs hs a b h = absurd (omega arith)
leads_less v (suc m) w (suc n) gs hs a b h = heads_less v w (replicate m v ++ repeated gs) (replicate n w ++ repeated hs) h

leads_more : (v m w n : ℕ) (gs hs : List (ℕ × ℕ)) → 1 ≤ m → 1 ≤ n → w < v → slice_cmp nat_cmp (replicate m v ++ repeated gs) (replicate n w ++ repeated hs) ≡ Greater
leads_more v zero w n gs hs a b h = absurd (omega arith)
leads_more v (suc m) w zero gs hs a b h = absurd (omega arith)
leads_more v (suc m) w (suc n) gs hs a b h = heads_more v w (replicate m v ++ repeated gs) (replicate n w ++ repeated hs) h

pub repeated_order : (a b : List (ℕ × ℕ)) → IsMono a → IsMono b → mono_degree a ≡ mono_degree b → slice_cmp factor_cmp a b ≡ slice_cmp nat_cmp (repeated a) (repeated b)
repeated_order [] [] m k e = refl
repeated_order [] (h ∷ hs) m k e = absurd (omega (arith, k.0))
repeated_order (g ∷ gs) [] m k e = absurd (omega (arith, m.0))
repeated_order (g ∷ gs) (h ∷ hs) m k e = by_cases (nat_cmp g.0 h.0)
    (λ o. let l = less_is g.0 h.0 o in first_less g h gs hs l ∙ sym (leads_less g.0 g.1 h.0 h.1 gs hs m.0 k.0 l))
    (λ o.
    let s = nat_cmp-IsAntisymmetric g.0 h.0 o in
    let above : VarsAbove g.0 hs = subst (λ w. VarsAbove w hs) (sym s) k.1 in
    subst (λ w. slice_cmp factor_cmp (g ∷ gs) ((w, h.1) ∷ hs) ≡ slice_cmp nat_cmp (repeated (g ∷ gs)) (replicate h.1 w ++ repeated hs)) s
    (same_lead g.0 g.1 h.1 gs hs m.2 k.2 m.1 above e (λ i. repeated_order gs hs m.2 k.2 (omega arith))))
    (λ o. let l = more_is g.0 h.0 o in first_more g h gs hs l ∙ sym (leads_more g.0 g.1 h.0 h.1 gs hs m.0 k.0 l))

-- the order of monomials where the degrees don't decide
pub repeated_cmp : (a b : List (ℕ × ℕ)) → IsMono a → IsMono b → mono_degree a ≡ mono_degree b → mono_cmp a b ≡ slice_cmp nat_cmp (repeated a) (repeated b)
repeated_cmp a b m k e =
    ap (λ n. ordering_then (nat_cmp n (mono_degree a)) (slice_cmp factor_cmp a b)) (sym e)
    ∙ ap (λ o. ordering_then o (slice_cmp factor_cmp a b)) (tied_itself nat_cmp_total (mono_degree a))
    ∙ repeated_order a b m k e
