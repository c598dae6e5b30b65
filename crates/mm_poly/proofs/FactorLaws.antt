-- How a product of monomials begins, and that it is a monomial.
use Rattle.std.specs.Prelude.{◌≡◌, ℕ, ◌+◌, ◌^◌, ◌<◌, ◌≤◌, List, [], ◌∷◌, refl}
use Rattle.std.proofs.Common.{ap, sym, ◌∙◌, subst, arith}
use Rattle.std.specs.declared.cmp.Ordering.TheVariants.{Less, Equal, Greater}
use Rattle.std.specs.Ordering.{nat_cmp}
use Rattle.std.specs.Cmp.{ranked}
use Rattle.std.specs.FinMap.{nat_cmp-IsAntisymmetric}
use Rattle.mm_poly.specs.Mono.{mono_degree, mono_times, times_factor, VarsAbove, IsMono, IsMonomial}
use Rattle.mm_poly.proofs.CaseLaws.{by_factor}
use Rattle.mm_poly.proofs.EachLaws.{below_times}
use Rattle.mm_poly.proofs.BoundLaws.{degree_mono_times}
use Rattle.mm_poly.proofs.TestLaws.{nat_less, nat_more, above_through}

pub less_is : (a b : ℕ) → nat_cmp a b ≡ Less → a < b
less_is a b h = ranked a b Less (sym h)

pub more_is : (a b : ℕ) → nat_cmp a b ≡ Greater → b < a
more_is a b h = ranked a b Greater (sym h)

pub above_factor : (v : ℕ) (f : ℕ × ℕ) (gs : List (ℕ × ℕ)) → v < f.0 → VarsAbove v gs → VarsAbove v (times_factor f gs)
above_factor v f [] h a = (h, tt)
above_factor v f (g ∷ gs) h a = by_factor f g gs (λ r. VarsAbove v r)
    (λ e. (h, a)) (λ e. (h, a.1)) (λ e. (a.0, above_factor v f gs h a.1))

pub above_times : (v : ℕ) (a b : List (ℕ × ℕ)) → VarsAbove v a → VarsAbove v b → VarsAbove v (mono_times a b)
above_times v [] b h k = k
above_times v (f ∷ fs) b h k = above_factor v f (mono_times fs b) h.0 (above_times v fs b h.1 k)

pub mono_factor : (f : ℕ × ℕ) (gs : List (ℕ × ℕ)) → 1 ≤ f.1 → IsMono gs → IsMono (times_factor f gs)
mono_factor f [] h m = (h, tt, tt)
mono_factor f (g ∷ gs) h m = by_factor f g gs (λ r. IsMono r)
    (λ e. let l = less_is f.0 g.0 e in (h, (l, above_through f.0 g.0 gs l m.1), m))
    (λ e. (omega (arith, h), subst (λ v. VarsAbove v gs) (sym (nat_cmp-IsAntisymmetric f.0 g.0 e)) m.1, m.2))
    (λ e. (m.0, above_factor g.0 f gs (more_is f.0 g.0 e) m.1, mono_factor f gs h m.2))

pub mono_of_times : (a b : List (ℕ × ℕ)) → IsMono a → IsMono b → IsMono (mono_times a b)
mono_of_times [] b h k = k
mono_of_times (f ∷ fs) b h k = mono_factor f (mono_times fs b) h.0 (mono_of_times fs b h.2 k)

pub monomial_times : (a b : List (ℕ × ℕ)) → IsMonomial a → IsMonomial b → mono_degree a + mono_degree b ≤ 255 → IsMonomial (mono_times a b)
monomial_times a b h k s = record {
  order = mono_of_times a b h.order k.order;
  degree = omega (arith, degree_mono_times a b);
  room = below_times (2 ^ 32) a b h.room k.room;
}

pub factor_first : (f : ℕ × ℕ) (gs : List (ℕ × ℕ)) → VarsAbove f.0 gs → times_factor f gs ≡ f ∷ gs
factor_first f [] a = refl
factor_first f (g ∷ gs) a = rw (nat_less f.0 g.0 a.0, times_factor) refl

pub times_nil : (a : List (ℕ × ℕ)) → IsMono a → mono_times a [] ≡ a
times_nil [] m = refl
times_nil (f ∷ fs) m = ap (λ (r : List (ℕ × ℕ)). times_factor f r) (times_nil fs m.2) ∙ factor_first f fs m.1

times_front : (a : List (ℕ × ℕ)) (g : ℕ × ℕ) (b : List (ℕ × ℕ)) → VarsAbove g.0 a → mono_times a (g ∷ b) ≡ g ∷ mono_times a b
times_front [] g b h = refl
times_front (f ∷ fs) g b h =
    let more = nat_more f.0 g.0 h.0 in
    ap (λ (r : List (ℕ × ℕ)). times_factor f r) (times_front fs g b h.1) ∙ rw (more, times_factor) refl

pub times_less : (f : ℕ × ℕ) (a : List (ℕ × ℕ)) (g : ℕ × ℕ) (b : List (ℕ × ℕ)) → IsMono (f ∷ a) → IsMono (g ∷ b) → nat_cmp f.0 g.0 ≡ Less
    → mono_times (f ∷ a) (g ∷ b) ≡ f ∷ mono_times a (g ∷ b)
times_less f a g b h k e =
    let l = less_is f.0 g.0 e in
    factor_first f (mono_times a (g ∷ b)) (above_times f.0 a (g ∷ b) h.1 (l, above_through f.0 g.0 b l k.1))

pub times_greater : (f : ℕ × ℕ) (a : List (ℕ × ℕ)) (g : ℕ × ℕ) (b : List (ℕ × ℕ)) → IsMono (f ∷ a) → IsMono (g ∷ b) → nat_cmp f.0 g.0 ≡ Greater
    → mono_times (f ∷ a) (g ∷ b) ≡ g ∷ mono_times (f ∷ a) b
times_greater f a g b h k e =
    let l = more_is f.0 g.0 e in
    times_front (f ∷ a) g b (l, above_through g.0 f.0 a l h.1)

pub times_equal : (f : ℕ × ℕ) (a : List (ℕ × ℕ)) (g : ℕ × ℕ) (b : List (ℕ × ℕ)) → IsMono (f ∷ a) → IsMono (g ∷ b) → nat_cmp f.0 g.0 ≡ Equal
    → mono_times (f ∷ a) (g ∷ b) ≡ (f.0, f.1 + g.1) ∷ mono_times a b
times_equal f a g b h k e =
    let after : VarsAbove g.0 a = subst (λ v. VarsAbove v a) (nat_cmp-IsAntisymmetric f.0 g.0 e) h.1 in
    ap (λ (r : List (ℕ × ℕ)). times_factor f r) (times_front a g b after) ∙ rw (e, times_factor) refl
