-- The tests say what they are to tell.
use Rattle.std.specs.Prelude.{◌≡◌, ◌≢◌, ℕ, zero, suc, ◌+◌, ◌^◌, ◌<◌, ◌≤◌, nat_lt, nat_le, min, ℤ, pos, List, [], ◌∷◌, length, drop, Bool, true, false, ◌&&◌, refl}
use Rattle.std.proofs.Common.{get_or, ap, sym, ◌∙◌, subst, ltb-true, lt-ltb, leb-true, le-leb, arith}
use Rattle.std.specs.List.{list_all}
use Rattle.std.specs.declared.cmp.Ordering.{Ordering}
use Rattle.std.specs.declared.cmp.Ordering.TheVariants.{Less, Equal, Greater}
use Rattle.std.specs.Cmp.{nat_cmp_total, ranked, tied_itself}
use Rattle.std.specs.Ordering.{ordering_reverse, is_lt, nat_cmp}
use Rattle.std.specs.Cmp.Lexicographic.{slice_cmp}
use Rattle.std.specs.Int.{w128}
use Rattle.std.proofs.lemmas.Bool.{and_parts, and_from}
use mir.Val.{of_z}
use Rattle.mm_poly.specs.declared.term.Term.{Term}
use Rattle.mm_poly.specs.Mono.{mono_cmp, mono_degree, IsMono, VarsAbove, VarsBelow, IsMonomial}
use Rattle.mm_poly.specs.Poly.{norm, spread, AllAfter, IsPoly, EachMono, Fits}
use Rattle.mm_poly.specs.Tests.{starts_rising, rises, have_room, is_monomial, starts_ordered, ordered, is_polynomial}
use Rattle.mm_poly.proofs.CaseLaws.{by_cases, by_zero}
use Rattle.mm_poly.proofs.PolyLaws.{after_through}
use Rattle.mm_poly.proofs.EachLaws.{all_mono, all_room, all_low, all_monomials}
use Rattle.mm_poly.proofs.MergeSteps.{front}

-- where there is no next one
pub rising_last : (fs : List (ℕ × ℕ)) (n : ℕ) → length fs ≤ n + 1 → starts_rising (drop n fs) ≡ true
rising_last [] zero h = refl
rising_last [] (suc n) h = refl
rising_last (f ∷ []) zero h = refl
rising_last (f ∷ g ∷ gs) zero h = absurd (omega arith)
rising_last (f ∷ fs) (suc n) h = rising_last fs n (omega arith)

pub ordered_last : (ts : List Term) (n : ℕ) → length ts ≤ n + 1 → starts_ordered (drop n ts) ≡ true
ordered_last [] zero h = refl
ordered_last [] (suc n) h = refl
ordered_last (t ∷ []) zero h = refl
ordered_last (t ∷ u ∷ us) zero h = absurd (omega arith)
ordered_last (t ∷ ts) (suc n) h = ordered_last ts n (omega arith)

pub above_through : (v w : ℕ) (fs : List (ℕ × ℕ)) → v < w → VarsAbove w fs → VarsAbove v fs
above_through v w [] h a = tt
above_through v w (f ∷ fs) h a = (omega (arith, a.0), above_through v w fs h a.1)

starts_above : (f : ℕ × ℕ) (fs : List (ℕ × ℕ)) → starts_rising (f ∷ fs) ≡ true → IsMono fs → VarsAbove f.0 fs
starts_above f [] h m = tt
starts_above f (g ∷ gs) h m = let less = ltb-true f.0 g.0 h in (less, above_through f.0 g.0 gs less m.1)

above_starts : (f : ℕ × ℕ) (fs : List (ℕ × ℕ)) → VarsAbove f.0 fs → starts_rising (f ∷ fs) ≡ true
above_starts f [] a = refl
above_starts f (g ∷ gs) a = lt-ltb f.0 g.0 a.0

rises_gives : (d : ℕ) (fs : List (ℕ × ℕ)) → d ≤ 255 → rises d fs ≡ true → IsMono fs × (d + mono_degree fs ≤ 255)
rises_gives d [] k h = (tt, omega arith)
rises_gives d (f ∷ fs) k h =
    let a = and_parts (nat_lt 0 f.1 && starts_rising (f ∷ fs)) (nat_lt (d + f.1) 256 && rises (d + f.1) fs) h in
    let b = and_parts (nat_lt 0 f.1) (starts_rising (f ∷ fs)) a.0 in
    let e = and_parts (nat_lt (d + f.1) 256) (rises (d + f.1) fs) a.1 in
    let small = ltb-true (d + f.1) 256 e.0 in
    let rest = rises_gives (d + f.1) fs (omega (arith, small)) e.1 in
    ((omega (arith, ltb-true 0 f.1 b.0), starts_above f fs b.1 rest.0, rest.0), omega (arith, rest.1))

rises_from : (d : ℕ) (fs : List (ℕ × ℕ)) → IsMono fs → d + mono_degree fs ≤ 255 → rises d fs ≡ true
rises_from d [] m h = refl
rises_from d (f ∷ fs) m h = and_from (nat_lt 0 f.1 && starts_rising (f ∷ fs)) (nat_lt (d + f.1) 256 && rises (d + f.1) fs)
    (and_from (nat_lt 0 f.1) (starts_rising (f ∷ fs)) (lt-ltb 0 f.1 (omega (arith, m.0))) (above_starts f fs m.1))
    (and_from (nat_lt (d + f.1) 256) (rises (d + f.1) fs) (lt-ltb (d + f.1) 256 (omega arith)) (rises_from (d + f.1) fs m.2 (omega arith)))

room_gives : (fs : List (ℕ × ℕ)) → have_room fs ≡ true → VarsBelow (2 ^ 32) fs
room_gives [] h = tt
room_gives (f ∷ fs) h =
    let p = and_parts (nat_lt f.0 (2 ^ 32)) (have_room fs) h in
    (ltb-true f.0 (2 ^ 32) p.0, room_gives fs p.1)

room_from : (fs : List (ℕ × ℕ)) → VarsBelow (2 ^ 32) fs → have_room fs ≡ true
room_from [] a = refl
room_from (f ∷ fs) a = and_from (nat_lt f.0 (2 ^ 32)) (have_room fs) (lt-ltb f.0 (2 ^ 32) a.0) (room_from fs a.1)

-- factors that rise, and whose variables are below 2^32, are a monomial, and no others are
pub monomial_if : (fs : List (ℕ × ℕ)) → rises 0 fs ≡ true → VarsBelow (2 ^ 32) fs → IsMonomial fs
monomial_if fs h v = let r = rises_gives 0 fs (omega arith) h in record { order = r.0; degree = omega (arith, r.1); room = v }

pub monomial_then : (fs : List (ℕ × ℕ)) → IsMonomial fs → rises 0 fs ≡ true
monomial_then fs m = rises_from 0 fs m.order (omega (arith, m.degree))

pub monomial_given : (fs : List (ℕ × ℕ)) → is_monomial fs ≡ true → IsMonomial fs
unfolding is_monomial
monomial_given fs h = let p = and_parts (rises 0 fs) (have_room fs) h in monomial_if fs p.0 (room_gives fs p.1)

pub monomial_from : (fs : List (ℕ × ℕ)) → IsMonomial fs → is_monomial fs ≡ true
unfolding is_monomial
monomial_from fs m = and_from (rises 0 fs) (have_room fs) (monomial_then fs m) (room_from fs m.room)

is_less : (o : Ordering) → is_lt o ≡ true → o ≡ Less
is_less Less h = refl
is_less Equal h = cc
is_less Greater h = cc

starts_after : (t : Term) (ts : List Term) → starts_ordered (t ∷ ts) ≡ true → IsPoly ts → AllAfter t.mono ts
starts_after t [] h p = tt
starts_after t (u ∷ us) h p = let less = is_less (mono_cmp t.mono u.mono) h in (less, after_through t.mono u.mono us less p.1)

after_starts : (t : Term) (ts : List Term) → AllAfter t.mono ts → starts_ordered (t ∷ ts) ≡ true
after_starts t [] a = refl
after_starts t (u ∷ us) a = ap is_lt a.0

pub poly_if : (ts : List Term) → ordered ts ≡ true → IsPoly ts
poly_if [] h = tt
poly_if (t ∷ ts) h =
    let a = by_zero t.coeff false (starts_ordered (t ∷ ts) && ordered ts) (λ b. b ≡ true → (t.coeff ≢ pos 0) × (starts_ordered (t ∷ ts) ≡ true) × (ordered ts ≡ true))
    (λ e k. cc) (λ n k. let r = and_parts (starts_ordered (t ∷ ts)) (ordered ts) k in (n, r.0, r.1)) h in
    let p = poly_if ts a.2 in
    (a.0, starts_after t ts a.1 p, p)

pub poly_then : (ts : List Term) → IsPoly ts → ordered ts ≡ true
poly_then [] p = refl
poly_then (t ∷ ts) p = by_zero t.coeff false (starts_ordered (t ∷ ts) && ordered ts) (λ b. b ≡ true)
    (λ e. absurd (p.0 e)) (λ n. and_from (starts_ordered (t ∷ ts)) (ordered ts) (after_starts t ts p.1) (poly_then ts p.2))

pub nat_less : (a b : ℕ) → a < b → nat_cmp a b ≡ Less
nat_less a b h = rw (lt-ltb a b h) refl

pub nat_more : (a b : ℕ) → b < a → nat_cmp a b ≡ Greater
nat_more a b h = nat_cmp_total.antisymm a b ∙ ap ordering_reverse (nat_less b a h)

nat_same : (a b : ℕ) → a ≡ b → nat_cmp a b ≡ Equal
nat_same a b h = ap (λ n. nat_cmp a n) (sym h) ∙ tied_itself nat_cmp_total a

nat_up : (a b : ℕ) → nat_cmp a b ≡ nat_cmp (suc a) (suc b)
nat_up a b = by_cases (nat_cmp a b)
    (λ h. let r : a < b = ranked a b Less (sym h) in h ∙ sym (nat_less (suc a) (suc b) (omega arith)))
    (λ h. let r : a ≡ b = ranked a b Equal (sym h) in h ∙ sym (nat_same (suc a) (suc b) (omega arith)))
    (λ h. let r : b < a = ranked a b Greater (sym h) in h ∙ sym (nat_more (suc a) (suc b) (omega arith)))

-- lists of which one is used up compare as their lengths do
pub ended_cmp : {A : Type 0} (cmp : A → A → Ordering) (xs ys : List A) (n : ℕ) → n ≡ min (length xs) (length ys) → slice_cmp cmp (drop n xs) (drop n ys) ≡ nat_cmp (length xs) (length ys)
ended_cmp cmp [] [] n h = let e : n ≡ 0 = omega arith in rw e refl
ended_cmp cmp [] (y ∷ ys) n h = let e : n ≡ 0 = omega arith in rw e (sym (nat_less 0 (suc (length ys)) (omega arith)))
ended_cmp cmp (x ∷ xs) [] n h = let e : n ≡ 0 = omega arith in rw e (sym (nat_more (suc (length xs)) 0 (omega arith)))
ended_cmp cmp (x ∷ xs) (y ∷ ys) zero h = absurd (omega arith)
ended_cmp cmp (x ∷ xs) (y ∷ ys) (suc n) h = ended_cmp cmp xs ys n (omega arith) ∙ nat_up (length xs) (length ys)

-- a step of the test of terms
pub ordered_step : (ts : List Term) (n : ℕ) (t : Term) → n < length ts → t ≡ get_or ts n t → t.coeff ≢ pos 0 → starts_ordered (drop n ts) ≡ true
    → ordered (drop (n + 1) ts) ≡ ordered (drop n ts)
ordered_step ts n t h is z s =
    let f = front ts n t h is in
    let s2 : starts_ordered (t ∷ drop (n + 1) ts) ≡ true = subst (λ xs. starts_ordered xs ≡ true) f s in
    by_zero t.coeff false (starts_ordered (t ∷ drop (n + 1) ts) && ordered (drop (n + 1) ts)) (λ b. ordered (drop (n + 1) ts) ≡ b)
    (λ e. absurd (z e)) (λ m. ap (λ b. b && ordered (drop (n + 1) ts)) (sym s2))
    ∙ ap (λ (xs : List Term). ordered xs) (sym f)

pub fits_if : (ts : List Term) → length ts ≤ 65536 → ordered ts ≡ true → EachMono IsMonomial ts → norm ts < 2 ^ 126 → Fits ts
fits_if ts s o m n = record { order = poly_if ts o; monos = all_mono ts m; room = all_room ts m; norm = n; spread = s; degree = all_low ts m }

each_given : (ts : List Term) → list_all (λ (t : Term). is_monomial t.mono) ts ≡ true → EachMono IsMonomial ts
each_given [] h = tt
each_given (t ∷ ts) h =
    let p = and_parts (is_monomial t.mono) (list_all (λ (t : Term). is_monomial t.mono) ts) h in
    (monomial_given t.mono p.0, each_given ts p.1)

each_from : (ts : List Term) → EachMono IsMonomial ts → list_all (λ (t : Term). is_monomial t.mono) ts ≡ true
each_from [] a = refl
each_from (t ∷ ts) a = and_from (is_monomial t.mono) (list_all (λ (t : Term). is_monomial t.mono) ts) (monomial_from t.mono a.0) (each_from ts a.1)

-- terms that pass the test are a polynomial, and no others are
pub fits_given : (ts : List Term) → is_polynomial ts ≡ true → Fits ts
unfolding is_polynomial
fits_given ts h =
    let each : Bool = list_all (λ (t : Term). is_monomial t.mono) ts in
    let p = and_parts (ordered ts && each) (nat_lt (norm ts) (2 ^ 126) && nat_le (spread ts) 65536) h in
    let q = and_parts (ordered ts) each p.0 in
    let r = and_parts (nat_lt (norm ts) (2 ^ 126)) (nat_le (spread ts) 65536) p.1 in
    fits_if ts (leb-true (spread ts) 65536 r.1) q.0 (each_given ts q.1) (ltb-true (norm ts) (2 ^ 126) r.0)

pub fits_from : (ts : List Term) → Fits ts → is_polynomial ts ≡ true
unfolding is_polynomial
fits_from ts f =
    let each : Bool = list_all (λ (t : Term). is_monomial t.mono) ts in
    and_from (ordered ts && each) (nat_lt (norm ts) (2 ^ 126) && nat_le (spread ts) 65536)
    (and_from (ordered ts) each (poly_then ts f.order) (each_from ts (all_monomials ts f.monos f.room f.degree)))
    (and_from (nat_lt (norm ts) (2 ^ 126)) (nat_le (spread ts) 65536) (lt-ltb (norm ts) (2 ^ 126) f.norm) (le-leb (spread ts) 65536 f.spread))

-- a number whose bits aren't 0
pub bits_nonzero : (a : ℤ) → (of_z w128 a ≡ 0 → ⊥) → a ≢ pos 0
bits_nonzero a h e = h (ap (of_z w128) e)
