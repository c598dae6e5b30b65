-- The steps of a value at a point.
use Rattle.std.specs.Prelude.{◌≡◌, ℕ, zero, suc, ◌+◌, ◌-◌, ◌*◌, ◌^◌, ◌<◌, ◌≤◌, max, ℤ, pos, ◌+ℤ◌, ◌*ℤ◌, unsigned_abs, List, [], ◌∷◌, length, drop, slice_get, Some, FitsSigned}
use Rattle.std.proofs.Common.{get_or, ap, sym, ◌∙◌, subst, arith}
use Rattle.std.proofs.Math.Nat.{mul-le-mul_left, pow-zero, pow-succ', one-le-pow}
use Rattle.std.proofs.Math.IntN.{*ℤ_comm}
use Rattle.std.proofs.lemmas.Int.{ints}
use Rattle.std.specs.Int.{w128}
use Rattle.mm_num.specs.Power.{power}
use Rattle.mm_num.proofs.Ring.{assoc}
use Rattle.mm_poly.specs.declared.term.Term.{Term}
use Rattle.mm_poly.specs.Mono.{mono_value, mono_degree, VarsBelow}
use Rattle.mm_poly.specs.Poly.{value, term_value, norm, degree, HasPlaces}
use Rattle.mm_poly.specs.Point.{point_of, greatest_magnitude, value_bound}
use Rattle.mm_poly.proofs.ValueLaws.{sum_zero, sum_assoc, one_mul, zero_sum}
use Rattle.mm_poly.proofs.BoundLaws.{abs_sum}
use Rattle.mm_poly.proofs.MergeSteps.{front, no_more}
use Rattle.mm_poly.proofs.FactorSteps.{no_factors}
use Rattle.mm_poly.proofs.PointLaws.{place_small, term_small, part_of_power, raised, below_power, powers, smaller_base}

-- what is reached, times the power that is left, is all of it
pub record Multiplying (number base exponent reached counter : ℕ) : Type 0 where
  pub small : reached < 2 ^ 126
  pub joined : reached * base ^ (exponent - counter) ≡ number * base ^ exponent

next_left : (e c : ℕ) → c < e → e - c ≡ suc (e - (c + 1))
next_left e c h = omega arith

regroup : (r b p q : ℕ) → p ≡ b * q → r * p ≡ (r * b) * q
regroup r b p q e = omega (arith, ap (λ n. r * n) e)

multiplied : (n b e r c : ℕ) → Multiplying n b e r c → c < e → (r * b) * b ^ (e - (c + 1)) ≡ n * b ^ e
multiplied n b e r c m h =
    sym (regroup r b (b ^ (e - c)) (b ^ (e - (c + 1))) (ap (λ k. b ^ k) (next_left e c h) ∙ pow-succ' b (e - (c + 1)))) ∙ m.joined

pub multiply : (n b e r c new : ℕ) → Multiplying n b e r c → c < e → r * b ≡ new → new < 2 ^ 126 → Multiplying n b e new (c + 1)
multiply n b e r c new m h is s = record { small = s; joined = ap (λ k. k * b ^ (e - (c + 1))) (sym is) ∙ multiplied n b e r c m h }

pub too_big : (n b e r c : ℕ) → Multiplying n b e r c → c < e → 1 ≤ b → 2 ^ 126 ≤ r * b → 2 ^ 126 ≤ n * b ^ e
too_big n b e r c m h one big =
    let p : 0 < b = omega arith in
    let more : (r * b) * 1 ≤ (r * b) * b ^ (e - (c + 1)) = mul-le-mul_left (r * b) (one-le-pow (e - (c + 1)) b p) in
    omega (arith, multiplied n b e r c m h)

pub all_multiplied : (n b e r c : ℕ) → Multiplying n b e r c → e ≤ c → n * b ^ e < 2 ^ 126
all_multiplied n b e r c m h =
    let none : e - c ≡ 0 = omega arith in
    let same : r * b ^ (e - c) ≡ r * 1 = ap (λ k. r * k) (ap (λ j. b ^ j) none ∙ pow-zero b) in
    let small : r < 2 ^ 126 = m.small in
    omega (arith, m.joined)

-- the product so far, times the power that is left, is all of it
pub record Raising (number base : ℤ) (exponent : ℕ) (product : ℤ) (counter : ℕ) : Type 0 where
  pub small : unsigned_abs product * max 1 (unsigned_abs base) ^ (exponent - counter) < 2 ^ 126
  pub joined : product *ℤ power base (exponent - counter) ≡ number *ℤ power base exponent

raise_small : (number base : ℤ) (e : ℕ) (p : ℤ) (c : ℕ) → Raising number base e p c → c < e
    → unsigned_abs (p *ℤ base) * max 1 (unsigned_abs base) ^ (e - (c + 1)) < 2 ^ 126
raise_small number base e p c r h =
    let m = max 1 (unsigned_abs base) in
    let b : unsigned_abs base ≤ m = omega arith in
    let s : unsigned_abs p * m ^ suc (e - (c + 1)) < 2 ^ 126 = subst (λ k. unsigned_abs p * m ^ k < 2 ^ 126) (next_left e c h) r.small in
    raised p base m (e - (c + 1)) (2 ^ 126) b s

fits : (z : ℤ) → unsigned_abs z < 2 ^ 126 → FitsSigned w128 z
fits z h = omega (arith, ints)

pub raise_fits : (number base : ℤ) (e : ℕ) (p : ℤ) (c : ℕ) → Raising number base e p c → c < e → FitsSigned w128 (p *ℤ base)
raise_fits number base e p c r h =
    let m = max 1 (unsigned_abs base) in
    let one : 1 ≤ m = omega arith in
    fits (p *ℤ base) (below_power (unsigned_abs (p *ℤ base)) m (e - (c + 1)) (2 ^ 126) one (raise_small number base e p c r h))

pub raise : (number base : ℤ) (e : ℕ) (p : ℤ) (c : ℕ) → Raising number base e p c → c < e → (new : ℤ) → new ≡ p *ℤ base → Raising number base e new (c + 1)
raise number base e p c r h new is = record {
  small = subst (λ z. unsigned_abs z * max 1 (unsigned_abs base) ^ (e - (c + 1)) < 2 ^ 126) (sym is) (raise_small number base e p c r h);
  joined = ap (λ z. z *ℤ power base (e - (c + 1))) is
      ∙ assoc p base (power base (e - (c + 1)))
      ∙ ap (λ k. p *ℤ power base k) (sym (next_left e c h))
      ∙ r.joined;
}

pub all_raised : (number base : ℤ) (e : ℕ) (p : ℤ) (c : ℕ) → Raising number base e p c → e ≤ c → p ≡ number *ℤ power base e
all_raised number base e p c r h =
    let none : e - c ≡ 0 = omega arith in
    sym (one_mul p) ∙ *ℤ_comm (pos 1) p ∙ ap (λ k. p *ℤ power base k) (sym none) ∙ r.joined

-- the product so far, times the value of the factors that are left, is the term's value
pub record Evaluating (point : List ℤ) (t : Term) (product : ℤ) (n : ℕ) : Type 0 where
  pub small : unsigned_abs product * max 1 (greatest_magnitude point) ^ mono_degree (drop n t.mono) < 2 ^ 126
  pub joined : product *ℤ mono_value (point_of point) (drop n t.mono) ≡ term_value (point_of point) t
  pub places : VarsBelow (length point) (drop n t.mono)

factor_front : (fs : List (ℕ × ℕ)) (n v e : ℕ) → slice_get fs n ≡ Some (v, e) → drop n fs ≡ (v, e) ∷ drop (n + 1) fs
factor_front [] n v e h = cc
factor_front (f ∷ fs) zero v e h = let same : f ≡ (v, e) = cc in ap (λ (g : ℕ × ℕ). g ∷ fs) same
factor_front (f ∷ fs) (suc n) v e h = let s : suc n + 1 ≡ suc (n + 1) = omega arith in rw s (factor_front fs n v e h)

pub evaluate_place : (point : List ℤ) (t : Term) (p : ℤ) (n v e : ℕ) → Evaluating point t p n → slice_get t.mono n ≡ Some (v, e) → v < length point
evaluate_place point t p n v e r h = (subst (λ fs. VarsBelow (length point) fs) (factor_front t.mono n v e h) r.places).0

evaluate_left : (point : List ℤ) (t : Term) (p : ℤ) (n v e : ℕ) → Evaluating point t p n → slice_get t.mono n ≡ Some (v, e)
    → unsigned_abs p * max 1 (greatest_magnitude point) ^ (e + mono_degree (drop (n + 1) t.mono)) < 2 ^ 126
evaluate_left point t p n v e r h =
    subst (λ fs. unsigned_abs p * max 1 (greatest_magnitude point) ^ mono_degree fs < 2 ^ 126) (factor_front t.mono n v e h) r.small

pub evaluate_small : (point : List ℤ) (t : Term) (p : ℤ) (n v e : ℕ) → Evaluating point t p n → slice_get t.mono n ≡ Some (v, e)
    → unsigned_abs p * max 1 (unsigned_abs (point_of point v)) ^ e < 2 ^ 126
evaluate_small point t p n v e r h =
    let m = max 1 (greatest_magnitude point) in
    let b : max 1 (unsigned_abs (point_of point v)) ≤ m = omega (arith, place_small point v) in
    let one : 1 ≤ m = omega arith in
    let less : e ≤ e + mono_degree (drop (n + 1) t.mono) = omega arith in
    let part : unsigned_abs p * m ^ e < 2 ^ 126 = omega (arith, part_of_power (unsigned_abs p) m e (e + mono_degree (drop (n + 1) t.mono)) one less, evaluate_left point t p n v e r h) in
    smaller_base (unsigned_abs p) (max 1 (unsigned_abs (point_of point v))) m e (2 ^ 126) b part

pub evaluate : (point : List ℤ) (t : Term) (p : ℤ) (n v e : ℕ) → Evaluating point t p n → slice_get t.mono n ≡ Some (v, e)
    → (new : ℤ) → new ≡ p *ℤ power (point_of point v) e → Evaluating point t new (n + 1)
evaluate point t p n v e r h new is =
    let m = max 1 (greatest_magnitude point) in
    let rest = drop (n + 1) t.mono in
    let b : unsigned_abs (point_of point v) ≤ m = omega (arith, place_small point v) in
    record {
      small = subst (λ z. unsigned_abs z * m ^ mono_degree rest < 2 ^ 126) (sym is)
          (powers p (point_of point v) m e (mono_degree rest) (2 ^ 126) b (evaluate_left point t p n v e r h));
      joined = ap (λ z. z *ℤ mono_value (point_of point) rest) is
          ∙ assoc p (power (point_of point v) e) (mono_value (point_of point) rest)
          ∙ ap (λ fs. p *ℤ mono_value (point_of point) fs) (sym (factor_front t.mono n v e h))
          ∙ r.joined;
      places = (subst (λ fs. VarsBelow (length point) fs) (factor_front t.mono n v e h) r.places).1;
    }

pub all_evaluated : (point : List ℤ) (t : Term) (p : ℤ) (n : ℕ) → Evaluating point t p n → length t.mono ≤ n → p ≡ term_value (point_of point) t
all_evaluated point t p n r h =
    sym (one_mul p) ∙ *ℤ_comm (pos 1) p ∙ ap (λ fs. p *ℤ mono_value (point_of point) fs) (sym (no_factors t.mono n h)) ∙ r.joined

-- the sum so far, and the value of the terms that are left, are the value
pub record Summing (point : List ℤ) (terms : List Term) (total : ℤ) (n : ℕ) : Type 0 where
  pub small : unsigned_abs total + norm (drop n terms) * max 1 (greatest_magnitude point) ^ degree terms < 2 ^ 126
  pub joined : total +ℤ value (point_of point) (drop n terms) ≡ value (point_of point) terms
  pub low : degree (drop n terms) ≤ degree terms
  pub places : HasPlaces (length point) (drop n terms)

pub sum_begin : (point : List ℤ) (terms : List Term) → HasPlaces (length point) terms → value_bound terms point < 2 ^ 126 → Summing point terms (pos 0) 0
sum_begin point terms h s = record { small = omega arith; joined = zero_sum (value (point_of point) terms); low = omega arith; places = h }

-- what is known of the next term
record Next (point : List ℤ) (terms : List Term) (total : ℤ) (n : ℕ) (t : Term) : Type 0 where
  split : drop n terms ≡ t ∷ drop (n + 1) terms
  low : max (mono_degree t.mono) (degree (drop (n + 1) terms)) ≤ degree terms
  small : unsigned_abs total + (unsigned_abs t.coeff + norm (drop (n + 1) terms)) * max 1 (greatest_magnitude point) ^ degree terms < 2 ^ 126
  places : VarsBelow (length point) t.mono × HasPlaces (length point) (drop (n + 1) terms)

next : (point : List ℤ) (terms : List Term) (total : ℤ) (n : ℕ) (t : Term) → Summing point terms total n → n < length terms → t ≡ get_or terms n t → Next point terms total n t
next point terms total n t s h is =
    let f = front terms n t h is in
    record {
      split = f;
      low = subst (λ ts. degree ts ≤ degree terms) f s.low;
      small = subst (λ ts. unsigned_abs total + norm ts * max 1 (greatest_magnitude point) ^ degree terms < 2 ^ 126) f s.small;
      places = subst (λ ts. HasPlaces (length point) ts) f s.places;
    }

pub sum_places : (point : List ℤ) (terms : List Term) (total : ℤ) (n : ℕ) (t : Term) → Summing point terms total n → n < length terms → t ≡ get_or terms n t
    → VarsBelow (length point) t.mono
sum_places point terms total n t s h is = (next point terms total n t s h is).places.0

parts : (a c r q : ℕ) → a + (c + r) * q < 2 ^ 126 → (c * q < 2 ^ 126) × (a + c * q + r * q < 2 ^ 126)
parts a c r q h = (omega arith, omega arith)

pub sum_small : (point : List ℤ) (terms : List Term) (total : ℤ) (n : ℕ) (t : Term) → Summing point terms total n → n < length terms → t ≡ get_or terms n t
    → unsigned_abs t.coeff * max 1 (greatest_magnitude point) ^ mono_degree t.mono < 2 ^ 126
sum_small point terms total n t s h is =
    let k = next point terms total n t s h is in
    let m = max 1 (greatest_magnitude point) in
    let one : 1 ≤ m = omega arith in
    let low : mono_degree t.mono ≤ degree terms = omega (arith, k.low) in
    let p = parts (unsigned_abs total) (unsigned_abs t.coeff) (norm (drop (n + 1) terms)) (m ^ degree terms) k.small in
    omega (arith, p.0, part_of_power (unsigned_abs t.coeff) m (mono_degree t.mono) (degree terms) one low)

added_small : (total v : ℤ) (c r q : ℕ) → unsigned_abs v ≤ c * q → unsigned_abs total + c * q + r * q < 2 ^ 126 → unsigned_abs (total +ℤ v) + r * q < 2 ^ 126
added_small total v c r q h s = omega (arith, abs_sum total v)

sum_next : (point : List ℤ) (terms : List Term) (total : ℤ) (n : ℕ) (t : Term) → Summing point terms total n → n < length terms → t ≡ get_or terms n t
    → unsigned_abs (total +ℤ term_value (point_of point) t) + norm (drop (n + 1) terms) * max 1 (greatest_magnitude point) ^ degree terms < 2 ^ 126
sum_next point terms total n t s h is =
    let k = next point terms total n t s h is in
    let m = max 1 (greatest_magnitude point) in
    let one : 1 ≤ m = omega arith in
    let most : greatest_magnitude point ≤ m = omega arith in
    let low : mono_degree t.mono ≤ degree terms = omega (arith, k.low) in
    let p = parts (unsigned_abs total) (unsigned_abs t.coeff) (norm (drop (n + 1) terms)) (m ^ degree terms) k.small in
    added_small total (term_value (point_of point) t) (unsigned_abs t.coeff) (norm (drop (n + 1) terms)) (m ^ degree terms)
    (term_small point m (degree terms) t most one low) p.1

pub sum_fits : (point : List ℤ) (terms : List Term) (total : ℤ) (n : ℕ) (t : Term) → Summing point terms total n → n < length terms → t ≡ get_or terms n t
    → (v : ℤ) → v ≡ term_value (point_of point) t → FitsSigned w128 (total +ℤ v)
sum_fits point terms total n t s h is v e =
    fits (total +ℤ v) (subst (λ w. unsigned_abs (total +ℤ w) < 2 ^ 126) (sym e) (omega (arith, sum_next point terms total n t s h is)))

pub sum_more : (point : List ℤ) (terms : List Term) (total : ℤ) (n : ℕ) (t : Term) → Summing point terms total n → n < length terms → t ≡ get_or terms n t
    → (new : ℤ) → new ≡ total +ℤ term_value (point_of point) t → Summing point terms new (n + 1)
sum_more point terms total n t s h is new e =
    let k = next point terms total n t s h is in
    record {
      small = subst (λ z. unsigned_abs z + norm (drop (n + 1) terms) * max 1 (greatest_magnitude point) ^ degree terms < 2 ^ 126) (sym e)
          (sum_next point terms total n t s h is);
      joined = ap (λ z. z +ℤ value (point_of point) (drop (n + 1) terms)) e
          ∙ sym (sum_assoc total (term_value (point_of point) t) (value (point_of point) (drop (n + 1) terms)))
          ∙ ap (λ ts. total +ℤ value (point_of point) ts) (sym k.split)
          ∙ s.joined;
      low = omega (arith, k.low);
      places = k.places.1;
    }

pub all_summed : (point : List ℤ) (terms : List Term) (total : ℤ) (n : ℕ) → Summing point terms total n → length terms ≤ n → total ≡ value (point_of point) terms
all_summed point terms total n s h = sym (sum_zero total) ∙ ap (λ ts. total +ℤ value (point_of point) ts) (sym (no_more terms n h)) ∙ s.joined
