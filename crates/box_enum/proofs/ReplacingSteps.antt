-- The terms of the cofactor and of what is left, one after another.
use Rattle.std.specs.Prelude.{◌≡◌, ℕ, zero, suc, ◌+◌, ◌-◌, ◌*◌, ◌^◌, ◌<◌, ◌≤◌, ℤ, pos, ◌-ℤ◌, ◌*ℤ◌, neg_ℤ, unsigned_abs, List, [], ◌∷◌, ◌++◌, length, true, refl}
use Rattle.std.proofs.Common.{ap, sym, ◌∙◌, subst, arith, get_or, to_z, of_z, FitsSigned}
use Rattle.std.proofs.lemmas.Int.{ints, to_z-of_z}
use Rattle.std.proofs.Math.IntN.{*ℤ_comm}
use Rattle.std.specs.Int.{w128}
use Rattle.mm_num.specs.Power.{power}
use Rattle.mm_num.proofs.Ring.{assoc, neg_mul}
use Rattle.mm_poly.specs.declared.term.Term.{Term}
use Rattle.mm_poly.specs.Mono.{mono_degree, exponent_of, without_variable, with_exponent, IsMono, IsMonomial}
use Rattle.mm_poly.specs.Poly.{norm, spread, degree}
use Rattle.mm_poly.proofs.ValueLaws.{one_mul}
use Rattle.mm_poly.proofs.PointLaws.{part_of_power, raised, below_power}
use Rattle.box_enum.specs.machine.Putting.{has_variable, quotient_terms, cofactor_terms, put_terms, weight, IsTame}
use Rattle.box_enum.proofs.PutBoundLaws.{norm_below, degree_apart, norm_cofactor_terms, spread_cofactor_terms, weight_put, spread_put, reach_below}

-- ---- numbers of 128 bits

pub small_number : (b d : ℕ) (c : ℤ) → unsigned_abs c * (1 + b) ^ d < 2 ^ 100 → unsigned_abs c < 2 ^ 100
small_number b d c h = below_power (unsigned_abs c) (1 + b) d (2 ^ 100) (omega arith) h

pub fits_number : (c : ℤ) → unsigned_abs c < 2 ^ 100 → FitsSigned w128 c
fits_number c h = omega (arith, ints)

pub same_number : (c : ℤ) → unsigned_abs c < 2 ^ 100 → to_z w128 (of_z w128 c) ≡ c
same_number c h = to_z-of_z w128 c (fits_number c h)

pub opposite_fits : (c : ℤ) → unsigned_abs c < 2 ^ 100 → FitsSigned w128 (pos 0 -ℤ to_z w128 (of_z w128 c))
opposite_fits c h = subst (λ z. FitsSigned w128 (pos 0 -ℤ z)) (sym (same_number c h)) (omega (arith, ints))

pub opposite_number : (c : ℤ) → unsigned_abs c < 2 ^ 100 → to_z w128 (of_z w128 (pos 0 -ℤ to_z w128 (of_z w128 c))) ≡ neg_ℤ c
opposite_number c h = to_z-of_z w128 (pos 0 -ℤ to_z w128 (of_z w128 c)) (opposite_fits c h) ∙ ap (λ z. pos 0 -ℤ z) (same_number c h) ∙ omega (arith, ints)

-- ---- the quotient of a term

-- what is out, and the powers that are left, are all of it
pub record Dividing (b x : ℕ) (v : ℤ) (t : Term) (before out : List Term) (coeff : ℤ) (k : ℕ) : Type 0 where
  pub terms : out ++ quotient_terms x v coeff k t.mono ≡ before ++ quotient_terms x v (neg_ℤ t.coeff) (exponent_of t.mono x) t.mono
  pub power : coeff *ℤ power v k ≡ neg_ℤ t.coeff *ℤ power v (exponent_of t.mono x)
  pub small : unsigned_abs coeff * (1 + b) ^ k < 2 ^ 100

pub divide_begin : (b x : ℕ) (v : ℤ) (t : Term) (before : List Term) (coeff : ℤ) → unsigned_abs t.coeff * (1 + b) ^ mono_degree t.mono < 2 ^ 100 → IsMono t.mono → coeff ≡ neg_ℤ t.coeff
    → Dividing b x v t before before coeff (exponent_of t.mono x)
divide_begin b x v t before coeff h m e =
    let n : unsigned_abs (neg_ℤ t.coeff) ≡ unsigned_abs t.coeff = omega (arith, ints) in
    let s : unsigned_abs t.coeff * (1 + b) ^ exponent_of t.mono x < 2 ^ 100 =
    omega (arith, part_of_power (unsigned_abs t.coeff) (1 + b) (exponent_of t.mono x) (mono_degree t.mono) (omega arith) (omega (arith, degree_apart t.mono x m)), h) in
    record {
      terms = ap (λ c. before ++ quotient_terms x v c (exponent_of t.mono x) t.mono) e;
      power = ap (λ c. c *ℤ power v (exponent_of t.mono x)) e;
      small = subst (λ c. unsigned_abs c * (1 + b) ^ exponent_of t.mono x < 2 ^ 100) (sym e) (subst (λ a. a * (1 + b) ^ exponent_of t.mono x < 2 ^ 100) (sym n) s);
    }

next_left : (k : ℕ) → 0 < k → k ≡ suc (k - 1)
next_left k h = omega arith

next_small : (b x : ℕ) (v : ℤ) (t : Term) (before out : List Term) (coeff : ℤ) (k : ℕ) → Dividing b x v t before out coeff k → 0 < k → unsigned_abs v ≤ b
    → unsigned_abs (coeff *ℤ v) * (1 + b) ^ (k - 1) < 2 ^ 100
next_small b x v t before out coeff k d h r =
    let s : unsigned_abs coeff * (1 + b) ^ suc (k - 1) < 2 ^ 100 = subst (λ n. unsigned_abs coeff * (1 + b) ^ n < 2 ^ 100) (next_left k h) d.small in
    raised coeff v (1 + b) (k - 1) (2 ^ 100) (omega (arith, r)) s

pub divide_fits : (b x : ℕ) (v w : ℤ) (t : Term) (before out : List Term) (coeff : ℤ) (k : ℕ) → Dividing b x v t before out coeff k → 0 < k → unsigned_abs v ≤ b → w ≡ v
    → FitsSigned w128 (coeff *ℤ w)
divide_fits b x v w t before out coeff k d h r e = subst (λ z. FitsSigned w128 (coeff *ℤ z)) (sym e)
    (fits_number (coeff *ℤ v) (small_number b (k - 1) (coeff *ℤ v) (next_small b x v t before out coeff k d h r)))

same_place : (x : ℕ) (v c : ℤ) (m : List (ℕ × ℕ)) (j k : ℕ) → j ≡ suc k → quotient_terms x v c j m ≡ record { coeff = c; mono = with_exponent m x k } ∷ quotient_terms x v (c *ℤ v) k m
same_place x v c m j k e = ap (λ n. quotient_terms x v c n m) e

regroup : (out : List Term) (u : Term) (us : List Term) → (out ++ u ∷ []) ++ us ≡ out ++ (u ∷ us)
regroup [] u us = refl
regroup (t ∷ ts) u us = ap (λ (r : List Term). t ∷ r) (regroup ts u us)

one_power : (v coeff : ℤ) (j k : ℕ) → j ≡ suc k → (coeff *ℤ v) *ℤ power v k ≡ coeff *ℤ power v j
one_power v coeff j k e = assoc coeff v (power v k) ∙ ap (λ n. coeff *ℤ power v n) (sym e)

-- one power less
pub divide_more : (b x : ℕ) (v w : ℤ) (t : Term) (before out new : List Term) (coeff : ℤ) (m : List (ℕ × ℕ)) (k : ℕ) → Dividing b x v t before out coeff k → 0 < k → unsigned_abs v ≤ b → w ≡ v
    → m ≡ with_exponent t.mono x (k - 1) → new ≡ out ++ record { coeff = coeff; mono = m } ∷ []
    → Dividing b x v t before new (to_z w128 (of_z w128 (coeff *ℤ w))) (k - 1)
divide_more b x v w t before out new coeff m k d h r e i p =
    let next : to_z w128 (of_z w128 (coeff *ℤ w)) ≡ coeff *ℤ v = to_z-of_z w128 (coeff *ℤ w) (divide_fits b x v w t before out coeff k d h r e) ∙ ap (λ z. coeff *ℤ z) e in
    let s = next_left k h in
    let u : Term = record { coeff = coeff; mono = with_exponent t.mono x (k - 1) } in
    let done : Dividing b x v t before new (coeff *ℤ v) (k - 1) = record {
      terms = ap (λ (r : List Term). r ++ quotient_terms x v (coeff *ℤ v) (k - 1) t.mono)
          (p ∙ ap (λ n. out ++ record { coeff = coeff; mono = n } ∷ []) i)
          ∙ regroup out u (quotient_terms x v (coeff *ℤ v) (k - 1) t.mono)
          ∙ ap (λ (r : List Term). out ++ r) (sym (same_place x v coeff t.mono k (k - 1) s))
          ∙ d.terms;
      power = one_power v coeff k (k - 1) s ∙ d.power;
      small = next_small b x v t before out coeff k d h r;
    } in
    subst (λ c. Dividing b x v t before new c (k - 1)) (sym next) done

pub divided_terms : (b x : ℕ) (v : ℤ) (t : Term) (before out : List Term) (coeff : ℤ) (k : ℕ) → Dividing b x v t before out coeff k → k ≡ 0
    → out ≡ before ++ quotient_terms x v (neg_ℤ t.coeff) (exponent_of t.mono x) t.mono
divided_terms b x v t before out coeff k d e = sym (append_nil out) ∙ ap (λ n. out ++ quotient_terms x v coeff n t.mono) (sym e) ∙ d.terms
  where
    append_nil : (xs : List Term) → xs ++ [] ≡ xs
    append_nil [] = refl
    append_nil (y ∷ ys) = ap (λ (r : List Term). y ∷ r) (append_nil ys)

opposite_of : (a c p : ℤ) → a *ℤ pos 1 ≡ neg_ℤ c *ℤ p → pos 0 -ℤ a ≡ c *ℤ p
opposite_of a c p e =
    let one : a *ℤ pos 1 ≡ a = *ℤ_comm a (pos 1) ∙ one_mul a in
    let n : neg_ℤ c *ℤ p ≡ neg_ℤ (c *ℤ p) = neg_mul c p in
    omega (arith, ints, e, one, n)

-- the coefficient of what is left
pub divided_power : (b x : ℕ) (v : ℤ) (t : Term) (before out : List Term) (coeff : ℤ) (k : ℕ) → Dividing b x v t before out coeff k → k ≡ 0
    → to_z w128 (of_z w128 (pos 0 -ℤ coeff)) ≡ t.coeff *ℤ power v (exponent_of t.mono x)
divided_power b x v t before out coeff k d e =
    let s = small_number b k coeff d.small in
    to_z-of_z w128 (pos 0 -ℤ coeff) (omega (arith, ints, s))
    ∙ opposite_of coeff t.coeff (power v (exponent_of t.mono x)) (ap (λ n. coeff *ℤ power v n) (sym e) ∙ d.power)

pub power_room : (t : Term) (x k : ℕ) → IsMonomial t.mono → k ≤ exponent_of t.mono x → mono_degree (without_variable t.mono x) + (k - 1) ≤ 255
power_room t x k m h = let o = m.order in omega (arith, degree_apart t.mono x o, m.degree, h)

-- ---- one term of several

term_weight : (b : ℕ) (ts : List Term) (n : ℕ) (t : Term) → n < length ts → t ≡ get_or ts n t → unsigned_abs t.coeff * (1 + b) ^ mono_degree t.mono ≤ weight b ts
term_weight b [] n t l i = absurd (omega arith)
term_weight b (u ∷ us) zero t l i = subst (λ (r : Term). unsigned_abs r.coeff * (1 + b) ^ mono_degree r.mono ≤ weight b (u ∷ us)) (sym i) (omega arith)
term_weight b (u ∷ us) (suc n) t l i = omega (arith, term_weight b us n t (omega arith) i)

pub small_term : (b : ℕ) (ts : List Term) (n : ℕ) (t : Term) → n < length ts → t ≡ get_or ts n t → weight b ts < 2 ^ 100 → unsigned_abs t.coeff * (1 + b) ^ mono_degree t.mono < 2 ^ 100
small_term b ts n t l i h = omega (arith, term_weight b ts n t l i, h)

-- ---- all terms of a polynomial

pub reach_small : (b x : ℕ) (p : List Term) → IsTame b p → has_variable x p ≡ true → b < 2 ^ 100
reach_small b x p t h =
    let f = t.fits in
    let w : weight b p < 2 ^ 100 = t.weight in
    omega (arith, reach_below b x p f.order t.monos h, w)

factor_less : (n b w : ℕ) → n * (1 + b) ≤ w → n ≤ w
factor_less n b w h = omega (arith, h)

pub cofactor_small : (b x : ℕ) (v : ℤ) (p out : List Term) → IsTame b p → unsigned_abs v ≤ b → out ≡ cofactor_terms x v p → norm out < 2 ^ 126
cofactor_small b x v p out t h e =
    let w : weight b p < 2 ^ 100 = t.weight in
    subst (λ (r : List Term). norm r < 2 ^ 126) (sym e) (omega (arith, factor_less (norm (cofactor_terms x v p)) b (weight b p) (norm_cofactor_terms b x v p h t.monos), w))

times_less : (p d : ℕ) → p * (2 * d + 1) ≤ 65536 → p * d ≤ 65536
times_less p d h = omega (arith, h)

pub cofactor_few : (b x : ℕ) (v : ℤ) (p out : List Term) → IsTame b p → out ≡ cofactor_terms x v p → spread out ≤ 65536
cofactor_few b x v p out t e =
    subst (λ (r : List Term). spread r ≤ 65536) (sym e)
    (omega (arith, spread_cofactor_terms (degree p) x v p t.monos (omega arith), times_less (spread p) (degree p) t.spread))

pub put_small : (b x : ℕ) (v : ℤ) (p out : List Term) → IsTame b p → unsigned_abs v ≤ b → out ≡ put_terms x v p → norm out < 2 ^ 126
put_small b x v p out t h e =
    let w : weight b p < 2 ^ 100 = t.weight in
    subst (λ (r : List Term). norm r < 2 ^ 126) (sym e) (omega (arith, norm_below b (put_terms x v p), weight_put b x v p h t.monos, w))

pub put_few : (b x : ℕ) (v : ℤ) (p out : List Term) → IsTame b p → out ≡ put_terms x v p → spread out ≤ 65536
put_few b x v p out t e =
    let f = t.fits in
    subst (λ (r : List Term). spread r ≤ 65536) (sym e) (omega (arith, spread_put x v p, f.spread))
