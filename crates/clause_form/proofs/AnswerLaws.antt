-- The polynomial that is found for a term is the term's; where none is found, the term isn't within the limits.
use Rattle.std.specs.Prelude.{◌≡◌, ◌≢◌, ℕ, zero, suc, ◌+◌, ◌*◌, ◌-◌, ◌^◌, ◌%◌, ◌≤◌, ◌<◌, ◌==◌, nat_lt, nat_le, ℤ, pos, negsuc, unsigned_abs, List, [], ◌∷◌, true, false, ◌&&◌, ◌⊎◌, Option, Some, None, if◌then◌else◌, refl}
use Rattle.std.proofs.Common.{ap, ◌∙◌, sym, subst, arith, inl, inr}
use Rattle.std.proofs.lemmas.Int.{ints}
use Rattle.std.proofs.Math.Nat.{pow-zero, pow-suc, mul-le-mul, mul_comm, pow-le-pow_right, pow-le-pow_left}
use Rattle.std.proofs.lemmas.Bool.{eqb-true}
use Rattle.mm_num.specs.Option.{◌>>=◌}
use Rattle.goal_ast.proofs.CountingLaws.{both_same}
use Rattle.mm_poly.specs.declared.term.Term.{Term}
use Rattle.mm_poly.specs.Mono.{IsMono, mono_degree}
use Rattle.mm_poly.specs.Poly.{norm, spread, degree, IsPoly, AllMono, plus, times, constant_of, variable_of}
use Rattle.mm_poly.proofs.EachLaws.{each_plus, each_scaled, each_times, each_with}
use Rattle.mm_poly.proofs.FactorLaws.{mono_of_times}
use Rattle.mm_poly.proofs.CaseLaws.{by_if}
use Rattle.mm_poly.proofs.PolyLaws.{poly_plus, poly_scaled, poly_times, poly_with}
use Rattle.zify.specs.declared.term.ZTerm.{ZTerm}
use Rattle.zify.specs.declared.term.ZTerm.TheOpen.{ZTerm-F}
use Rattle.zify.specs.declared.term.ZTerm.TheViews.{roll-ZTerm}
use Rattle.zify.specs.declared.term.ZTerm.TheFolds.{map-ZTerm, fold-roll-ZTerm, ind-ZTerm}
use Rattle.goal_measure.specs.declared.measure.Measure.{Measure}
use Rattle.goal_measure.specs.Measure.{of_literal, of_variable, of_sum, of_product, of_power}
use Rattle.zify.specs.Measure.{measure_level, measure_of}
use Rattle.clause_form.specs.Polynomial.{poly_power, opposite_of, poly_level, poly_of, Within}
use Rattle.clause_form.specs.machine.Fitting.{sum_has_room, product_has_room, fitted_sum, fitted_product, fitted_constant, times_fitted, turns_product, is_unit, fitted_power, opposite_fitted, sum_fitted, positive_power, power_fitted, fitted_level, fitted}
use Rattle.clause_form.proofs.BoundLaws.{constant_within, variable_within, opposite_within, sum_within, product_within, power_within}

-- not within the limits of spread and degree, or else of weight
abbrev pub TooBig : Measure → Type 0
TooBig m = m.spread ≤ 256 → m.degree ≤ 8 → 2 ^ 100 ≤ m.weight

abbrev pub Found : Option (List Term) → List Term → Measure → Type 0
Found (Some r) p m = r ≡ p
Found None p m = TooBig m

pub record Answers (o : Option (List Term)) (p : List Term) (m : Measure) : Type 0 where
  pub found : Found o p m
  pub within : Within p m
  pub order : IsPoly p
  pub monos : AllMono p
  pub spread : 1 ≤ m.spread

-- ---- room

no_sum_room : (n s w : ℕ) → (nat_lt n (2 ^ 126) && nat_le s 65536) ≡ false → n ≤ w → s ≤ 256 → 2 ^ 100 ≤ w
no_sum_room n s w h k l = grind arith

no_product_room : (n s d w : ℕ) → (nat_lt n (2 ^ 126) && (nat_le s 65536 && nat_le d 255)) ≡ false → n ≤ w → s ≤ 256 → d ≤ 8 → 2 ^ 100 ≤ w
no_product_room n s d w h k l m = grind arith

no_constant_room : (n w : ℕ) → nat_lt n (2 ^ 126) ≡ false → n ≤ w → 2 ^ 100 ≤ w
no_constant_room n w h k = grind arith

-- ---- sums

sum_kept : (p q : List Term) (a b : Measure) → Within p a → Within q b → Found (fitted_sum p q) (plus p q) (of_sum a b)
sum_kept p q a b h k = by_if (sum_has_room p q) (Some (plus p q)) None (λ o. Found o (plus p q) (of_sum a b))
    (λ e. refl)
    (λ e s d. no_sum_room (norm p + norm q) (spread p + spread q) (a.weight + b.weight) e (omega (arith, h.norm, k.norm)) (omega (arith, h.spread, k.spread)))

sum_found : (o r : Option (List Term)) (p q : List Term) (a b : Measure) → Found o p a → Found r q b → Within p a → Within q b → Found (sum_fitted o r) (plus p q) (of_sum a b)
sum_found None r p q a b f g h k = λ s d. let w = f (omega arith) (omega arith) in omega arith
sum_found (Some u) None p q a b f g h k = λ s d. let w = g (omega arith) (omega arith) in omega arith
sum_found (Some u) (Some v) p q a b f g h k =
    subst (λ u. Found (fitted_sum u v) (plus p q) (of_sum a b)) (sym f) (subst (λ v. Found (fitted_sum p v) (plus p q) (of_sum a b)) (sym g) (sum_kept p q a b h k))

sum_answers : (o r : Option (List Term)) (p q : List Term) (a b : Measure) → Answers o p a → Answers r q b → Answers (sum_fitted o r) (plus p q) (of_sum a b)
sum_answers o r p q a b h k = record {
  found = sum_found o r p q a b h.found k.found h.within k.within;
  within = sum_within p q a b h.within k.within;
  order = poly_plus p q h.order k.order;
  monos = each_plus IsMono p q h.monos k.monos;
  spread = omega (arith, h.spread);
}

opposite_found : (o : Option (List Term)) (p : List Term) (a : Measure) → Found o p a → Found (opposite_fitted o) (opposite_of p) a
opposite_found None p a f = f
opposite_found (Some u) p a f = ap opposite_of f

opposite_answers : (o : Option (List Term)) (p : List Term) (a : Measure) → Answers o p a → Answers (opposite_fitted o) (opposite_of p) a
opposite_answers o p a h = record {
  found = opposite_found o p a h.found;
  within = opposite_within p a h.within;
  order = poly_scaled (negsuc 0) p h.order;
  monos = each_scaled IsMono (negsuc 0) p h.monos;
  spread = h.spread;
}

-- ---- products

times_nil : (p : List Term) → times p [] ≡ []
times_nil [] = refl
times_nil (t ∷ p) = times_nil p

nonzero_norm : (t : Term) (p : List Term) → IsPoly (t ∷ p) → 1 ≤ norm (t ∷ p)
nonzero_norm t p o = omega (arith, at_least_1 t.coeff o.0)
  where
    at_least_1 : (c : ℤ) → c ≢ pos 0 → 1 ≤ unsigned_abs c
    at_least_1 (pos zero) h = absurd (h refl)
    at_least_1 (pos (suc n)) h = omega (arith, ints)
    at_least_1 (negsuc n) h = omega (arith, ints)

-- a factor of at least 1
times_one : (a b c : ℕ) → 1 ≤ b → a * b ≤ c → a ≤ c
times_one a b c h k = let p : a * 1 ≤ a * b = mul-le-mul {n₁ = a} {m₁ = 1} {n₂ = a} {m₂ = b} (omega arith) h in omega arith

one_times : (a b c : ℕ) → 1 ≤ a → a * b ≤ c → b ≤ c
one_times a b c h k = times_one b a c h (omega arith)

first_big : (a b : Measure) → TooBig a → 1 ≤ b.spread → 1 ≤ b.weight → TooBig (of_product a b)
first_big a b f h k s d =
    let w = f (times_one a.spread b.spread 256 h s) (omega arith) in
    let p : 2 ^ 100 * 1 ≤ a.weight * b.weight = mul-le-mul {n₁ = 2 ^ 100} {m₁ = 1} {n₂ = a.weight} {m₂ = b.weight} w k in
    omega arith

second_big : (a b : Measure) → TooBig b → 1 ≤ a.spread → 1 ≤ a.weight → TooBig (of_product a b)
second_big a b f h k s d =
    let w = f (one_times a.spread b.spread 256 h s) (omega arith) in
    let p : 1 * 2 ^ 100 ≤ a.weight * b.weight = mul-le-mul {n₁ = 1} {m₁ = 2 ^ 100} {n₂ = a.weight} {m₂ = b.weight} k w in
    omega arith

both_big : (a b : Measure) → TooBig a → TooBig b → 1 ≤ a.spread → 1 ≤ b.spread → TooBig (of_product a b)
both_big a b f g h k s d =
    let w = f (times_one a.spread b.spread 256 k s) (omega arith) in
    let v = g (one_times a.spread b.spread 256 h s) (omega arith) in
    let p : 2 ^ 100 * 1 ≤ a.weight * b.weight = mul-le-mul {n₁ = 2 ^ 100} {m₁ = 1} {n₂ = a.weight} {m₂ = b.weight} w (omega arith) in
    omega arith

product_kept : (p q : List Term) (a b : Measure) → Within p a → Within q b → Found (fitted_product p q) (times p q) (of_product a b)
product_kept p q a b h k = by_if (product_has_room p q) (Some (times p q)) None (λ o. Found o (times p q) (of_product a b))
    (λ e. refl)
    (λ e s d.
    let n : norm p * norm q ≤ a.weight * b.weight = mul-le-mul h.norm k.norm in
    let m : spread p * spread q ≤ a.spread * b.spread = mul-le-mul h.spread k.spread in
    no_product_room (norm p * norm q) (spread p * spread q) (degree p + degree q) (a.weight * b.weight) e n (omega arith) (omega (arith, h.degree, k.degree)))

product_found : (o r : Option (List Term)) (p q : List Term) (a b : Measure) → Answers o p a → Answers r q b → Found (times_fitted o r) (times p q) (of_product a b)
product_found None None p q a b h k = both_big a b h.found k.found h.spread k.spread
product_found None (Some []) p q a b h k = sym (ap (λ v. times p v) (sym k.found) ∙ times_nil p)
product_found None (Some (u ∷ v)) p q a b h k =
    let n : 1 ≤ norm (u ∷ v) = nonzero_norm u v (subst (λ w. IsPoly w) (sym k.found) k.order) in
    let m : norm (u ∷ v) ≡ norm q = ap (λ w. norm w) k.found in
    first_big a b h.found k.spread (omega (arith, k.within.norm))
product_found (Some []) r p q a b h k = ap (λ v. times v q) h.found
product_found (Some (t ∷ u)) None p q a b h k =
    let n : 1 ≤ norm (t ∷ u) = nonzero_norm t u (subst (λ w. IsPoly w) (sym h.found) h.order) in
    let m : norm (t ∷ u) ≡ norm p = ap (λ w. norm w) h.found in
    second_big a b k.found h.spread (omega (arith, h.within.norm))
product_found (Some (t ∷ u)) (Some []) p q a b h k = sym (ap (λ v. times p v) (sym k.found) ∙ times_nil p)
product_found (Some (t ∷ u)) (Some (v ∷ w)) p q a b h k =
    subst (λ x. Found (fitted_product x (v ∷ w)) (times p q) (of_product a b)) (sym h.found)
    (subst (λ x. Found (fitted_product p x) (times p q) (of_product a b)) (sym k.found) (product_kept p q a b h.within k.within))

product_answers : (o r : Option (List Term)) (p q : List Term) (a b : Measure) → Answers o p a → Answers r q b → Answers (times_fitted o r) (times p q) (of_product a b)
product_answers o r p q a b h k = record {
  found = product_found o r p q a b h k;
  within = product_within p q a b h.within k.within;
  order = poly_times p q h.order k.order;
  monos = each_times IsMono p q mono_of_times h.monos k.monos;
  spread = let p : 1 * 1 ≤ a.spread * b.spread = mul-le-mul {n₁ = 1} {m₁ = 1} {n₂ = a.spread} {m₂ = b.spread} h.spread k.spread in omega arith;
}

-- ---- powers

least_power : (a n : ℕ) → 1 ≤ a → 1 ≤ a ^ n
least_power a zero h = omega (arith, pow-zero a)
least_power a (suc n) h =
    let p : 1 * 1 ≤ a ^ n * a = mul-le-mul {n₁ = 1} {m₁ = 1} {n₂ = a ^ n} {m₂ = a} (least_power a n h) h in
    omega (arith, pow-suc a n)

own_power : (a n : ℕ) → 1 ≤ a → a ≤ a ^ suc n
own_power a n h = let p : 1 * a ≤ a ^ n * a = mul-le-mul {n₁ = 1} {m₁ = a} {n₂ = a ^ n} {m₂ = a} (least_power a n h) (omega arith) in omega (arith, pow-suc a n)

power_order : (p : List Term) (n : ℕ) → IsPoly p → IsPoly (poly_power p n)
power_order p zero h = (λ e. cc, tt, tt)
power_order p (suc n) h = poly_times p (poly_power p n) h (power_order p n h)

-- a part that is too big has no small power
big_power : (a : Measure) (n : ℕ) → TooBig a → 1 ≤ a.spread → TooBig (of_power a (suc n))
big_power a n f h s d =
    let w = f (omega (arith, own_power a.spread n h)) (omega (arith, one_times (suc n) a.degree 8 (omega arith) d)) in
    omega (arith, own_power a.weight n (omega arith))

power_monos : (p : List Term) (n : ℕ) → AllMono p → AllMono (poly_power p n)
power_monos p zero h = (tt, tt)
power_monos p (suc n) h = each_times IsMono p (poly_power p n) mono_of_times h (power_monos p n h)

-- a number with a power of at least 2^100 is at least 1
base_positive : (w n : ℕ) → 2 ^ 100 ≤ w ^ n → 1 ≤ w
base_positive zero zero h = absurd (omega (arith, pow-zero 0))
base_positive zero (suc n) h = let p : 0 ^ suc n ≡ 0 ^ n * 0 = pow-suc 0 n in absurd (omega arith)
base_positive (suc w) n h = omega arith

-- and so is each higher power
big_grows : (a : Measure) (m k : ℕ) → m ≤ k → 1 ≤ a.spread → TooBig (of_power a m) → TooBig (of_power a k)
big_grows a m k h l f s d =
    let p : a.spread ^ m ≤ a.spread ^ k = pow-le-pow_right {n = a.spread} l {i = m} {j = k} h in
    let q : m * a.degree ≤ k * a.degree = mul-le-mul {n₁ = m} {m₁ = a.degree} {n₂ = k} {m₂ = a.degree} h (omega arith) in
    let w = f (omega arith) (omega arith) in
    let r : a.weight ^ m ≤ a.weight ^ k = pow-le-pow_right {n = a.weight} (base_positive a.weight m w) {i = m} {j = k} h in
    omega arith

turn_found : (o : Option (List Term)) (p r : List Term) (a b c : Measure) → Found o r b → Within p a → Within r b → (TooBig b → TooBig c) → (TooBig (of_product a b) → TooBig c)
    → Found (o >>= λ r. fitted_product p r) (times p r) c
turn_found None p r a b c f h k g i = g f
turn_found (Some u) p r a b c f h k g i =
    subst (λ x. Found (fitted_product p x) (times p r) c) (sym f) (moved (fitted_product p r) (product_kept p r a b h k))
  where
    moved : (o : Option (List Term)) → Found o (times p r) (of_product a b) → Found o (times p r) c
    moved None f = i f
    moved (Some u) f = f

next_is : (a n : ℕ) → a * a ^ n ≡ a ^ suc n
next_is a n = mul_comm a (a ^ n) ∙ sym (pow-suc a n)

turns_found : (p : List Term) (a : Measure) (n : ℕ) → Within p a → 1 ≤ a.spread → Found (turns_product p n) (poly_power p n) (of_power a n)
turns_found p a zero h l = refl
turns_found p a (suc n) h l = turn_found (turns_product p n) p (poly_power p n) a (of_power a n) (of_power a (suc n))
    (turns_found p a n h l) h (power_within p a n h)
    (big_grows a n (suc n) (omega arith) l)
    (λ f s d. let w = f (omega (arith, next_is a.spread n)) (omega arith) in omega (arith, next_is a.weight n))

-- ---- 0, 1 and -1

norm_none : (ts : List Term) → IsPoly ts → norm ts ≡ 0 → ts ≡ []
norm_none [] h e = refl
norm_none (t ∷ ts) h e = absurd (omega (arith, nonzero_norm t ts h))

degree_none : (fs : List (ℕ × ℕ)) → IsMono fs → mono_degree fs ≡ 0 → fs ≡ []
degree_none [] h e = refl
degree_none (f ∷ fs) h e = absurd (omega (arith, h.0))

one_or_minus : (c : ℤ) → c ≢ pos 0 → unsigned_abs c ≤ 1 → (c ≡ pos 1) ⊎ (c ≡ negsuc 0)
one_or_minus (pos zero) h l = absurd (h refl)
one_or_minus (pos (suc zero)) h l = inl refl
one_or_minus (pos (suc (suc n))) h l = absurd (omega (arith, ints))
one_or_minus (negsuc zero) h l = inr refl
one_or_minus (negsuc (suc n)) h l = absurd (omega (arith, ints))

term_with : (t : Term) (m : List (ℕ × ℕ)) (c : ℤ) → t.mono ≡ m → t.coeff ≡ c → t ≡ record { coeff = c; mono = m }
term_with t m c e f = both_same (λ (n : List (ℕ × ℕ)) (d : ℤ). record { coeff = d; mono = n }) _ _ _ _ e f

unit_is : (p : List Term) → IsPoly p → AllMono p → degree p ≡ 0 → norm p ≤ 1 → (p ≡ []) ⊎ ((p ≡ constant_of (pos 1)) ⊎ (p ≡ constant_of (negsuc 0)))
unit_is [] h m d n = inl refl
unit_is (t ∷ ts) h m d n =
    let e : ts ≡ [] = norm_none ts h.2 (omega (arith, nonzero_norm t [] (h.0, tt, tt))) in
    let f : t.mono ≡ [] = degree_none t.mono m.0 (omega arith) in
    inr (elim (one_or_minus t.coeff h.0 (omega arith)) [
      | inl c ↦ inl (both_same (λ (u : Term) (us : List Term). u ∷ us) _ _ _ _ (term_with t [] (pos 1) f c) e)
      | inr c ↦ inr (both_same (λ (u : Term) (us : List Term). u ∷ us) _ _ _ _ (term_with t [] (negsuc 0) f c) e)
    ])

-- ---- their powers

parity : (P : ℕ → List Term) → ((n : ℕ) → P (suc (suc (suc n))) ≡ P (suc n)) → (k : ℕ) → 1 ≤ k → P (2 - k % 2) ≡ P k
parity P two zero h = absurd (omega arith)
parity P two (suc zero) h = refl
parity P two (suc (suc zero)) h = refl
parity P two (suc (suc (suc j))) h = ap (λ n. P (2 - n)) (mod_two (suc j)) ∙ parity P two (suc j) (omega arith) ∙ sym (two j)
  where
    mod_two : (n : ℕ) → suc (suc n) % 2 ≡ n % 2
    mod_two n = omega arith

one_power : (n : ℕ) → poly_power (constant_of (pos 1)) n ≡ constant_of (pos 1)
one_power zero = refl
one_power (suc n) = ap (λ q. times (constant_of (pos 1)) q) (one_power n)

minus_power : (n : ℕ) → (poly_power (constant_of (negsuc 0)) n ≡ constant_of (pos 1)) ⊎ (poly_power (constant_of (negsuc 0)) n ≡ constant_of (negsuc 0))
minus_power zero = inl refl
minus_power (suc n) = elim (minus_power n) [
  | inl e ↦ inr (ap (λ q. times (constant_of (negsuc 0)) q) e)
  | inr e ↦ inl (ap (λ q. times (constant_of (negsuc 0)) q) e)
]

minus_twice : (q : List Term) → (q ≡ constant_of (pos 1)) ⊎ (q ≡ constant_of (negsuc 0)) → times (constant_of (negsuc 0)) (times (constant_of (negsuc 0)) q) ≡ q
minus_twice q (inl e) = subst (λ (r : List Term). times (constant_of (negsuc 0)) (times (constant_of (negsuc 0)) r) ≡ r) (sym e) refl
minus_twice q (inr e) = subst (λ (r : List Term). times (constant_of (negsuc 0)) (times (constant_of (negsuc 0)) r) ≡ r) (sym e) refl

unit_power : (p : List Term) (k : ℕ) → 1 ≤ k → (p ≡ []) ⊎ ((p ≡ constant_of (pos 1)) ⊎ (p ≡ constant_of (negsuc 0))) → poly_power p (2 - k % 2) ≡ poly_power p k
unit_power p k h (inl e) = subst (λ q. poly_power q (2 - k % 2) ≡ poly_power q k) (sym e) (parity (poly_power []) (λ n. refl) k h)
unit_power p k h (inr (inl e)) = subst (λ q. poly_power q (2 - k % 2) ≡ poly_power q k) (sym e) (one_power (2 - k % 2) ∙ sym (one_power k))
unit_power p k h (inr (inr e)) = subst (λ q. poly_power q (2 - k % 2) ≡ poly_power q k) (sym e)
    (parity (poly_power (constant_of (negsuc 0))) (λ n. minus_twice (poly_power (constant_of (negsuc 0)) (suc n)) (minus_power (suc n))) k h)

found_moved : (o : Option (List Term)) (p q : List Term) (a b : Measure) → p ≡ q → (TooBig a → TooBig b) → Found o p a → Found o q b
found_moved None p q a b e g f = g f
found_moved (Some u) p q a b e g f = f ∙ e

unit_found : (p : List Term) (a : Measure) (k : ℕ) → Within p a → IsPoly p → AllMono p → 1 ≤ a.spread → 1 ≤ k → degree p ≡ 0 → norm p ≤ 1
    → Found (turns_product p (2 - k % 2)) (poly_power p k) (of_power a k)
unit_found p a k h o m l g d n = found_moved (turns_product p (2 - k % 2)) (poly_power p (2 - k % 2)) (poly_power p k) (of_power a (2 - k % 2)) (of_power a k)
    (unit_power p k g (unit_is p o m d n)) (big_grows a (2 - k % 2) k (omega arith) l) (turns_found p a (2 - k % 2) h l)

unit_test : (d n : ℕ) → (d == 0 && nat_le n 1) ≡ true → (d ≡ 0) × (n ≤ 1)
unit_test d n h = grind arith

other_test : (d n : ℕ) → (d == 0 && nat_le n 1) ≡ false → (1 ≤ d) ⊎ (2 ≤ n)
other_test d n h = grind arith

not_less : (k : ℕ) → nat_lt k 100 ≡ false → 100 ≤ k
not_less k h = grind arith

large_power : (p : List Term) (a : Measure) (k : ℕ) → Within p a → 100 ≤ k → (1 ≤ degree p) ⊎ (2 ≤ norm p) → TooBig (of_power a k)
large_power p a k h l (inl d) s e =
    let q : k * 1 ≤ k * a.degree = mul-le-mul {n₁ = k} {m₁ = 1} {n₂ = k} {m₂ = a.degree} (omega arith) (omega (arith, h.degree)) in
    absurd (omega arith)
large_power p a k h l (inr n) s e =
    let q : 2 ^ 100 ≤ 2 ^ k = pow-le-pow_right {n = 2} (omega arith) {i = 100} {j = k} l in
    let r : 2 ^ k ≤ a.weight ^ k = pow-le-pow_left (omega (arith, h.norm)) k in
    omega arith

power_kept : (p : List Term) (a : Measure) (k : ℕ) → Within p a → IsPoly p → AllMono p → 1 ≤ a.spread → 1 ≤ k → Found (fitted_power p k) (poly_power p k) (of_power a k)
power_kept p a k h o m l g =
    by_if (is_unit p) (turns_product p (2 - k % 2)) (if nat_lt k 100 then turns_product p k else None) (λ r. Found r (poly_power p k) (of_power a k))
    (λ e. let u = unit_test (degree p) (norm p) e in unit_found p a k h o m l g u.0 u.1)
    (λ e. by_if (nat_lt k 100) (turns_product p k) None (λ r. Found r (poly_power p k) (of_power a k))
    (λ f. turns_found p a k h l)
    (λ f. large_power p a k h (not_less k f) (other_test (degree p) (norm p) e)))

positive_found : (o : Option (List Term)) (p : List Term) (a : Measure) (n : ℕ) → Answers o p a → Found (positive_power o (suc n)) (poly_power p (suc n)) (of_power a (suc n))
positive_found None p a n h = big_power a n h.found h.spread
positive_found (Some u) p a n h =
    subst (λ x. Found (fitted_power x (suc n)) (poly_power p (suc n)) (of_power a (suc n))) (sym h.found) (power_kept p a (suc n) h.within h.order h.monos h.spread (omega arith))

power_found : (o : Option (List Term)) (p : List Term) (a : Measure) (k : ℕ) → Answers o p a → Found (power_fitted o k) (poly_power p k) (of_power a k)
power_found o p a zero h = refl
power_found o p a (suc n) h = by_if (suc n == 0) (Some (constant_of (pos 1))) (positive_power o (suc n)) (λ r. Found r (poly_power p (suc n)) (of_power a (suc n)))
    (λ e. absurd (let z = eqb-true (suc n) 0 e in omega arith))
    (λ e. positive_found o p a n h)

power_answers : (o : Option (List Term)) (p : List Term) (a : Measure) (k : ℕ) → Answers o p a → Answers (power_fitted o k) (poly_power p k) (of_power a k)
power_answers o p a k h = record {
  found = power_found o p a k h;
  within = power_within p a k h.within;
  order = power_order p k h.order;
  monos = power_monos p k h.monos;
  spread = least_power a.spread k h.spread;
}

-- ---- terms

constant_answers : (n : ℤ) → Answers (fitted_constant n) (constant_of n) (of_literal (unsigned_abs n))
constant_answers n = record {
  found = by_if (nat_lt (unsigned_abs n) (2 ^ 126)) (Some (constant_of n)) None (λ o. Found o (constant_of n) (of_literal (unsigned_abs n)))
      (λ e. refl)
      (λ e s d. no_constant_room (unsigned_abs n) (unsigned_abs n) e (omega arith));
  within = constant_within n;
  order = poly_with n [] [] tt tt;
  monos = each_with IsMono n [] [] tt tt;
  spread = omega arith;
}

variable_answers : (v : ℕ) → Answers (Some (variable_of v)) (variable_of v) of_variable
variable_answers v = record {
  found = refl;
  within = variable_within v;
  order = (λ e. cc, tt, tt);
  monos = ((omega arith, tt, tt), tt);
  spread = omega arith;
}

abbrev TermAnswers : ZTerm → Type 0
TermAnswers t = Answers (fitted t) (poly_of t) (measure_of t)

abbrev Known : Type 0
Known = (t : ZTerm) × TermAnswers t

abbrev terms_of : ZTerm-F Known → ZTerm-F ZTerm
terms_of y = map-ZTerm Known ZTerm (λ p. p.0) y

answers_step : (y : ZTerm-F Known)
    → Answers (fitted_level (map-ZTerm ZTerm (Option (List Term)) fitted (terms_of y))) (poly_level (map-ZTerm ZTerm (List Term) poly_of (terms_of y)))
    (measure_level (map-ZTerm ZTerm Measure measure_of (terms_of y)))
answers_step (ZTerm-F.Lit n) = constant_answers n
answers_step (ZTerm-F.Var v) = variable_answers v
answers_step (ZTerm-F.Neg a) = opposite_answers _ _ _ a.1
answers_step (ZTerm-F.Add a b) = sum_answers _ _ _ _ _ _ a.1 b.1
answers_step (ZTerm-F.Sub a b) = sum_answers _ _ _ _ _ _ a.1 (opposite_answers _ _ _ b.1)
answers_step (ZTerm-F.Mul a b) = product_answers _ _ _ _ _ _ a.1 b.1
answers_step (ZTerm-F.Pow a k) = power_answers _ _ _ (unsigned_abs k) a.1

moved : (o r : Option (List Term)) (p q : List Term) (a b : Measure) → o ≡ r → p ≡ q → a ≡ b → Answers r q b → Answers o p a
moved o r p q a b e f g h = subst (λ x. Answers x p a) (sym e) (subst (λ x. Answers r x a) (sym f) (subst (λ x. Answers r q x) (sym g) h))

pub term_answers : (t : ZTerm) → TermAnswers t
term_answers = ind-ZTerm TermAnswers (λ d y q. subst (λ (z : ZTerm-F ZTerm). TermAnswers (roll-ZTerm z)) q (step y))
  where
    step : (y : ZTerm-F Known) → TermAnswers (roll-ZTerm (terms_of y))
    step y = moved _ _ _ _ _ _ (fold-roll-ZTerm (Option (List Term)) fitted_level (terms_of y)) (fold-roll-ZTerm (List Term) poly_level (terms_of y))
        (fold-roll-ZTerm Measure measure_level (terms_of y)) (answers_step y)

-- ---- code

-- within the limits there is a polynomial, and it is the term's
pub found_within : (o : Option (List Term)) (t : ZTerm) → o ≡ fitted t → (measure_of t).weight < 2 ^ 100 → (measure_of t).spread ≤ 256 → (measure_of t).degree ≤ 8 → o ≡ Some (poly_of t)
found_within o t e w s d = e ∙ by_found (fitted t) (term_answers t).found
  where
    by_found : (r : Option (List Term)) → Found r (poly_of t) (measure_of t) → r ≡ Some (poly_of t)
    by_found None f = absurd (let k = f s d in omega arith)
    by_found (Some u) f = ap Some f
