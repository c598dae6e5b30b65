-- Bounds on the cofactor, and on what is left where a value is put for a variable.
use Rattle.std.specs.Prelude.{◌≡◌, ◌≢◌, ℕ, zero, suc, ◌+◌, ◌*◌, ◌^◌, ◌<◌, ◌≤◌, ◌||◌, max, ℤ, pos, ◌*ℤ◌, neg_ℤ, unsigned_abs, List, [], ◌∷◌, ◌++◌, Bool, true, false, nat_lt, refl}
use Rattle.std.proofs.Common.{ap, sym, ◌∙◌, subst, arith, length-append}
use Rattle.std.proofs.lemmas.Int.{ints, unsigned_abs-mul}
use Rattle.std.proofs.Math.Nat.{mul-le-mul_left, mul-le-mul_right, pow-zero, pow-succ', one-le-pow}
use Rattle.std.proofs.lemmas.Nat.{pow-add}
use Rattle.mm_num.specs.Power.{power}
use Rattle.mm_num.proofs.TestLaws.{is_below}
use Rattle.mm_poly.specs.declared.term.Term.{Term}
use Rattle.mm_poly.specs.Mono.{mono_degree, exponent_of, without_variable, with_exponent, IsMono}
use Rattle.mm_poly.specs.Poly.{norm, spread, degree, IsPoly, EachMono, AllMono}
use Rattle.mm_poly.proofs.BoundLaws.{degree_times_factor}
use Rattle.mm_poly.proofs.PointLaws.{power_small, part_of_power}
use Rattle.mm_poly.proofs.ProductLaws.{norm_append}
use Rattle.box_enum.specs.machine.Putting.{put_terms, has_variable, quotient_terms, cofactor_terms, cofactor, weight}
use Rattle.box_enum.proofs.JoiningLaws.{norm_of_joined, spread_of_joined, degree_of_joined}
use Rattle.box_enum.proofs.CofactorLaws.{power_more, whole}

from_one : (b k : ℕ) → 1 ≤ (1 + b) ^ k
from_one b k = let p : 0 < 1 + b = omega arith in one-le-pow k (1 + b) p

-- ---- the weight

pub norm_below : (b : ℕ) (p : List Term) → norm p ≤ weight b p
norm_below b [] = omega arith
norm_below b (t ∷ ts) = omega (arith, mul-le-mul_left (unsigned_abs t.coeff) (from_one b (mono_degree t.mono)), norm_below b ts)

pub weight_below : (b d : ℕ) (p : List Term) → degree p ≤ d → weight b p ≤ norm p * (1 + b) ^ d
weight_below b d [] h = omega arith
weight_below b d (t ∷ ts) h = omega (
  arith,
  part_of_power (unsigned_abs t.coeff) (1 + b) (mono_degree t.mono) d (omega arith) (omega arith),
  weight_below b d ts (omega arith),
)

-- ---- degrees

degree_with_exponent : (m : List (ℕ × ℕ)) (x k : ℕ) → mono_degree (with_exponent m x k) ≡ k + mono_degree (without_variable m x)
degree_with_exponent m x zero = omega arith
degree_with_exponent m x (suc k) = ap mono_degree (power_more x k (without_variable m x)) ∙ degree_times_factor (x, suc k) (without_variable m x)

pub degree_apart : (m : List (ℕ × ℕ)) (x : ℕ) → IsMono m → mono_degree m ≡ exponent_of m x + mono_degree (without_variable m x)
degree_apart m x a = ap mono_degree (sym (whole x m a)) ∙ degree_with_exponent m x (exponent_of m x)

-- ---- the cofactor

one_more : (a d b p : ℕ) → d ≤ b → 1 ≤ p → a + (a * d) * p ≤ a * ((1 + b) * p)
one_more a d b p h k =
    let s : a * 1 ≤ a * p = mul-le-mul_left a k in
    let t : (a * d) * p ≤ (a * b) * p = mul-le-mul_right p (mul-le-mul_left a h) in
    omega (arith, s, t)

norm_quotient : (b x : ℕ) (v c : ℤ) (k : ℕ) (m : List (ℕ × ℕ)) → unsigned_abs v ≤ b → norm (quotient_terms x v c (suc k) m) ≤ unsigned_abs c * (1 + b) ^ k
norm_quotient b x v c zero m h = omega (arith, ap (λ n. unsigned_abs c * n) (pow-zero (1 + b)))
norm_quotient b x v c (suc k) m h = omega (
  arith,
  norm_quotient b x v (c *ℤ v) k m h,
  ap (λ n. n * (1 + b) ^ k) (unsigned_abs-mul c v),
  one_more (unsigned_abs c) (unsigned_abs v) b ((1 + b) ^ k) h (from_one b k),
  ap (λ n. unsigned_abs c * n) (pow-succ' (1 + b) k),
)

once_more : (n a b p q : ℕ) → n ≤ a * p → q ≡ (1 + b) * p → n * (1 + b) ≤ a * q
once_more n a b p q h e =
    let s : n * (1 + b) ≤ (a * p) * (1 + b) = mul-le-mul_right (1 + b) h in
    let t : a * q ≡ a * ((1 + b) * p) = ap (λ k. a * k) e in
    omega (arith, s, t)

norm_quotient_all : (b x : ℕ) (v c : ℤ) (k : ℕ) (m : List (ℕ × ℕ)) → unsigned_abs v ≤ b → norm (quotient_terms x v c k m) * (1 + b) ≤ unsigned_abs c * (1 + b) ^ k
norm_quotient_all b x v c zero m h = omega arith
norm_quotient_all b x v c (suc k) m h =
    once_more (norm (quotient_terms x v c (suc k) m)) (unsigned_abs c) b ((1 + b) ^ k) ((1 + b) ^ suc k) (norm_quotient b x v c k m h) (pow-succ' (1 + b) k)

abs_neg : (c : ℤ) → unsigned_abs (neg_ℤ c) ≡ unsigned_abs c
abs_neg c = omega (arith, ints)

both_parts : (n m b s t : ℕ) → n * (1 + b) ≤ s → m * (1 + b) ≤ t → (n + m) * (1 + b) ≤ s + t
both_parts n m b s t h k = omega (arith, h, k)

pub norm_cofactor_terms : (b x : ℕ) (v : ℤ) (p : List Term) → unsigned_abs v ≤ b → AllMono p → norm (cofactor_terms x v p) * (1 + b) ≤ weight b p
norm_cofactor_terms b x v [] h a = omega arith
norm_cofactor_terms b x v (t ∷ ts) h a =
    let e = exponent_of t.mono x in
    let q = quotient_terms x v (neg_ℤ t.coeff) e t.mono in
    let own : norm q * (1 + b) ≤ unsigned_abs t.coeff * (1 + b) ^ e =
    subst (λ n. norm q * (1 + b) ≤ n * (1 + b) ^ e) (abs_neg t.coeff) (norm_quotient_all b x v (neg_ℤ t.coeff) e t.mono h) in
    let more : unsigned_abs t.coeff * (1 + b) ^ e ≤ unsigned_abs t.coeff * (1 + b) ^ mono_degree t.mono =
    part_of_power (unsigned_abs t.coeff) (1 + b) e (mono_degree t.mono) (omega arith) (omega (arith, degree_apart t.mono x a.0)) in
    let rest = norm_cofactor_terms b x v ts h a.1 in
    let both = both_parts (norm q) (norm (cofactor_terms x v ts)) b (unsigned_abs t.coeff * (1 + b) ^ mono_degree t.mono) (weight b ts) (omega (arith, own, more)) rest in
    subst (λ n. n * (1 + b) ≤ weight b (t ∷ ts)) (sym (norm_append q (cofactor_terms x v ts))) both

pub norm_cofactor : (b x : ℕ) (v : ℤ) (p : List Term) → unsigned_abs v ≤ b → AllMono p → norm (cofactor x v p) * (1 + b) ≤ weight b p
norm_cofactor b x v p h a =
    let s = mul-le-mul_right (1 + b) (norm_of_joined (cofactor_terms x v p)) in
    let t = norm_cofactor_terms b x v p h a in
    omega (arith, s, t)

spread_quotient : (x : ℕ) (v c : ℤ) (k : ℕ) (m : List (ℕ × ℕ)) → spread (quotient_terms x v c k m) ≡ k
spread_quotient x v c zero m = refl
spread_quotient x v c (suc k) m = omega (arith, spread_quotient x v (c *ℤ v) k m)

pub spread_cofactor_terms : (d x : ℕ) (v : ℤ) (p : List Term) → AllMono p → degree p ≤ d → spread (cofactor_terms x v p) ≤ spread p * d
spread_cofactor_terms d x v [] a h = omega arith
spread_cofactor_terms d x v (t ∷ ts) a h =
    let q = quotient_terms x v (neg_ℤ t.coeff) (exponent_of t.mono x) t.mono in
    omega (
      arith,
      length-append q (cofactor_terms x v ts),
      spread_quotient x v (neg_ℤ t.coeff) (exponent_of t.mono x) t.mono,
      degree_apart t.mono x a.0,
      spread_cofactor_terms d x v ts a.1 (omega arith),
    )

pub spread_cofactor : (x : ℕ) (v : ℤ) (p : List Term) → AllMono p → spread (cofactor x v p) ≤ spread p * degree p
spread_cofactor x v p a = omega (arith, spread_of_joined (cofactor_terms x v p), spread_cofactor_terms (degree p) x v p a (omega arith))

degree_quotient : (d x : ℕ) (v c : ℤ) (k : ℕ) (m : List (ℕ × ℕ)) → k + mono_degree (without_variable m x) ≤ d + 1 → degree (quotient_terms x v c k m) ≤ d
degree_quotient d x v c zero m h = omega arith
degree_quotient d x v c (suc k) m h = omega (arith, degree_with_exponent m x k, degree_quotient d x v (c *ℤ v) k m (omega arith))

degree_append : (xs ys : List Term) → degree (xs ++ ys) ≡ max (degree xs) (degree ys)
degree_append [] ys = omega arith
degree_append (x ∷ xs) ys = omega (arith, degree_append xs ys)

degree_cofactor_terms : (d x : ℕ) (v : ℤ) (p : List Term) → AllMono p → degree p ≤ d + 1 → degree (cofactor_terms x v p) ≤ d
degree_cofactor_terms d x v [] a h = omega arith
degree_cofactor_terms d x v (t ∷ ts) a h =
    let q = quotient_terms x v (neg_ℤ t.coeff) (exponent_of t.mono x) t.mono in
    omega (
      arith,
      degree_append q (cofactor_terms x v ts),
      degree_quotient d x v (neg_ℤ t.coeff) (exponent_of t.mono x) t.mono (omega (arith, degree_apart t.mono x a.0)),
      degree_cofactor_terms d x v ts a.1 (omega arith),
    )

pub degree_cofactor : (d x : ℕ) (v : ℤ) (p : List Term) → AllMono p → degree p ≤ d + 1 → degree (cofactor x v p) ≤ d
degree_cofactor d x v p a h = omega (arith, degree_of_joined (cofactor_terms x v p), degree_cofactor_terms d x v p a h)

-- ---- what is left

weight_of_put : (c z : ℤ) (b e d : ℕ) → unsigned_abs z ≤ b → unsigned_abs (c *ℤ power z e) * (1 + b) ^ d ≤ unsigned_abs c * (1 + b) ^ (e + d)
weight_of_put c z b e d h = omega (
  arith,
  ap (λ n. n * (1 + b) ^ d) (unsigned_abs-mul c (power z e)),
  mul-le-mul_right ((1 + b) ^ d) (mul-le-mul_left (unsigned_abs c) (power_small z (1 + b) e (omega arith))),
  ap (λ n. unsigned_abs c * n) (pow-add (1 + b) e d),
)

pub weight_put : (b x : ℕ) (v : ℤ) (p : List Term) → unsigned_abs v ≤ b → AllMono p → weight b (put_terms x v p) ≤ weight b p
weight_put b x v [] h a = omega arith
weight_put b x v (t ∷ ts) h a = omega (
  arith,
  weight_of_put t.coeff v b (exponent_of t.mono x) (mono_degree (without_variable t.mono x)) h,
  ap (λ n. unsigned_abs t.coeff * (1 + b) ^ n) (degree_apart t.mono x a.0),
  weight_put b x v ts h a.1,
)

pub spread_put : (x : ℕ) (v : ℤ) (p : List Term) → spread (put_terms x v p) ≡ spread p
spread_put x v [] = refl
spread_put x v (t ∷ ts) = omega (arith, spread_put x v ts)

pub degree_put : (x : ℕ) (v : ℤ) (p : List Term) → AllMono p → degree (put_terms x v p) ≤ degree p
degree_put x v [] a = omega arith
degree_put x v (t ∷ ts) a = omega (arith, degree_apart t.mono x a.0, degree_put x v ts a.1)

-- what stays without one of its variables
pub each_put : (P : List (ℕ × ℕ) → Type 0) (x : ℕ) (v : ℤ) (p : List Term) → ((m : List (ℕ × ℕ)) → P m → P (without_variable m x)) → EachMono P p → EachMono P (put_terms x v p)
each_put P x v [] h a = tt
each_put P x v (t ∷ ts) h a = (h t.mono a.0, each_put P x v ts h a.1)

-- ---- where the variable occurs

or_cases : (s t : Bool) {G : Type 0} → (s || t) ≡ true → (s ≡ true → G) → (t ≡ true → G) → G
or_cases true t e f g = f refl
or_cases false t e f g = g e

pub degree_from_one : (x : ℕ) (p : List Term) → AllMono p → has_variable x p ≡ true → 1 ≤ degree p
degree_from_one x [] a h = absurd cc
degree_from_one x (t ∷ ts) a h = or_cases (nat_lt 0 (exponent_of t.mono x)) (has_variable x ts) h
    (λ e. let l = is_below 0 (exponent_of t.mono x) e in omega (arith, l, degree_apart t.mono x a.0))
    (λ e. omega (arith, degree_from_one x ts a.1 e))

abs_from_one : (a : ℤ) → a ≢ pos 0 → 1 ≤ unsigned_abs a
abs_from_one a h = omega (arith, ints)

weight_of_one : (a b d : ℕ) → 1 ≤ a → 1 ≤ d → 1 + b ≤ a * (1 + b) ^ d
weight_of_one a b zero h k = absurd (omega arith)
weight_of_one a b (suc d) h k =
    let s : (1 + b) * 1 ≤ (1 + b) * (1 + b) ^ d = mul-le-mul_left (1 + b) (from_one b d) in
    let t : 1 * (1 + b) ^ suc d ≤ a * (1 + b) ^ suc d = mul-le-mul_right ((1 + b) ^ suc d) h in
    omega (arith, s, t, pow-succ' (1 + b) d)

-- a polynomial with a variable weighs more than b
pub reach_below : (b x : ℕ) (p : List Term) → IsPoly p → AllMono p → has_variable x p ≡ true → 1 + b ≤ weight b p
reach_below b x [] p a h = absurd cc
reach_below b x (t ∷ ts) p a h = or_cases (nat_lt 0 (exponent_of t.mono x)) (has_variable x ts) h
    (λ e.
    let l = is_below 0 (exponent_of t.mono x) e in
    let one : 1 ≤ mono_degree t.mono = omega (arith, l, degree_apart t.mono x a.0) in
    omega (arith, weight_of_one (unsigned_abs t.coeff) b (mono_degree t.mono) (abs_from_one t.coeff p.0) one))
    (λ e. omega (arith, reach_below b x ts p.2 a.1 e))
