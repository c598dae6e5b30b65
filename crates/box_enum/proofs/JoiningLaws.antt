-- Terms in any order and what they sum to: values, and bounds.
use Rattle.std.specs.Prelude.{◌≡◌, ℕ, ◌+◌, ◌*◌, ◌^◌, ◌≤◌, ℤ, pos, ◌+ℤ◌, ◌*ℤ◌, unsigned_abs, List, [], ◌∷◌, ◌++◌, Bool, true, false, not, refl}
use Rattle.std.proofs.Common.{ap, sym, ◌∙◌, arith}
use Rattle.std.proofs.Math.Nat.{mul-le-mul_right}
use Rattle.std.specs.Ordering.{int_eq}
use Rattle.mm_num.proofs.TestLaws.{is_int}
use Rattle.mm_poly.specs.declared.term.Term.{Term}
use Rattle.mm_poly.specs.Mono.{mono_degree}
use Rattle.mm_poly.specs.Poly.{linear_value, norm, spread, degree, IsPoly, EachMono, with_coeff, add_term, plus, nonzero_terms, joined}
use Rattle.mm_poly.proofs.OrderLaws.{mono_exact}
use Rattle.mm_poly.proofs.CaseLaws.{by_if, by_coeff, by_order}
use Rattle.mm_poly.proofs.ValueLaws.{zero_sum, sum_zero, sum_assoc, without_term}
use Rattle.mm_poly.proofs.BoundLaws.{abs_sum, norm_plus, spread_plus, degree_plus}
use Rattle.mm_poly.proofs.EachLaws.{each_plus}
use Rattle.mm_poly.proofs.LinearLaws.{linear_plus}
use Rattle.mm_poly.proofs.ProductLaws.{poly_joined}
use Rattle.mm_poly.proofs.JoinedLaws.{by_nonzero, nonzero_are, norm_nonzero, spread_nonzero, each_nonzero}
use Rattle.box_enum.specs.machine.Putting.{weight}
use Rattle.box_enum.proofs.PlainLaws.{not_false}

-- ---- values

linear_nonzero : (w : List (ℕ × ℕ) → ℤ) (ts : List Term) → linear_value w (nonzero_terms ts) ≡ linear_value w ts
linear_nonzero w [] = refl
linear_nonzero w (t ∷ ts) = by_if (not (int_eq t.coeff (pos 0))) (t ∷ nonzero_terms ts) (nonzero_terms ts) (λ r. linear_value w r ≡ t.coeff *ℤ w t.mono +ℤ linear_value w ts)
    (λ e. ap (λ v. t.coeff *ℤ w t.mono +ℤ v) (linear_nonzero w ts))
    (λ e. linear_nonzero w ts ∙ without_term t.coeff (w t.mono) (linear_value w ts) (is_int t.coeff (pos 0) (not_false _ e)))

pub linear_joined : (w : List (ℕ × ℕ) → ℤ) (ts : List Term) → linear_value w (joined ts) ≡ linear_value w ts
linear_joined w ts = linear_plus w (nonzero_terms ts) [] ∙ sum_zero (linear_value w (nonzero_terms ts)) ∙ linear_nonzero w ts

pub linear_append : (w : List (ℕ × ℕ) → ℤ) (xs ys : List Term) → linear_value w (xs ++ ys) ≡ linear_value w xs +ℤ linear_value w ys
linear_append w [] ys = sym (zero_sum (linear_value w ys))
linear_append w (x ∷ xs) ys = ap (λ v. x.coeff *ℤ w x.mono +ℤ v) (linear_append w xs ys) ∙ sum_assoc (x.coeff *ℤ w x.mono) (linear_value w xs) (linear_value w ys)

-- ---- one term more

pub with_joined : (c : ℤ) (m : List (ℕ × ℕ)) (us : List Term) → plus (with_coeff c m []) (joined us) ≡ joined (record { coeff = c; mono = m } ∷ us)
with_joined c m us = by_test (int_eq c (pos 0)) refl
  where
    by_test : (b : Bool) → int_eq c (pos 0) ≡ b → plus (with_coeff c m []) (joined us) ≡ joined (record { coeff = c; mono = m } ∷ us)
    by_test true e = rw e refl
    by_test false e = rw e refl

pub poly_of_joined : (ts : List Term) → IsPoly (joined ts)
poly_of_joined ts = poly_joined (nonzero_terms ts) (nonzero_are ts)

pub each_joined : (P : List (ℕ × ℕ) → Type 0) (ts : List Term) → EachMono P ts → EachMono P (joined ts)
each_joined P ts a = each_plus P (nonzero_terms ts) [] (each_nonzero P ts a) tt

-- ---- bounds

pub norm_of_joined : (ts : List Term) → norm (joined ts) ≤ norm ts
norm_of_joined ts = omega (arith, norm_plus (nonzero_terms ts) [], norm_nonzero ts)

pub spread_of_joined : (ts : List Term) → spread (joined ts) ≤ spread ts
spread_of_joined ts = omega (arith, spread_plus (nonzero_terms ts) [], spread_nonzero ts)

degree_nonzero : (ts : List Term) → degree (nonzero_terms ts) ≤ degree ts
degree_nonzero [] = omega arith
degree_nonzero (t ∷ ts) = by_nonzero t ts (λ r. degree r ≤ degree (t ∷ ts)) (λ n. omega (arith, degree_nonzero ts)) (omega (arith, degree_nonzero ts))

pub degree_of_joined : (ts : List Term) → degree (joined ts) ≤ degree ts
degree_of_joined ts = omega (arith, degree_plus (nonzero_terms ts) [], degree_nonzero ts)

weight_with : (b : ℕ) (c : ℤ) (m : List (ℕ × ℕ)) (ts : List Term) → weight b (with_coeff c m ts) ≤ unsigned_abs c * (1 + b) ^ mono_degree m + weight b ts
weight_with b c m ts = by_coeff c m ts (λ r. weight b r ≤ unsigned_abs c * (1 + b) ^ mono_degree m + weight b ts) (λ e. omega arith) (λ n. omega arith)

weight_both : (a c : ℤ) (w : ℕ) → unsigned_abs (a +ℤ c) * w ≤ unsigned_abs a * w + unsigned_abs c * w
weight_both a c w = let s = mul-le-mul_right w (abs_sum a c) in omega arith

weight_add_term : (b : ℕ) (t : Term) (us : List Term) → weight b (add_term t us) ≤ unsigned_abs t.coeff * (1 + b) ^ mono_degree t.mono + weight b us
weight_add_term b t [] = omega arith
weight_add_term b t (u ∷ us) = by_order t u us (λ r. weight b r ≤ unsigned_abs t.coeff * (1 + b) ^ mono_degree t.mono + weight b (u ∷ us))
    (λ e. omega arith)
    (λ e.
    let same = ap (λ m. unsigned_abs t.coeff * (1 + b) ^ mono_degree m) (mono_exact t.mono u.mono e) in
    omega (arith, same, weight_with b (t.coeff +ℤ u.coeff) u.mono us, weight_both t.coeff u.coeff ((1 + b) ^ mono_degree u.mono)))
    (λ e. omega (arith, weight_add_term b t us))

weight_plus : (b : ℕ) (p q : List Term) → weight b (plus p q) ≤ weight b p + weight b q
weight_plus b [] q = omega arith
weight_plus b (t ∷ p) q = omega (arith, weight_add_term b t (plus p q), weight_plus b p q)

weight_nonzero : (b : ℕ) (ts : List Term) → weight b (nonzero_terms ts) ≤ weight b ts
weight_nonzero b [] = omega arith
weight_nonzero b (t ∷ ts) = by_nonzero t ts (λ r. weight b r ≤ weight b (t ∷ ts)) (λ n. omega (arith, weight_nonzero b ts)) (omega (arith, weight_nonzero b ts))

pub weight_of_joined : (b : ℕ) (ts : List Term) → weight b (joined ts) ≤ weight b ts
weight_of_joined b ts = omega (arith, weight_plus b (nonzero_terms ts) [], weight_nonzero b ts)
