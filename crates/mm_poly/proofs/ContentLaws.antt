-- The content is the greatest number that divides each coefficient that isn't constant.
use Rattle.std.specs.Prelude.{◌≡◌, ℕ, zero, suc, ◌^◌, ◌<◌, ◌≤◌, ℤ, unsigned_abs, List, [], ◌∷◌, length, drop, cond}
use Rattle.std.proofs.Common.{get_or, ap, subst, to_z, of_z, arith}
use Rattle.std.proofs.Math.Nat.{eq-one_of_dvd-one}
use Rattle.std.proofs.lemmas.Int.{ints}
use Rattle.std.specs.Int.{w128}
use Rattle.std.specs.Int.{◌∣◌}
use Rattle.std.proofs.lemmas.Nat.Gcd.{dvd-zero}
use Rattle.mm_num.specs.Divisor.{gcd_of}
use Rattle.mm_num.proofs.DivisorLaws.{gcd_divides}
use Rattle.mm_poly.specs.declared.term.Term.{Term}
use Rattle.mm_poly.specs.Mono.{is_constant}
use Rattle.mm_poly.specs.Poly.{norm, without_constant, content, DividesAll, IsContent}
use Rattle.mm_poly.proofs.CutLaws.{content_divides}

greatest_step : (c : ℤ) (m : List (ℕ × ℕ)) (g d : ℕ) (ts : List Term) → (DividesAll d ts → d ∣ g)
    → DividesAll d (cond (is_constant m) ts (record { coeff = c; mono = m } ∷ ts)) → d ∣ cond (is_constant m) g (gcd_of (unsigned_abs c) g)
greatest_step c [] g d ts h a = h a
greatest_step c (f ∷ fs) g d ts h a = let both = gcd_divides (unsigned_abs c) g in both.2 d a.0 (h a.1)

divides_content : (ts : List Term) (d : ℕ) → DividesAll d (without_constant ts) → d ∣ content ts
divides_content [] d a = dvd-zero d
divides_content (t ∷ ts) d a = greatest_step t.coeff t.mono (content ts) d (without_constant ts) (divides_content ts d) a

pub is_content : (ts : List Term) → IsContent ts (content ts)
is_content ts = record { divides = content_divides ts; greatest = divides_content ts }

pub coeff_within : (ts : List Term) (n : ℕ) (t : Term) → n < length ts → t ≡ get_or ts n t → unsigned_abs t.coeff ≤ norm ts
coeff_within [] n t h is = absurd (omega arith)
coeff_within (u ∷ us) zero t h is = let e : unsigned_abs t.coeff ≡ unsigned_abs u.coeff = ap (λ (r : Term). unsigned_abs r.coeff) is in omega arith
coeff_within (u ∷ us) (suc n) t h is = omega (arith, coeff_within us n t (omega arith) is)

pub coeff_small : (ts : List Term) (n : ℕ) (t : Term) → n < length ts → t ≡ get_or ts n t → norm ts < 2 ^ 126
    → unsigned_abs (to_z w128 (of_z w128 t.coeff)) < 2 ^ 126
coeff_small ts n t h is s =
    let low : unsigned_abs t.coeff < 2 ^ 126 = omega (arith, coeff_within ts n t h is) in
    let same : to_z w128 (of_z w128 t.coeff) ≡ t.coeff = omega (arith, ints) in
    rw same low

-- where the content of some of the last terms is 1, it is that of all
gcd_one : (c : ℤ) (g : ℕ) → g ≡ 1 → gcd_of (unsigned_abs c) g ≡ 1
gcd_one c g e = let d = gcd_divides (unsigned_abs c) g in eq-one_of_dvd-one (subst (λ n. gcd_of (unsigned_abs c) g ∣ n) e d.1)

pub content_one : (ts : List Term) (n : ℕ) → content (drop n ts) ≡ 1 → content ts ≡ 1
content_one ts zero e = e
content_one [] (suc n) e = e
content_one (t ∷ ts) (suc n) e = step t.mono (content ts) (content_one ts n e)
  where
    step : (m : List (ℕ × ℕ)) (g : ℕ) → g ≡ 1 → cond (is_constant m) g (gcd_of (unsigned_abs t.coeff) g) ≡ 1
    step [] g h = h
    step (f ∷ fs) g h = gcd_one t.coeff g h
