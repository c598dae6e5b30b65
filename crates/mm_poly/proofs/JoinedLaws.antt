-- Terms in any order, those with the coefficient 0 left out, and the polynomial that they sum to.
use Rattle.std.specs.Prelude.{◌≡◌, ◌≢◌, ℕ, ◌+◌, ◌*◌, ◌^◌, ◌<◌, ◌≤◌, ℤ, pos, ◌≤ℤ◌, unsigned_abs, List, [], ◌∷◌, not, refl}
use Rattle.std.proofs.Common.{to_z, of_z, ap, sym, ◌∙◌, subst, arith}
use Rattle.std.specs.Int.{w128}
use Rattle.std.proofs.lemmas.Int.{ints}
use Rattle.std.specs.Ordering.{int_eq}
use Rattle.std.proofs.lemmas.Bool.Decides.{Decides-int_eq, Decides-not}
use Rattle.mm_num.specs.Quotient.{floor_by}
use Rattle.mm_poly.specs.declared.term.Term.{Term}
use Rattle.mm_poly.specs.Mono.{IsMono, VarsBelow, IsMonomial}
use Rattle.mm_poly.specs.Poly.{norm, spread, IsPoly, EachMono, Fits, with_coeff, plus, scaled, nonzero_terms, joined, without_constant, floor_divided}
use Rattle.mm_poly.specs.Product.{AllNonZero}
use Rattle.mm_poly.proofs.CaseLaws.{by_if}
use Rattle.mm_poly.proofs.BoundLaws.{norm_plus, norm_scaled, spread_plus, spread_scaled, degree_plus, degree_scaled}
use Rattle.mm_poly.proofs.EachLaws.{each_plus, each_scaled, each_divided, all_mono, all_room, all_low}
use Rattle.mm_poly.proofs.PolyLaws.{poly_plus, poly_scaled}
use Rattle.mm_poly.proofs.SumLaws.{with_nonzero}
use Rattle.mm_poly.proofs.ProductLaws.{poly_joined}
use Rattle.mm_poly.proofs.CutBoundLaws.{poly_divided, norm_divided, spread_divided, degree_divided, norm_parts}
use Rattle.mm_num.proofs.QuotientLaws.{by_one}

-- a term stays or goes
pub by_nonzero : (t : Term) (ts : List Term) (P : List Term → Type 0) → (t.coeff ≢ pos 0 → P (t ∷ nonzero_terms ts)) → P (nonzero_terms ts) → P (nonzero_terms (t ∷ ts))
by_nonzero t ts P n z = by_if (not (int_eq t.coeff (pos 0))) (t ∷ nonzero_terms ts) (nonzero_terms ts) P
    (λ e. n ((Decides-not (int_eq t.coeff (pos 0)) (Decides-int_eq t.coeff (pos 0))).0 e)) (λ e. z)

pub nonzero_are : (ts : List Term) → AllNonZero (nonzero_terms ts)
nonzero_are [] = tt
nonzero_are (t ∷ ts) = by_nonzero t ts (λ r. AllNonZero r) (λ n. (n, nonzero_are ts)) (nonzero_are ts)

pub norm_nonzero : (ts : List Term) → norm (nonzero_terms ts) ≤ norm ts
norm_nonzero [] = omega arith
norm_nonzero (t ∷ ts) = by_nonzero t ts (λ r. norm r ≤ norm (t ∷ ts)) (λ n. omega (arith, norm_nonzero ts)) (omega (arith, norm_nonzero ts))

pub spread_nonzero : (ts : List Term) → spread (nonzero_terms ts) ≤ spread ts
spread_nonzero [] = omega arith
spread_nonzero (t ∷ ts) = by_nonzero t ts (λ r. spread r ≤ spread (t ∷ ts)) (λ n. omega (arith, spread_nonzero ts)) (omega (arith, spread_nonzero ts))

pub each_nonzero : (P : List (ℕ × ℕ) → Type 0) (ts : List Term) → EachMono P ts → EachMono P (nonzero_terms ts)
each_nonzero P [] a = tt
each_nonzero P (t ∷ ts) a = by_nonzero t ts (λ r. EachMono P r) (λ n. (a.0, each_nonzero P ts a.1)) (each_nonzero P ts a.1)

pub fits_joined : (ts : List Term) → EachMono IsMonomial ts → norm ts < 2 ^ 126 → spread ts ≤ 65536 → Fits (joined ts)
fits_joined ts a n s =
    let each = each_plus IsMonomial (nonzero_terms ts) [] (each_nonzero IsMonomial ts a) tt in
    record {
      order = poly_joined (nonzero_terms ts) (nonzero_are ts);
      monos = all_mono (joined ts) each;
      room = all_room (joined ts) each;
      norm = omega (arith, norm_plus (nonzero_terms ts) [], norm_nonzero ts);
      spread = omega (arith, spread_plus (nonzero_terms ts) [], spread_nonzero ts);
      degree = all_low (joined ts) each;
    }

-- ---- combinations and quotients

pub fits_combination : (a b : ℤ) (p q : List Term) → Fits p → Fits q → norm p * unsigned_abs a + norm q * unsigned_abs b < 2 ^ 126 → spread p + spread q ≤ 65536
    → Fits (plus (scaled a p) (scaled b q))
fits_combination a b p q f g n s = record {
  order = poly_plus (scaled a p) (scaled b q) (poly_scaled a p f.order) (poly_scaled b q g.order);
  monos = each_plus IsMono (scaled a p) (scaled b q) (each_scaled IsMono a p f.monos) (each_scaled IsMono b q g.monos);
  room = each_plus (VarsBelow (2 ^ 32)) (scaled a p) (scaled b q) (each_scaled (VarsBelow (2 ^ 32)) a p f.room) (each_scaled (VarsBelow (2 ^ 32)) b q g.room);
  norm = omega (arith, norm_plus (scaled a p) (scaled b q), norm_scaled a p, norm_scaled b q, n);
  spread = omega (arith, spread_plus (scaled a p) (scaled b q), spread_scaled a p, spread_scaled b q, s);
  degree = omega (arith, degree_plus (scaled a p) (scaled b q), degree_scaled a p, degree_scaled b q, f.degree, g.degree);
}

pub fits_divided : (g : ℕ) (p : List Term) → 0 < g → Fits p → Fits (floor_divided g p)
fits_divided g p h f = record {
  order = poly_divided g p f.order;
  monos = each_divided IsMono g p f.monos;
  room = each_divided (VarsBelow (2 ^ 32)) g p f.room;
  norm = omega (arith, norm_divided g p h, f.norm);
  spread = omega (arith, spread_divided g p, f.spread);
  degree = omega (arith, degree_divided g p, f.degree);
}

pub small_without : (p r : List Term) → r ≡ without_constant p → norm p < 2 ^ 126 → norm r < 2 ^ 126
small_without p r e n = subst (λ ts. norm ts < 2 ^ 126) (sym e) (omega (arith, norm_parts p))

pub positive : (d : ℤ) → pos 1 ≤ℤ d → 0 < unsigned_abs d
positive d h = omega (arith, ints)

pub small_as : (a b c d e f g h : ℕ) → a ≡ e → b ≡ f → c ≡ g → d ≡ h → a * b + c * d < 2 ^ 126 → e * f + g * h < 2 ^ 126
small_as a b c d e f g h i j k l s = subst (λ n. e * f + g * n < 2 ^ 126) l (subst (λ n. e * f + n * d < 2 ^ 126) k (subst (λ n. e * n + c * d < 2 ^ 126) j (subst (λ n. n * b + c * d < 2 ^ 126) i s)))

pub divided_by_one : (p : List Term) → IsPoly p → floor_divided 1 p ≡ p
divided_by_one [] a = refl
divided_by_one (t ∷ ts) a =
    ap (λ (us : List Term). with_coeff (floor_by t.coeff 1) t.mono us) (divided_by_one ts a.2)
    ∙ ap (λ c. with_coeff c t.mono ts) (by_one t.coeff)
    ∙ with_nonzero t.coeff t.mono ts a.0

pub quotients_by_one : (d : ℤ) (ts : List Term) → unsigned_abs d < 2 ^ 126 → of_z w128 d ≡ 1 → IsPoly ts → ts ≡ floor_divided (unsigned_abs d) ts
quotients_by_one d ts f e a =
    let same : to_z w128 (of_z w128 d) ≡ d = omega (arith, ints, f) in
    let number : to_z w128 1 ≡ pos 1 = omega (arith, ints) in
    let one : d ≡ pos 1 = sym same ∙ ap (λ n. to_z w128 n) e ∙ number in
    sym (divided_by_one ts a) ∙ ap (λ z. floor_divided (unsigned_abs z) ts) (sym one)
