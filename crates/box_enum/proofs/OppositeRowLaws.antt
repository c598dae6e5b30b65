-- The cut of an equality, and those of the inequalities that it and its opposite are.
use Rattle.std.specs.Prelude.{◌≡◌, ℕ, zero, suc, ◌+◌, ◌*◌, ◌^◌, ◌%◌, ◌<◌, ◌≤◌, ◌==◌, ◌⊎◌, ℤ, pos, negsuc, neg_ℤ, ◌+ℤ◌, ◌*ℤ◌, unsigned_abs, List, [], ◌∷◌, Bool, true, false, cond, refl}
use Rattle.std.proofs.Common.{inl, inr, ap, sym, ◌∙◌, subst, arith}
use Rattle.std.proofs.lemmas.Int.{ints}
use Rattle.std.proofs.lemmas.Nat.Gcd.{dvd_of_mod-eq-zero}
use Rattle.std.specs.Int.{◌∣◌}
use Rattle.std.specs.declared.cmp.Ordering.TheVariants.{Less}
use Rattle.mm_num.specs.Quotient.{floor_by}
use Rattle.mm_num.specs.Divisor.{gcd_of}
use Rattle.mm_num.proofs.FracLaws.{floor_exact}
use Rattle.mm_num.proofs.Ring.{dist, swap, minus_one, mul_neg, zero_factor}
use Rattle.mm_poly.specs.declared.term.Term.{Term}
use Rattle.mm_poly.specs.Mono.{mono_cmp}
use Rattle.mm_poly.specs.Poly.{norm, IsPoly, AllAfter, Fits, DividesAll, with_coeff, scaled, content, constant_part, without_constant, floor_divided}
use Rattle.mm_poly.proofs.CaseLaws.{by_coeff}
use Rattle.mm_poly.proofs.OrderLaws.{mono_not_self}
use Rattle.mm_poly.proofs.SumLaws.{with_nonzero}
use Rattle.mm_poly.proofs.PolyLaws.{poly_scaled, product_nonzero, fits_scaled}
use Rattle.mm_poly.proofs.CutLaws.{content_divides}
use Rattle.mm_poly.proofs.CutBoundLaws.{zero_divided}
use Rattle.cert_kit.specs.declared.row.Op.TheVariants.{Ge, Eq}
use Rattle.cert_kit.specs.declared.row.PRow.{PRow}
use Rattle.cert_kit.specs.Meaning.{at_least_0, equal_to_0}
use Rattle.cert_kit.specs.Cut.{contradiction, cut_of}
use Rattle.cert_kit.proofs.CutSameLaws.{cut_itself, inequality_cut, equality_cut, no_cut}
use Rattle.box_enum.proofs.ReadingLaws.{constant_out}

-- ---- a polynomial times -1

opposite_term : (c : ℤ) (m : List (ℕ × ℕ)) (ts : List Term) → (c ≡ pos 0 → ⊥)
    → scaled (negsuc 0) (record { coeff = c; mono = m } ∷ ts) ≡ record { coeff = negsuc 0 *ℤ c; mono = m } ∷ scaled (negsuc 0) ts
opposite_term c m ts n = with_nonzero (negsuc 0 *ℤ c) m (scaled (negsuc 0) ts) (product_nonzero (negsuc 0) c (λ e. absurd cc) n)

opposite_abs : (c : ℤ) → unsigned_abs (negsuc 0 *ℤ c) ≡ unsigned_abs c
opposite_abs c = ap unsigned_abs (minus_one c) ∙ same c
  where
    same : (z : ℤ) → unsigned_abs (neg_ℤ z) ≡ unsigned_abs z
    same z = omega (arith, ints)

unknowns_step : (c : ℤ) (m : List (ℕ × ℕ)) (ts : List Term) → (c ≡ pos 0 → ⊥) → without_constant (scaled (negsuc 0) ts) ≡ scaled (negsuc 0) (without_constant ts)
    → without_constant (scaled (negsuc 0) (record { coeff = c; mono = m } ∷ ts)) ≡ scaled (negsuc 0) (without_constant (record { coeff = c; mono = m } ∷ ts))
unknowns_step c [] ts n e = ap without_constant (opposite_term c [] ts n) ∙ e
unknowns_step c (f ∷ fs) ts n e =
    ap without_constant (opposite_term c (f ∷ fs) ts n)
    ∙ ap (λ (us : List Term). record { coeff = negsuc 0 *ℤ c; mono = f ∷ fs } ∷ us) e
    ∙ sym (opposite_term c (f ∷ fs) (without_constant ts) n)

opposite_unknowns : (p : List Term) → IsPoly p → without_constant (scaled (negsuc 0) p) ≡ scaled (negsuc 0) (without_constant p)
opposite_unknowns [] a = refl
opposite_unknowns (t ∷ ts) a = unknowns_step t.coeff t.mono ts a.0 (opposite_unknowns ts a.2)

negative_sum : (c a b : ℤ) → a ≡ neg_ℤ b → negsuc 0 *ℤ c +ℤ a ≡ neg_ℤ (c +ℤ b)
negative_sum c a b e = omega (arith, ints, minus_one c, e)

constant_step : (c : ℤ) (m : List (ℕ × ℕ)) (ts : List Term) → (c ≡ pos 0 → ⊥) → constant_part (scaled (negsuc 0) ts) ≡ neg_ℤ (constant_part ts)
    → constant_part (scaled (negsuc 0) (record { coeff = c; mono = m } ∷ ts)) ≡ neg_ℤ (constant_part (record { coeff = c; mono = m } ∷ ts))
constant_step c [] ts n e = ap constant_part (opposite_term c [] ts n) ∙ negative_sum c (constant_part (scaled (negsuc 0) ts)) (constant_part ts) e
constant_step c (f ∷ fs) ts n e = ap constant_part (opposite_term c (f ∷ fs) ts n) ∙ e

opposite_constant : (p : List Term) → IsPoly p → constant_part (scaled (negsuc 0) p) ≡ neg_ℤ (constant_part p)
opposite_constant [] a = refl
opposite_constant (t ∷ ts) a = constant_step t.coeff t.mono ts a.0 (opposite_constant ts a.2)

content_step : (c : ℤ) (m : List (ℕ × ℕ)) (ts : List Term) → (c ≡ pos 0 → ⊥) → content (scaled (negsuc 0) ts) ≡ content ts
    → content (scaled (negsuc 0) (record { coeff = c; mono = m } ∷ ts)) ≡ content (record { coeff = c; mono = m } ∷ ts)
content_step c [] ts n e = ap content (opposite_term c [] ts n) ∙ e
content_step c (f ∷ fs) ts n e =
    ap content (opposite_term c (f ∷ fs) ts n) ∙ ap (λ k. gcd_of k (content (scaled (negsuc 0) ts))) (opposite_abs c) ∙ ap (λ k. gcd_of (unsigned_abs c) k) e

opposite_content : (p : List Term) → IsPoly p → content (scaled (negsuc 0) p) ≡ content p
opposite_content [] a = refl
opposite_content (t ∷ ts) a = content_step t.coeff t.mono ts a.0 (opposite_content ts a.2)

-- ---- its quotients

no_difference : (a b : ℤ) → a ≡ b → a +ℤ neg_ℤ b ≡ pos 0
no_difference a b e = omega (arith, ints, e)

cancel : (g : ℕ) (a b : ℤ) → 0 < g → pos g *ℤ a ≡ pos g *ℤ b → a ≡ b
cancel g a b h e =
    let z : a +ℤ neg_ℤ b ≡ pos 0 = zero_factor g (a +ℤ neg_ℤ b) h
    (dist (pos g) a (neg_ℤ b) ∙ ap (λ n. pos g *ℤ a +ℤ n) (mul_neg (pos g) b) ∙ no_difference (pos g *ℤ a) (pos g *ℤ b) e) in
    omega (arith, ints, z)

opposite_quotient : (g : ℕ) (c : ℤ) → 0 < g → g ∣ unsigned_abs c → floor_by (negsuc 0 *ℤ c) g ≡ negsuc 0 *ℤ floor_by c g
opposite_quotient g c h d =
    cancel g (floor_by (negsuc 0 *ℤ c) g) (negsuc 0 *ℤ floor_by c g) h
    (floor_exact (negsuc 0 *ℤ c) g h (subst (λ n. g ∣ n) (sym (opposite_abs c)) d)
    ∙ ap (λ z. negsuc 0 *ℤ z) (sym (floor_exact c g h d))
    ∙ sym (swap (pos g) (negsuc 0) (floor_by c g)))

quotient_nonzero : (g : ℕ) (c : ℤ) → 0 < g → g ∣ unsigned_abs c → (c ≡ pos 0 → ⊥) → floor_by c g ≡ pos 0 → ⊥
quotient_nonzero g c h d n e = n (sym (floor_exact c g h d) ∙ ap (λ z. pos g *ℤ z) e ∙ nothing g)
  where
    nothing : (k : ℕ) → pos k *ℤ pos 0 ≡ pos 0
    nothing k = omega (arith, ints)

divided_step : (g : ℕ) (c : ℤ) (m : List (ℕ × ℕ)) (ts : List Term) → 0 < g → (c ≡ pos 0 → ⊥)
    → (DividesAll g (without_constant ts) → without_constant (floor_divided g (scaled (negsuc 0) ts)) ≡ scaled (negsuc 0) (without_constant (floor_divided g ts)))
    → DividesAll g (without_constant (record { coeff = c; mono = m } ∷ ts))
    → without_constant (floor_divided g (scaled (negsuc 0) (record { coeff = c; mono = m } ∷ ts))) ≡ scaled (negsuc 0) (without_constant (floor_divided g (record { coeff = c; mono = m } ∷ ts)))
divided_step g c [] ts h n rest d =
    ap (λ (us : List Term). without_constant (floor_divided g us)) (opposite_term c [] ts n)
    ∙ constant_out (floor_by (negsuc 0 *ℤ c) g) (floor_divided g (scaled (negsuc 0) ts))
    ∙ rest d
    ∙ ap (λ (us : List Term). scaled (negsuc 0) us) (sym (constant_out (floor_by c g) (floor_divided g ts)))
divided_step g c (f ∷ fs) ts h n rest d =
    let z : floor_by c g ≡ pos 0 → ⊥ = quotient_nonzero g c h d.0 n in
    let y : floor_by (negsuc 0 *ℤ c) g ≡ pos 0 → ⊥ = λ e. product_nonzero (negsuc 0) (floor_by c g) (λ k. absurd cc) z (sym (opposite_quotient g c h d.0) ∙ e) in
    let left : List Term = floor_divided g (scaled (negsuc 0) ts) in
    let right : List Term = floor_divided g ts in
    ap (λ (us : List Term). without_constant (floor_divided g us)) (opposite_term c (f ∷ fs) ts n)
    ∙ ap without_constant (with_nonzero (floor_by (negsuc 0 *ℤ c) g) (f ∷ fs) left y)
    ∙ ap (λ (us : List Term). record { coeff = floor_by (negsuc 0 *ℤ c) g; mono = f ∷ fs } ∷ us) (rest d.1)
    ∙ ap (λ (k : ℤ). let u : Term = record { coeff = k; mono = f ∷ fs } in u ∷ scaled (negsuc 0) (without_constant right)) (opposite_quotient g c h d.0)
    ∙ sym (opposite_term (floor_by c g) (f ∷ fs) (without_constant right) z)
    ∙ ap (λ (us : List Term). scaled (negsuc 0) (without_constant us)) (sym (with_nonzero (floor_by c g) (f ∷ fs) right z))

opposite_divided : (g : ℕ) (p : List Term) → 0 < g → IsPoly p → DividesAll g (without_constant p)
    → without_constant (floor_divided g (scaled (negsuc 0) p)) ≡ scaled (negsuc 0) (without_constant (floor_divided g p))
opposite_divided g [] h a d = refl
opposite_divided g (t ∷ ts) h a d = divided_step g t.coeff t.mono ts h a.0 (opposite_divided g ts h a.2) d

-- no constant comes after the constant monomial
no_constant : (ts : List Term) → AllAfter [] ts → constant_part ts ≡ pos 0
no_constant [] a = refl
no_constant (t ∷ ts) a = by_mono t.coeff t.mono ts a.0 (no_constant ts a.1)
  where
    by_mono : (c : ℤ) (m : List (ℕ × ℕ)) (us : List Term) → mono_cmp [] m ≡ Less → constant_part us ≡ pos 0 → constant_part (record { coeff = c; mono = m } ∷ us) ≡ pos 0
    by_mono c [] us l e = absurd (mono_not_self [] l)
    by_mono c (f ∷ fs) us l e = e

constant_more : (k : ℤ) (us : List Term) → constant_part (with_coeff k [] us) ≡ k +ℤ constant_part us
constant_more k us = by_coeff k [] us (λ r. constant_part r ≡ k +ℤ constant_part us) (λ e. omega (arith, ints, e)) (λ n. refl)

constant_same : (k : ℤ) (f : ℕ × ℕ) (fs : List (ℕ × ℕ)) (us : List Term) → constant_part (with_coeff k (f ∷ fs) us) ≡ constant_part us
constant_same k f fs us = by_coeff k (f ∷ fs) us (λ r. constant_part r ≡ constant_part us) (λ e. refl) (λ n. refl)

plus_zero : (c k : ℤ) → k ≡ pos 0 → c +ℤ k ≡ c
plus_zero c k e = omega (arith, ints, e)

constant_divided_step : (g : ℕ) (c : ℤ) (m : List (ℕ × ℕ)) (ts : List Term) → 0 < g → AllAfter m ts → constant_part (floor_divided g ts) ≡ floor_by (constant_part ts) g
    → constant_part (floor_divided g (record { coeff = c; mono = m } ∷ ts)) ≡ floor_by (constant_part (record { coeff = c; mono = m } ∷ ts)) g
constant_divided_step g c [] ts h a e =
    let z : constant_part ts ≡ pos 0 = no_constant ts a in
    let y : constant_part (floor_divided g ts) ≡ pos 0 = e ∙ ap (λ k. floor_by k g) z ∙ ap (λ n. pos n) (zero_divided g h) in
    constant_more (floor_by c g) (floor_divided g ts) ∙ plus_zero (floor_by c g) (constant_part (floor_divided g ts)) y
    ∙ ap (λ k. floor_by k g) (sym (plus_zero c (constant_part ts) z))
constant_divided_step g c (f ∷ fs) ts h a e = constant_same (floor_by c g) f fs (floor_divided g ts) ∙ e

constant_divided : (g : ℕ) (p : List Term) → 0 < g → IsPoly p → constant_part (floor_divided g p) ≡ floor_by (constant_part p) g
constant_divided g [] h a = ap (λ n. pos n) (sym (zero_divided g h))
constant_divided g (t ∷ ts) h a = constant_divided_step g t.coeff t.mono ts h a.1 (constant_divided g ts h a.2)

-- ---- opposite polynomials

pub record IsOpposite (p q : List Term) : Type 0 where
  pub unknowns : without_constant q ≡ scaled (negsuc 0) (without_constant p)
  pub constant : constant_part q ≡ neg_ℤ (constant_part p)

opposite_itself : (p : List Term) → IsPoly p → IsOpposite p (scaled (negsuc 0) p)
opposite_itself p a = record { unknowns = opposite_unknowns p a; constant = opposite_constant p a }

opposite_divided_by : (g : ℕ) (p : List Term) → 0 < g → IsPoly p → DividesAll g (without_constant p) → g ∣ unsigned_abs (constant_part p)
    → IsOpposite (floor_divided g p) (floor_divided g (scaled (negsuc 0) p))
opposite_divided_by g p h a d k = record {
  unknowns = opposite_divided g p h a d;
  constant = constant_divided g (scaled (negsuc 0) p) h (poly_scaled (negsuc 0) p a)
      ∙ ap (λ z. floor_by z g) (opposite_constant p a ∙ sym (minus_one (constant_part p)))
      ∙ opposite_quotient g (constant_part p) h k
      ∙ minus_one (floor_by (constant_part p) g)
      ∙ ap neg_ℤ (sym (constant_divided g p h a));
}

pub opposite_fits : (p : List Term) → Fits p → Fits (scaled (negsuc 0) p)
opposite_fits p f = let n : norm p * 1 < 2 ^ 126 = omega (arith, f.norm) in fits_scaled (negsuc 0) p f n

-- ---- the cut of an equality

-- what is left of an inequality's polynomial in its cut
abbrev pub least_cut : List Term → List Term
least_cut p = (cut_of (at_least_0 p)).poly

-- the cut is that of the inequality, as an equality, and that of the opposite inequality is opposite
pub record CutsBoth (p : List Term) : Type 0 where
  pub same : cut_of (equal_to_0 p) ≡ equal_to_0 (least_cut p)
  pub opposite : IsOpposite (least_cut p) (least_cut (scaled (negsuc 0) p))

both_from : (p q o : List Term) → cut_of (equal_to_0 p) ≡ equal_to_0 q → least_cut p ≡ q → least_cut (scaled (negsuc 0) p) ≡ o → IsOpposite q o → CutsBoth p
both_from p q o e f g i = record {
  same = e ∙ ap equal_to_0 (sym f);
  opposite = subst (λ (a : List Term). IsOpposite a (least_cut (scaled (negsuc 0) p))) (sym f) (subst (λ (b : List Term). IsOpposite q b) (sym g) i);
}

by_zero : (p : List Term) → Fits p → content p ≤ 1 → CutsBoth p
by_zero p f h =
    let k : content (scaled (negsuc 0) p) ≤ 1 = omega (arith, h, opposite_content p f.order) in
    both_from p p (scaled (negsuc 0) p) (cut_itself (equal_to_0 p) f h) (ap (λ (r : PRow). r.poly) (cut_itself (at_least_0 p) f h))
    (ap (λ (r : PRow). r.poly) (cut_itself (at_least_0 (scaled (negsuc 0) p)) (opposite_fits p f) k)) (opposite_itself p f.order)

mod_is : (n : ℕ) → (n == 0) ≡ true → n ≡ 0
mod_is n h = grind arith

by_content : (p : List Term) → Fits p → 0 < content p → (cut_of (equal_to_0 p) ≡ contradiction) ⊎ CutsBoth p
by_content p f h = by_test (unsigned_abs (constant_part p) % content p == 0) refl
  where
    by_test : (b : Bool) → (unsigned_abs (constant_part p) % content p == 0) ≡ b → (cut_of (equal_to_0 p) ≡ contradiction) ⊎ CutsBoth p
    by_test false e = inl (no_cut (equal_to_0 p) h refl e)
    by_test true e =
        let o : List Term = scaled (negsuc 0) p in
        let c : content o ≡ content p = opposite_content p f.order in
        let k : 0 < content o = omega (arith, h, c) in
        inr (both_from p (floor_divided (content p) p) (floor_divided (content p) o) (equality_cut (equal_to_0 p) f h refl e)
        (ap (λ (r : PRow). r.poly) (inequality_cut (at_least_0 p) f h refl))
        (ap (λ (r : PRow). r.poly) (inequality_cut (at_least_0 o) (opposite_fits p f) k refl) ∙ ap (λ g. floor_divided g o) c)
        (opposite_divided_by (content p) p h f.order (content_divides p) (dvd_of_mod-eq-zero (content p) (mod_is _ e))))

pub equality_cuts : (p : List Term) → Fits p → (cut_of (equal_to_0 p) ≡ contradiction) ⊎ CutsBoth p
equality_cuts p f = by_size (content p) refl
  where
    by_size : (g : ℕ) → content p ≡ g → (cut_of (equal_to_0 p) ≡ contradiction) ⊎ CutsBoth p
    by_size zero e = inr (by_zero p f (omega (arith, e)))
    by_size (suc g) e = by_content p f (omega (arith, e))
