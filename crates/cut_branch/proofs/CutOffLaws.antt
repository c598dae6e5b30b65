-- Where a row's value is less than what rounding takes off its constant, its cut is false.
use Rattle.std.specs.Prelude.{◌≡◌, ℕ, ◌<◌, ◌%◌, ◌==◌, ℤ, pos, negsuc, ◌+ℤ◌, ◌-ℤ◌, ◌*ℤ◌, neg_ℤ, ◌<ℤ◌, unsigned_abs, List, [], ◌∷◌, Bool, true, false, cond, refl}
use Rattle.std.proofs.Common.{ap, sym, ◌∙◌, subst, arith}
use Rattle.std.proofs.lemmas.Int.{ints}
use Rattle.std.proofs.Math.IntN.{*ℤ_comm}
use Rattle.mm_num.specs.Quotient.{floor_by, floor_quotient}
use Rattle.mm_num.proofs.FracLaws.{floor_exact}
use Rattle.mm_num.proofs.Ring.{dist, dist_r, assoc, neg_mul, mul_zero, product_nonneg, product_positive}
use Rattle.mm_poly.specs.declared.term.Term.{Term}
use Rattle.mm_poly.specs.Mono.{is_constant}
use Rattle.mm_poly.specs.Poly.{linear_value, content, without_constant, constant_part, floor_divided, DividesAll}
use Rattle.mm_poly.proofs.CutLaws.{content_divides}
use Rattle.mm_poly.proofs.LinearLaws.{linear_with, linear_plus, linear_constant}
use Rattle.cert_kit.specs.declared.row.Op.{Op}
use Rattle.cert_kit.specs.declared.row.Op.TheVariants.{Ge, Eq}
use Rattle.cert_kit.specs.declared.row.PRow.{PRow}
use Rattle.cert_kit.specs.Row.{Compares}
use Rattle.cert_kit.specs.Cut.{contradiction, divided, cut_by, cut_of}

abbrev pub Weights : Type 0
Weights = List (ℕ × ℕ) → ℤ

-- ---- the value of a cut

parts_step : (w : Weights) (c : ℤ) (m : List (ℕ × ℕ)) (k s : ℤ) (ts : List Term) → s ≡ linear_value w ts +ℤ k *ℤ w []
    → c *ℤ w m +ℤ s ≡ linear_value w (cond (is_constant m) ts (record { coeff = c; mono = m } ∷ ts)) +ℤ cond (is_constant m) (c +ℤ k) k *ℤ w []
parts_step w c [] k s ts e = let d = dist_r c k (w []) in omega (arith, ints, d, e)
parts_step w c (f ∷ fs) k s ts e = omega (arith, ints, e)

-- the value is that of the terms that aren't constant and the constant
linear_parts : (w : Weights) (ts : List Term) → linear_value w ts ≡ linear_value w (without_constant ts) +ℤ constant_part ts *ℤ w []
linear_parts w [] = omega (arith, ints, *ℤ_comm (pos 0) (w []), mul_zero (w []))
linear_parts w (t ∷ ts) = parts_step w t.coeff t.mono (constant_part ts) (linear_value w ts) (without_constant ts) (linear_parts w ts)

divided_term : (g c m f v s : ℤ) → g *ℤ f ≡ c → s ≡ g *ℤ v → c *ℤ m +ℤ s ≡ g *ℤ (f *ℤ m +ℤ v)
divided_term g c m f v s e h =
    ap (λ z. z *ℤ m +ℤ s) (sym e) ∙ ap (λ z. z +ℤ s) (assoc g f m) ∙ ap (λ z. g *ℤ (f *ℤ m) +ℤ z) h ∙ sym (dist g (f *ℤ m) v)

linear_divided : (w : Weights) (g : ℕ) (ts : List Term) → 0 < g → DividesAll g ts → linear_value w ts ≡ pos g *ℤ linear_value w (floor_divided g ts)
linear_divided w g [] h a = sym (mul_zero (pos g))
linear_divided w g (t ∷ ts) h a =
    divided_term (pos g) t.coeff (w t.mono) (floor_by t.coeff g) (linear_value w (floor_divided g ts)) (linear_value w ts)
    (floor_exact t.coeff g h a.0) (linear_divided w g ts h a.1)
    ∙ ap (λ v. pos g *ℤ v) (sym (linear_with w (floor_by t.coeff g) t.mono (floor_divided g ts)))

cut_value : (w : Weights) (g : ℕ) (p : List Term)
    → linear_value w (divided g p) ≡ linear_value w (floor_divided g (without_constant p)) +ℤ floor_by (constant_part p) g *ℤ w []
cut_value w g p =
    linear_plus w (floor_divided g (without_constant p)) _
    ∙ ap (λ z. linear_value w (floor_divided g (without_constant p)) +ℤ z) (linear_constant w (floor_by (constant_part p) g))

-- the cut's value times g is the row's less what rounding takes off
cut_multiple : (w : Weights) (g : ℕ) (p : List Term) → 0 < g → DividesAll g (without_constant p)
    → pos g *ℤ linear_value w (divided g p) +ℤ (constant_part p -ℤ pos g *ℤ floor_by (constant_part p) g) *ℤ w [] ≡ linear_value w p
cut_multiple w g p h a =
    let k = constant_part p in
    let f = floor_by k g in
    let u = linear_value w (floor_divided g (without_constant p)) in
    let o = w [] in
    by_parts u o k f (linear_value w p) (linear_value w (without_constant p)) (linear_value w (divided g p))
    (cut_value w g p) (linear_parts w p) (linear_divided w g (without_constant p) h a)
  where
    by_parts : (u o k f whole part cut : ℤ) → cut ≡ u +ℤ f *ℤ o → whole ≡ part +ℤ k *ℤ o → part ≡ pos g *ℤ u → pos g *ℤ cut +ℤ (k -ℤ pos g *ℤ f) *ℤ o ≡ whole
    by_parts u o k f whole part cut e i j =
        let a : pos g *ℤ cut ≡ pos g *ℤ u +ℤ pos g *ℤ (f *ℤ o) = ap (λ z. pos g *ℤ z) e ∙ dist (pos g) u (f *ℤ o) in
        let b : (k +ℤ neg_ℤ (pos g *ℤ f)) *ℤ o ≡ k *ℤ o +ℤ neg_ℤ (pos g *ℤ f) *ℤ o = dist_r k (neg_ℤ (pos g *ℤ f)) o in
        let c : neg_ℤ (pos g *ℤ f) *ℤ o ≡ neg_ℤ ((pos g *ℤ f) *ℤ o) = neg_mul (pos g *ℤ f) o in
        let d : (pos g *ℤ f) *ℤ o ≡ pos g *ℤ (f *ℤ o) = assoc (pos g) f o in
        let s : k -ℤ pos g *ℤ f ≡ k +ℤ neg_ℤ (pos g *ℤ f) = omega (arith, ints) in
        let t : (k -ℤ pos g *ℤ f) *ℤ o ≡ (k +ℤ neg_ℤ (pos g *ℤ f)) *ℤ o = ap (λ z. z *ℤ o) s in
        omega (arith, ints, a, b, c, d, t, i, j)

negative_factor : (g : ℕ) (z : ℤ) → (pos g *ℤ z) <ℤ pos 0 → z <ℤ pos 0
negative_factor g (negsuc n) h = omega (arith, ints)
negative_factor g (pos n) h = let p = product_nonneg (pos g) (pos n) (omega (arith, ints)) (omega (arith, ints)) in absurd (omega (arith, ints, p, h))

less_is_false : (o : Op) (z : ℤ) → z <ℤ pos 0 → Compares o z → ⊥
less_is_false Ge z h c = absurd (omega (arith, ints, h, c))
less_is_false Eq z h c = absurd (omega (arith, ints, h, c))

-- ---- the cut is false

below_rest : (w : Weights) (g : ℕ) (p : List Term) → 0 < g → DividesAll g (without_constant p)
    → linear_value w p <ℤ ((constant_part p -ℤ pos g *ℤ floor_by (constant_part p) g) *ℤ w []) → linear_value w (divided g p) <ℤ pos 0
below_rest w g p h a l = let e = cut_multiple w g p h a in negative_factor g (linear_value w (divided g p)) (omega (arith, ints, e, l))

contradiction_value : (w : Weights) → pos 0 <ℤ w [] → linear_value w contradiction.poly <ℤ pos 0
contradiction_value w h =
    let e : linear_value w contradiction.poly ≡ negsuc 0 *ℤ w [] = linear_constant w (negsuc 0) in
    let n : negsuc 0 *ℤ w [] ≡ neg_ℤ (pos 1 *ℤ w []) = neg_mul (pos 1) (w []) in
    let p : pos 0 <ℤ (pos 1 *ℤ w []) = product_positive (pos 1) (w []) (omega (arith, ints)) h in
    omega (arith, ints, e, n, p)

by_content : (w : Weights) (g : ℕ) (o : Op) (p : List Term) → 0 < g → pos 0 <ℤ w [] → DividesAll g (without_constant p)
    → linear_value w p <ℤ ((constant_part p -ℤ pos g *ℤ floor_by (constant_part p) g) *ℤ w []) → Compares (cut_by g o p).op (linear_value w (cut_by g o p).poly) → ⊥
by_content w g Ge p h l a less c = less_is_false Ge (linear_value w (divided g p)) (below_rest w g p h a less) c
by_content w g Eq p h l a less c = by_test (unsigned_abs (constant_part p) % g == 0) c
  where
    by_test : (b : Bool) → Compares (cond b (record { poly = divided g p; op = Eq }) contradiction).op
        (linear_value w (cond b (record { poly = divided g p; op = Eq }) contradiction).poly) → ⊥
    by_test true c = less_is_false Eq (linear_value w (divided g p)) (below_rest w g p h a less) c
    by_test false c = less_is_false Ge (linear_value w contradiction.poly) (contradiction_value w l) c

pub cut_false : (w : Weights) (r : PRow) → 0 < content r.poly → pos 0 <ℤ w []
    → linear_value w r.poly <ℤ ((constant_part r.poly -ℤ pos (content r.poly) *ℤ floor_by (constant_part r.poly) (content r.poly)) *ℤ w [])
    → Compares (cut_of r).op (linear_value w (cut_of r).poly) → ⊥
cut_false w r h l less c = by_test (content r.poly == 0) refl c
  where
    above : (n : ℕ) → 0 < n → (n == 0) ≡ true → ⊥
    above n l k = let e : n ≡ 0 = grind arith in omega arith

    by_test : (b : Bool) → (content r.poly == 0) ≡ b
        → Compares (cond b r (cut_by (content r.poly) r.op r.poly)).op (linear_value w (cond b r (cut_by (content r.poly) r.op r.poly)).poly) → ⊥
    by_test true e c = above (content r.poly) h e
    by_test false e c = by_content w (content r.poly) r.op r.poly h l (content_divides r.poly) less c

-- the same in the words of the test: the rest's multiple is above the row's value
pub false_by : (w : Weights) (r : PRow) (g k rest slack limit : ℤ) → g ≡ pos (content r.poly) → 0 < content r.poly → pos 0 <ℤ w [] → k ≡ constant_part r.poly
    → rest ≡ k -ℤ g *ℤ floor_quotient k g
    → slack ≡ linear_value w r.poly → limit ≡ rest *ℤ w [] → slack <ℤ limit → Compares (cut_of r).op (linear_value w (cut_of r).poly) → ⊥
false_by w r g k rest slack limit a h p b d e f l =
    let q : rest ≡ constant_part r.poly -ℤ pos (content r.poly) *ℤ floor_by (constant_part r.poly) (content r.poly) =
    d ∙ ap (λ z. z -ℤ g *ℤ floor_quotient z g) b ∙ ap (λ z. constant_part r.poly -ℤ z *ℤ floor_quotient (constant_part r.poly) z) a in
    cut_false w r h p (subst (λ z. z <ℤ ((constant_part r.poly -ℤ pos (content r.poly) *ℤ floor_by (constant_part r.poly) (content r.poly)) *ℤ w [])) e
    (subst (λ z. slack <ℤ z) (f ∙ ap (λ z. z *ℤ w []) q) l))
