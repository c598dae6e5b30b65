-- A row holds where its cut does, also where each monomial counts for itself.
use Rattle.std.specs.Prelude.{◌≡◌, ℕ, ◌%◌, ◌<◌, ◌==◌, ℤ, pos, negsuc, ◌+ℤ◌, ◌*ℤ◌, ◌≤ℤ◌, List, [], ◌∷◌, Bool, true, false, cond, unsigned_abs, refl}
use Rattle.std.proofs.Common.{ap, sym, ◌∙◌, subst, arith}
use Rattle.std.proofs.lemmas.Int.{ints}
use Rattle.std.proofs.lemmas.Nat.Gcd.{dvd_of_mod-eq-zero}
use Rattle.mm_num.specs.Quotient.{floor_by}
use Rattle.mm_num.proofs.QuotientLaws.{floor_below}
use Rattle.mm_num.proofs.FracLaws.{floor_exact}
use Rattle.mm_num.proofs.Ring.{dist, assoc, product_nonneg, mul_zero}
use Rattle.mm_poly.proofs.ValueLaws.{one_mul, sum_assoc, sum_swap}
use Rattle.mm_poly.proofs.LinearLaws.{linear_with, linear_plus, linear_constant}
use Rattle.mm_poly.proofs.CutLaws.{content_divides}
use Rattle.std.proofs.Math.IntN.{*ℤ_comm}
use Rattle.mm_poly.specs.declared.term.Term.{Term}
use Rattle.mm_poly.specs.Mono.{is_constant}
use Rattle.mm_poly.specs.Poly.{linear_value, content, without_constant, constant_part, floor_divided, DividesAll}
use Rattle.cert_kit.specs.declared.row.Op.{Op}
use Rattle.cert_kit.specs.declared.row.Op.TheVariants.{Ge, Eq}
use Rattle.cert_kit.specs.declared.row.PRow.{PRow}
use Rattle.cert_kit.specs.Row.{Compares}
use Rattle.cert_kit.specs.Cut.{contradiction, divided, cut_by, cut_of}
use Rattle.cert_kit.proofs.CutLaws.{above_0}
use Rattle.fm_elim.specs.Points.{Values, HoldsBy}

constant_step : (c o v k w : ℤ) → o ≡ pos 1 → w ≡ v +ℤ k → c *ℤ o +ℤ w ≡ v +ℤ (c +ℤ k)
constant_step c o v k w p e = ap (λ z. c *ℤ z +ℤ w) p ∙ ap (λ z. z +ℤ w) (*ℤ_comm c (pos 1) ∙ one_mul c) ∙ ap (λ z. c +ℤ z) e ∙ sum_swap c v k

parts_step : (w : Values) (c : ℤ) (m : List (ℕ × ℕ)) (v k s : ℤ) (ts : List Term) → w [] ≡ pos 1 → linear_value w ts ≡ v → s ≡ v +ℤ k
    → c *ℤ w m +ℤ s ≡ linear_value w (cond (is_constant m) ts (record { coeff = c; mono = m } ∷ ts)) +ℤ cond (is_constant m) (c +ℤ k) k
parts_step w c [] v k s ts o p e = constant_step c (w []) v k s o e ∙ ap (λ z. z +ℤ (c +ℤ k)) (sym p)
parts_step w c (f ∷ fs) v k s ts o p e =
    ap (λ z. c *ℤ w (f ∷ fs) +ℤ z) e
    ∙ sum_assoc (c *ℤ w (f ∷ fs)) v k
    ∙ ap (λ z. c *ℤ w (f ∷ fs) +ℤ z +ℤ k) (sym p)

-- the value is that of the terms that aren't constant and the constant
pub linear_parts : (w : Values) (ts : List Term) → w [] ≡ pos 1 → linear_value w ts ≡ linear_value w (without_constant ts) +ℤ constant_part ts
linear_parts w [] o = refl
linear_parts w (t ∷ ts) o =
    parts_step w t.coeff t.mono (linear_value w (without_constant ts)) (constant_part ts) (linear_value w ts) (without_constant ts) o refl (linear_parts w ts o)

divided_term : (g c m f v w : ℤ) → g *ℤ f ≡ c → w ≡ g *ℤ v → c *ℤ m +ℤ w ≡ g *ℤ (f *ℤ m +ℤ v)
divided_term g c m f v w e h =
    ap (λ z. z *ℤ m +ℤ w) (sym e) ∙ ap (λ z. z +ℤ w) (assoc g f m) ∙ ap (λ z. g *ℤ (f *ℤ m) +ℤ z) h ∙ sym (dist g (f *ℤ m) v)

linear_divided : (w : Values) (g : ℕ) (ts : List Term) → 0 < g → DividesAll g ts → linear_value w ts ≡ pos g *ℤ linear_value w (floor_divided g ts)
linear_divided w g [] h a = sym (mul_zero (pos g))
linear_divided w g (t ∷ ts) h a =
    divided_term (pos g) t.coeff (w t.mono) (floor_by t.coeff g) (linear_value w (floor_divided g ts)) (linear_value w ts)
    (floor_exact t.coeff g h a.0) (linear_divided w g ts h a.1)
    ∙ ap (λ v. pos g *ℤ v) (sym (linear_with w (floor_by t.coeff g) t.mono (floor_divided g ts)))

linear_whole : (w : Values) (g : ℕ) (p : List Term) → w [] ≡ pos 1 → 0 < g → DividesAll g (without_constant p)
    → linear_value w p ≡ pos g *ℤ linear_value w (floor_divided g (without_constant p)) +ℤ constant_part p
linear_whole w g p o h a = linear_parts w p o ∙ ap (λ v. v +ℤ constant_part p) (linear_divided w g (without_constant p) h a)

constant_is : (c o : ℤ) → o ≡ pos 1 → c *ℤ o ≡ c
constant_is c o e = ap (λ z. c *ℤ z) e ∙ *ℤ_comm c (pos 1) ∙ one_mul c

linear_cut : (w : Values) (g : ℕ) (p : List Term) → w [] ≡ pos 1 → linear_value w (divided g p)
    ≡ linear_value w (floor_divided g (without_constant p)) +ℤ floor_by (constant_part p) g
linear_cut w g p o =
    let k = floor_by (constant_part p) g in
    linear_plus w (floor_divided g (without_constant p)) _
    ∙ ap (λ v. linear_value w (floor_divided g (without_constant p)) +ℤ v) (linear_constant w k ∙ constant_is k (w []) o)

mod_is : (n : ℕ) → (n == 0) ≡ true → n ≡ 0
mod_is n h = grind arith

least_back : (g : ℕ) (q k f : ℤ) → pos 0 ≤ℤ (pos g *ℤ (q +ℤ f)) → (pos g *ℤ f) ≤ℤ k → pos g *ℤ (q +ℤ f) ≡ pos g *ℤ q +ℤ pos g *ℤ f → pos 0 ≤ℤ (pos g *ℤ q +ℤ k)
least_back g q k f h l e = omega (arith, ints)

-- a number that is allowed by the quotient is allowed
pub number_back : (g : ℕ) (q k : ℤ) → 0 < g → pos 0 ≤ℤ (q +ℤ floor_by k g) → pos 0 ≤ℤ (pos g *ℤ q +ℤ k)
number_back g q k h l =
    let n : pos 0 ≤ℤ pos g = omega (arith, ints) in
    least_back g q k (floor_by k g) (product_nonneg (pos g) (q +ℤ floor_by k g) n l) (floor_below k g h) (dist (pos g) q (floor_by k g))

inequality_back : (w : Values) (g : ℕ) (p : List Term) → w [] ≡ pos 1 → 0 < g → DividesAll g (without_constant p) → pos 0 ≤ℤ linear_value w (divided g p) → pos 0 ≤ℤ linear_value w p
inequality_back w g p o h d c =
    subst (λ v. pos 0 ≤ℤ v) (sym (linear_whole w g p o h d))
    (number_back g (linear_value w (floor_divided g (without_constant p))) (constant_part p) h (subst (λ v. pos 0 ≤ℤ v) (linear_cut w g p o) c))

equality_back : (w : Values) (g : ℕ) (p : List Term) → w [] ≡ pos 1 → 0 < g → DividesAll g (without_constant p) → unsigned_abs (constant_part p) % g ≡ 0
    → linear_value w (divided g p) ≡ pos 0 → linear_value w p ≡ pos 0
equality_back w g p o h d m c =
    let v = linear_value w (floor_divided g (without_constant p)) in
    let f = floor_by (constant_part p) g in
    linear_whole w g p o h d
    ∙ ap (λ k. pos g *ℤ v +ℤ k) (sym (floor_exact (constant_part p) g h (dvd_of_mod-eq-zero g m)))
    ∙ sym (dist (pos g) v f) ∙ ap (λ z. pos g *ℤ z) (sym (linear_cut w g p o) ∙ c) ∙ mul_zero (pos g)

below_it : (k : ℤ) → k ≡ pos 1 → pos 0 ≤ℤ (negsuc 0 *ℤ k +ℤ pos 0) → ⊥
below_it k e h = omega (arith, ints, subst (λ z. pos 0 ≤ℤ (negsuc 0 *ℤ z +ℤ pos 0)) e h)

by_divisor : (w : Values) (g : ℕ) (o : Op) (p : List Term) → w [] ≡ pos 1 → 0 < g → DividesAll g (without_constant p) → HoldsBy w (cut_by g o p) → Compares o (linear_value w p)
by_divisor w g Ge p i h d c = inequality_back w g p i h d c
by_divisor w g Eq p i h d c = by_test (unsigned_abs (constant_part p) % g == 0) refl c
  where
    by_test : (b : Bool) → (unsigned_abs (constant_part p) % g == 0) ≡ b → HoldsBy w (cond b (record { poly = divided g p; op = Eq }) contradiction) → linear_value w p ≡ pos 0
    by_test true e k = equality_back w g p i h d (mod_is _ e) k
    by_test false e k = absurd (below_it (w []) i k)

pub cut_back : (w : Values) (r : PRow) → w [] ≡ pos 1 → HoldsBy w (cut_of r) → HoldsBy w r
cut_back w r o h = by_test (content r.poly == 0) refl h
  where
    by_test : (b : Bool) → (content r.poly == 0) ≡ b → HoldsBy w (cond b r (cut_by (content r.poly) r.op r.poly)) → HoldsBy w r
    by_test true e k = k
    by_test false e k = by_divisor w (content r.poly) r.op r.poly o (above_0 _ e) (content_divides r.poly) k
