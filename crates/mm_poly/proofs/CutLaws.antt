-- A polynomial is its terms that aren't constant and its constant; content divides the former, and cuts follow.
use Rattle.std.specs.Prelude.{◌≡◌, ℕ, ◌*◌, ◌%◌, ◌<◌, ℤ, pos, ◌+ℤ◌, ◌*ℤ◌, ◌≤ℤ◌, ◌<ℤ◌, unsigned_abs, List, [], ◌∷◌, cond, refl}
use Rattle.std.proofs.Common.{ap, sym, ◌∙◌, subst, arith}
use Rattle.std.specs.Int.{◌∣◌}
use Rattle.std.proofs.lemmas.Int.{ints, unsigned_abs-mul}
use Rattle.std.proofs.lemmas.Nat.Gcd.{dvd_trans, dvd_of_mod-eq-zero}
use Rattle.std.proofs.Math.IntN.{*ℤ_comm}
use Rattle.mm_num.specs.Quotient.{floor_by}
use Rattle.mm_num.specs.Divisor.{gcd_of}
use Rattle.mm_num.proofs.Ring.{dist, assoc, positive_factor, zero_factor, mul_zero}
use Rattle.mm_num.proofs.QuotientLaws.{floor_above}
use Rattle.mm_num.proofs.FracLaws.{floor_exact}
use Rattle.mm_num.proofs.DivisorLaws.{gcd_divides}
use Rattle.mm_poly.specs.declared.term.Term.{Term}
use Rattle.mm_poly.specs.Mono.{mono_value, is_constant}
use Rattle.mm_poly.specs.Poly.{value, plus, constant_of, constant_part, without_constant, content, floor_divided}
pub use Rattle.mm_poly.specs.Poly.{DividesAll}
use Rattle.mm_poly.proofs.ValueLaws.{value_with, value_plus, value_constant, sum_assoc, sum_swap, one_mul}

constant_step : (c v k w : ℤ) → w ≡ v +ℤ k → c *ℤ pos 1 +ℤ w ≡ v +ℤ (c +ℤ k)
constant_step c v k w e = ap (λ z. z +ℤ w) (*ℤ_comm c (pos 1) ∙ one_mul c) ∙ ap (λ z. c +ℤ z) e ∙ sum_swap c v k

parts_step : (x : ℕ → ℤ) (c : ℤ) (m : List (ℕ × ℕ)) (v k w : ℤ) (ts : List Term) → value x ts ≡ v → w ≡ v +ℤ k
    → c *ℤ mono_value x m +ℤ w ≡ value x (cond (is_constant m) ts (record { coeff = c; mono = m } ∷ ts)) +ℤ cond (is_constant m) (c +ℤ k) k
parts_step x c [] v k w ts s e = constant_step c v k w e ∙ ap (λ z. z +ℤ (c +ℤ k)) (sym s)
parts_step x c (f ∷ fs) v k w ts s e =
    ap (λ z. c *ℤ mono_value x (f ∷ fs) +ℤ z) e
    ∙ sum_assoc (c *ℤ mono_value x (f ∷ fs)) v k
    ∙ ap (λ z. c *ℤ mono_value x (f ∷ fs) +ℤ z +ℤ k) (sym s)

-- the value is that of the terms that aren't constant and the constant
pub value_parts : (x : ℕ → ℤ) (ts : List Term) → value x ts ≡ value x (without_constant ts) +ℤ constant_part ts
value_parts x [] = refl
value_parts x (t ∷ ts) =
    parts_step x t.coeff t.mono (value x (without_constant ts)) (constant_part ts) (value x ts) (without_constant ts) refl (value_parts x ts)

pub divides_less : (d g : ℕ) (ts : List Term) → d ∣ g → DividesAll g ts → DividesAll d ts
divides_less d g [] h a = tt
divides_less d g (t ∷ ts) h a = (dvd_trans d h a.0, divides_less d g ts h a.1)

divides_step : (c : ℤ) (m : List (ℕ × ℕ)) (g : ℕ) (ts : List Term) → DividesAll g ts
    → DividesAll (cond (is_constant m) g (gcd_of (unsigned_abs c) g)) (cond (is_constant m) ts (record { coeff = c; mono = m } ∷ ts))
divides_step c [] g ts a = a
divides_step c (f ∷ fs) g ts a =
    let d = gcd_divides (unsigned_abs c) g in
    (d.0, divides_less (gcd_of (unsigned_abs c) g) g ts d.1 a)

-- the content divides each coefficient that isn't constant
pub content_divides : (ts : List Term) → DividesAll (content ts) (without_constant ts)
content_divides [] = tt
content_divides (t ∷ ts) = divides_step t.coeff t.mono (content ts) (without_constant ts) (content_divides ts)

pub divided_term : (g c m f v w : ℤ) → g *ℤ f ≡ c → w ≡ g *ℤ v → c *ℤ m +ℤ w ≡ g *ℤ (f *ℤ m +ℤ v)
divided_term g c m f v w e h =
    ap (λ z. z *ℤ m +ℤ w) (sym e) ∙ ap (λ z. z +ℤ w) (assoc g f m) ∙ ap (λ z. g *ℤ (f *ℤ m) +ℤ z) h ∙ sym (dist g (f *ℤ m) v)

-- terms that g divides are g times their quotients
pub value_divided : (x : ℕ → ℤ) (g : ℕ) (ts : List Term) → 0 < g → DividesAll g ts → value x ts ≡ pos g *ℤ value x (floor_divided g ts)
value_divided x g [] h a = sym (mul_zero (pos g))
value_divided x g (t ∷ ts) h a =
    divided_term (pos g) t.coeff (mono_value x t.mono) (floor_by t.coeff g) (value x (floor_divided g ts)) (value x ts)
    (floor_exact t.coeff g h a.0) (value_divided x g ts h a.1)
    ∙ ap (λ v. pos g *ℤ v) (sym (value_with x (floor_by t.coeff g) t.mono (floor_divided g ts)))

cut_sum : (a b g k s : ℤ) → pos 0 ≤ℤ (a +ℤ k) → k <ℤ (b +ℤ g) → s ≡ a +ℤ b +ℤ g → pos 0 <ℤ s
cut_sum a b g k s l h e = omega (arith, ints)

below_one : (z : ℤ) → pos 0 <ℤ (z +ℤ pos 1) → pos 0 ≤ℤ z
below_one z h = omega (arith, ints)

times_next : (g q f : ℤ) → g *ℤ (q +ℤ f +ℤ pos 1) ≡ g *ℤ q +ℤ g *ℤ f +ℤ g
times_next g q f =
    dist g (q +ℤ f) (pos 1) ∙ ap (λ z. z +ℤ g *ℤ pos 1) (dist g q f) ∙ ap (λ z. g *ℤ q +ℤ g *ℤ f +ℤ z) (*ℤ_comm g (pos 1) ∙ one_mul g)

pub cut_number : (g : ℕ) (q k : ℤ) → 0 < g → pos 0 ≤ℤ (pos g *ℤ q +ℤ k) → pos 0 ≤ℤ (q +ℤ floor_by k g)
cut_number g q k h l = below_one (q +ℤ floor_by k g) (positive_factor g (q +ℤ floor_by k g +ℤ pos 1)
    (cut_sum (pos g *ℤ q) (pos g *ℤ floor_by k g) (pos g) k (pos g *ℤ (q +ℤ floor_by k g +ℤ pos 1)) l (floor_above k g h) (times_next (pos g) q (floor_by k g))))

pub value_cut : (x : ℕ → ℤ) (g : ℕ) (p : List Term) → value x (plus (floor_divided g (without_constant p)) (constant_of (floor_by (constant_part p) g)))
    ≡ value x (floor_divided g (without_constant p)) +ℤ floor_by (constant_part p) g
value_cut x g p =
    value_plus x (floor_divided g (without_constant p)) (constant_of (floor_by (constant_part p) g))
    ∙ ap (λ v. value x (floor_divided g (without_constant p)) +ℤ v) (value_constant x (floor_by (constant_part p) g))

pub value_whole : (x : ℕ → ℤ) (g : ℕ) (p : List Term) → 0 < g → DividesAll g (without_constant p)
    → value x p ≡ pos g *ℤ value x (floor_divided g (without_constant p)) +ℤ constant_part p
value_whole x g p h a = value_parts x p ∙ ap (λ v. v +ℤ constant_part p) (value_divided x g (without_constant p) h a)

-- what a number from 1 divides apart from the constant, divided and rounded down, keeps its sign
pub cut_holds : (x : ℕ → ℤ) (g : ℕ) (p : List Term) → 0 < g → DividesAll g (without_constant p) → pos 0 ≤ℤ value x p
    → pos 0 ≤ℤ value x (plus (floor_divided g (without_constant p)) (constant_of (floor_by (constant_part p) g)))
cut_holds x g p h a l = subst (λ v. pos 0 ≤ℤ v) (sym (value_cut x g p))
    (cut_number g (value x (floor_divided g (without_constant p))) (constant_part p) h (subst (λ v. pos 0 ≤ℤ v) (value_whole x g p h a) l))

product_mod : (g n : ℕ) → 0 < g → (g * n) % g ≡ 0
product_mod g n h = grind arith

opposite : (a k : ℤ) → pos 0 ≡ a +ℤ k → unsigned_abs k ≡ unsigned_abs a
opposite a k e = omega (arith, ints)

-- where the value is 0, such a number divides the constant too
pub constant_divided : (x : ℕ → ℤ) (g : ℕ) (p : List Term) → 0 < g → DividesAll g (without_constant p) → value x p ≡ pos 0
    → unsigned_abs (constant_part p) % g ≡ 0
constant_divided x g p h a e =
    let v = value x (floor_divided g (without_constant p)) in
    let k = opposite (pos g *ℤ v) (constant_part p) (sym e ∙ value_whole x g p h a) in
    ap (λ n. n % g) (k ∙ unsigned_abs-mul (pos g) v) ∙ product_mod g (unsigned_abs v) h

-- and the quotient's value is 0
pub cut_zero : (x : ℕ → ℤ) (g : ℕ) (p : List Term) → 0 < g → DividesAll g (without_constant p) → value x p ≡ pos 0
    → value x (plus (floor_divided g (without_constant p)) (constant_of (floor_by (constant_part p) g))) ≡ pos 0
cut_zero x g p h a e =
    let v = value x (floor_divided g (without_constant p)) in
    let d = dvd_of_mod-eq-zero g (constant_divided x g p h a e) in
    let f = floor_by (constant_part p) g in
    value_cut x g p ∙ zero_factor g (v +ℤ f) h
    (dist (pos g) v f ∙ ap (λ z. pos g *ℤ v +ℤ z) (floor_exact (constant_part p) g h d) ∙ sym (value_whole x g p h a) ∙ e)
