-- Numerators over different denominators stand for the same values, and so for the same signs.
use Rattle.std.specs.Prelude.{◌≡◌, ℕ, zero, suc, ℤ, pos, negsuc, ◌+ℤ◌, ◌*ℤ◌, neg_ℤ, ◌<ℤ◌, ◌≤ℤ◌, List, [], ◌∷◌, map, length, slice_index_or, refl}
use Rattle.std.proofs.Common.{ap, sym, ◌∙◌, arith}
use Rattle.std.proofs.lemmas.Int.{ints}
use Rattle.std.proofs.Math.IntN.{*ℤ_comm}
use Rattle.std.specs.List.{AllByRecursion}
use Rattle.mm_num.specs.Frac.{IsFraction}
use Rattle.mm_num.proofs.Ring.{dist_r, assoc, swap, neg_mul, mul_zero, product_nonneg, product_positive, product_zero}
use Rattle.mm_poly.specs.declared.term.Term.{Term}
use Rattle.mm_poly.specs.Poly.{linear_value}
use Rattle.cert_kit.specs.declared.row.Op.{Op}
use Rattle.cert_kit.specs.declared.row.Op.TheVariants.{Ge, Eq}
use Rattle.cert_kit.specs.declared.row.PRow.{PRow}
use Rattle.cert_kit.specs.Row.{Compares}
use Rattle.cert_kit.specs.Cut.{cut_of}
use Rattle.cert_kit.specs.Variables.{variables_of, place_of}
use Rattle.cut_branch.specs.declared.scaled.Scaled.{Scaled}
use Rattle.farkas_rows.specs.Fractions.{denominator, numerators}
use Rattle.farkas_rows.proofs.FractionLaws.{positive_denominator}
use Rattle.cut_branch.specs.Points.{weight_over, value_over, value_at, HoldsAt}
use Rattle.cut_branch.specs.machine.Scaling.{AreOver, IsScaled, IsFalseOver}

-- ---- the product of the denominators is a common one

over_multiple : (k h : ℤ) (ns : List ℤ) (xs : List (ℤ × ℤ)) → AreOver h ns xs → AreOver (k *ℤ h) (map (λ n. k *ℤ n) ns) xs
over_multiple k h [] [] a = tt
over_multiple k h [] (x ∷ xs) a = absurd a
over_multiple k h (n ∷ ns) [] a = absurd a
over_multiple k h (n ∷ ns) (x ∷ xs) a = (assoc k n x.1 ∙ ap (λ z. k *ℤ z) a.0 ∙ swap k x.0 h, over_multiple k h ns xs a.1)

pub over_product : (xs : List (ℤ × ℤ)) → AreOver (denominator xs) (numerators xs) xs
over_product [] = tt
over_product (x ∷ xs) = (
  assoc x.0 (denominator xs) x.1 ∙ ap (λ z. x.0 *ℤ z) (*ℤ_comm (denominator xs) x.1),
  over_multiple x.1 (denominator xs) (numerators xs) xs (over_product xs),
)

pub length_over : (h : ℤ) (ns : List ℤ) (xs : List (ℤ × ℤ)) → AreOver h ns xs → length ns ≡ length xs
length_over h [] [] a = refl
length_over h [] (x ∷ xs) a = absurd a
length_over h (n ∷ ns) [] a = absurd a
length_over h (n ∷ ns) (x ∷ xs) a = ap suc (length_over h ns xs a.1)

-- ---- two common denominators

-- a factor above 0 is left out on both sides
pub cancelled : (a b d : ℤ) → pos 0 <ℤ d → a *ℤ d ≡ b *ℤ d → a ≡ b
cancelled a b d h e =
    let s : (a +ℤ neg_ℤ b) *ℤ d ≡ pos 0 = (let p = dist_r a (neg_ℤ b) d in let q = neg_mul b d in omega (arith, ints, p, q, e)) in
    let z : a +ℤ neg_ℤ b ≡ pos 0 = product_zero (a +ℤ neg_ℤ b) d h s in
    omega (arith, ints, z)

crossed : (n m h k a b : ℤ) → pos 0 <ℤ b → n *ℤ b ≡ a *ℤ h → m *ℤ b ≡ a *ℤ k → n *ℤ k ≡ m *ℤ h
crossed n m h k a b l p q = cancelled (n *ℤ k) (m *ℤ h) b l (
    assoc n k b ∙ ap (λ z. n *ℤ z) (*ℤ_comm k b) ∙ sym (assoc n b k) ∙ ap (λ z. z *ℤ k) p ∙ assoc a h k ∙ ap (λ z. a *ℤ z) (*ℤ_comm h k) ∙ sym (assoc a k h)
    ∙ ap (λ z. z *ℤ h) (sym q) ∙ assoc m b h ∙ ap (λ z. m *ℤ z) (*ℤ_comm b h) ∙ sym (assoc m h b)
    )

zero_sides : (h k : ℤ) → pos 0 *ℤ k ≡ pos 0 *ℤ h
zero_sides h k = *ℤ_comm (pos 0) k ∙ mul_zero k ∙ sym (mul_zero h) ∙ *ℤ_comm h (pos 0)

places_crossed : (h k : ℤ) (ns ms : List ℤ) (xs : List (ℤ × ℤ)) → AreOver h ns xs → AreOver k ms xs → AllByRecursion IsFraction xs
    → (i : ℕ) → slice_index_or ns i (pos 0) *ℤ k ≡ slice_index_or ms i (pos 0) *ℤ h
places_crossed h k [] [] xs a b f i = zero_sides h k
places_crossed h k [] (m ∷ ms) [] a b f i = absurd b
places_crossed h k [] (m ∷ ms) (x ∷ xs) a b f i = absurd a
places_crossed h k (n ∷ ns) [] [] a b f i = absurd a
places_crossed h k (n ∷ ns) [] (x ∷ xs) a b f i = absurd b
places_crossed h k (n ∷ ns) (m ∷ ms) [] a b f i = absurd a
places_crossed h k (n ∷ ns) (m ∷ ms) (x ∷ xs) a b f zero = crossed n m h k x.0 x.1 f.0.positive a.0 b.0
places_crossed h k (n ∷ ns) (m ∷ ms) (x ∷ xs) a b f (suc i) = places_crossed h k ns ms xs a.1 b.1 f.1 i

weights_crossed : (vars : List ℕ) (h k : ℤ) (ns ms : List ℤ) (xs : List (ℤ × ℤ)) → AreOver h ns xs → AreOver k ms xs → AllByRecursion IsFraction xs
    → (m : List (ℕ × ℕ)) → weight_over vars h ns m *ℤ k ≡ weight_over vars k ms m *ℤ h
weights_crossed vars h k ns ms xs a b f [] = *ℤ_comm h k
weights_crossed vars h k ns ms xs a b f (g ∷ gs) = places_crossed h k ns ms xs a b f (place_of vars g.0)

term_crossed : (c a b h k s t : ℤ) → a *ℤ k ≡ b *ℤ h → s *ℤ k ≡ t *ℤ h → (c *ℤ a +ℤ s) *ℤ k ≡ (c *ℤ b +ℤ t) *ℤ h
term_crossed c a b h k s t p q =
    dist_r (c *ℤ a) s k
    ∙ ap (λ z. z +ℤ s *ℤ k) (assoc c a k ∙ ap (λ z. c *ℤ z) p ∙ sym (assoc c b h))
    ∙ ap (λ z. (c *ℤ b) *ℤ h +ℤ z) q
    ∙ sym (dist_r (c *ℤ b) t h)

linear_crossed : (v w : List (ℕ × ℕ) → ℤ) (h k : ℤ) (ts : List Term) → ((m : List (ℕ × ℕ)) → v m *ℤ k ≡ w m *ℤ h) → linear_value v ts *ℤ k ≡ linear_value w ts *ℤ h
linear_crossed v w h k [] f = zero_sides h k
linear_crossed v w h k (t ∷ ts) f = term_crossed t.coeff (v t.mono) (w t.mono) h k (linear_value v ts) (linear_value w ts) (f t.mono) (linear_crossed v w h k ts f)

-- ---- signs

nonneg_factor : (a d : ℤ) → pos 0 <ℤ d → pos 0 ≤ℤ (a *ℤ d) → pos 0 ≤ℤ a
nonneg_factor (pos a) d h l = omega (arith, ints)
nonneg_factor (negsuc a) d h l =
    let p : pos 0 <ℤ (pos (suc a) *ℤ d) = product_positive (pos (suc a)) d (omega (arith, ints)) h in
    let q : negsuc a *ℤ d ≡ neg_ℤ (pos (suc a) *ℤ d) = neg_mul (pos (suc a)) d in
    absurd (omega (arith, ints, p, q, l))

pub same_sign : (o : Op) (a b h k : ℤ) → pos 0 <ℤ h → pos 0 <ℤ k → a *ℤ k ≡ b *ℤ h → Compares o b → Compares o a
same_sign Ge a b h k p q e c =
    let n : pos 0 ≤ℤ (b *ℤ h) = product_nonneg b h c (omega (arith, ints)) in
    nonneg_factor a k q (omega (arith, ints, e, n))
same_sign Eq a b h k p q e c = product_zero a k q (e ∙ ap (λ z. z *ℤ h) c ∙ *ℤ_comm (pos 0) h ∙ mul_zero h)

-- a cut that is false over some denominator is false at the point
pub false_at : (rows : List PRow) (xs : List (ℤ × ℤ)) (s : Scaled) (r : PRow) → IsScaled xs s → IsFalseOver (variables_of rows) s r → HoldsAt rows xs (cut_of r) → ⊥
false_at rows xs s r h f c =
    let vars = variables_of rows in
    let over = over_product xs in
    let above = positive_denominator xs h.fractions in
    let cross = linear_crossed (weight_over vars s.den s.nums.items) (weight_over vars (denominator xs) (numerators xs)) s.den (denominator xs) (cut_of r).poly
    (weights_crossed vars s.den (denominator xs) s.nums.items (numerators xs) xs h.over over h.fractions) in
    f (same_sign (cut_of r).op (value_over vars s.den s.nums.items (cut_of r).poly) (value_at rows xs (cut_of r).poly) s.den (denominator xs) h.positive above cross c)
