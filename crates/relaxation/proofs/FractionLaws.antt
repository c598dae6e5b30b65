-- A form's value at fractions, over the product of their denominators.
use Rattle.std.specs.Prelude.{◌≡◌, ℕ, ℤ, pos, ◌+ℤ◌, ◌*ℤ◌, List, [], ◌∷◌, length, map, refl}
use Rattle.std.proofs.Common.{ap, sym, ◌∙◌, subst, arith}
use Rattle.std.proofs.lemmas.Int.{ints}
use Rattle.mm_num.proofs.Ring.{dist, assoc, swap, mul_zero}
use Rattle.mm_poly.proofs.ValueLaws.{zero_sum}
use Rattle.simplex_core.specs.Rows.{row_fraction}
use Rattle.farkas_rows.specs.Fractions.{denominator, numerators}

-- the sum of products, place by place
abbrev pub paired : List ℤ → List ℤ → ℤ
paired [] zs = pos 0
paired (c ∷ cs) [] = pos 0
paired (c ∷ cs) (z ∷ zs) = c *ℤ z +ℤ paired cs zs

paired_multiple : (a : ℤ) (cs zs : List ℤ) → paired cs (map (λ z. a *ℤ z) zs) ≡ a *ℤ paired cs zs
paired_multiple a [] zs = sym (mul_zero a)
paired_multiple a (c ∷ cs) [] = sym (mul_zero a)
paired_multiple a (c ∷ cs) (z ∷ zs) =
    ap (λ y. y +ℤ paired cs (map (λ z. a *ℤ z) zs)) (swap c a z) ∙ ap (λ y. a *ℤ (c *ℤ z) +ℤ y) (paired_multiple a cs zs) ∙ sym (dist a (c *ℤ z) (paired cs zs))

three : (p q r : ℤ) → p +ℤ (q +ℤ r) ≡ (p +ℤ q) +ℤ r
three p q r = omega (arith, ints)

-- the numerator is the form's value at the numerators, and the denominator the product
pub fraction_value : (cs : List ℤ) (k : ℤ) (xs : List (ℤ × ℤ)) → length cs ≡ length xs
    → ((row_fraction cs k xs).0 ≡ paired cs (numerators xs) +ℤ k *ℤ denominator xs) × ((row_fraction cs k xs).1 ≡ denominator xs)
fraction_value [] k [] e = (sym (mul_one k) ∙ sym (zero_sum (k *ℤ pos 1)), refl)
  where
    mul_one : (a : ℤ) → a *ℤ pos 1 ≡ a
    mul_one a = grind (arith, ints)
fraction_value [] k (x ∷ xs) e = absurd (omega (arith, e))
fraction_value (c ∷ cs) k [] e = absurd (omega (arith, e))
fraction_value (c ∷ cs) k (x ∷ xs) e =
    let rest = fraction_value cs k xs (omega (arith, e)) in (
      ap (λ y. (c *ℤ x.0) *ℤ y +ℤ x.1 *ℤ (row_fraction cs k xs).0) rest.1
          ∙ ap (λ y. (c *ℤ x.0) *ℤ denominator xs +ℤ x.1 *ℤ y) rest.0
          ∙ ap (λ y. y +ℤ x.1 *ℤ (paired cs (numerators xs) +ℤ k *ℤ denominator xs)) (assoc c x.0 (denominator xs))
          ∙ ap (λ y. c *ℤ (x.0 *ℤ denominator xs) +ℤ y) (dist x.1 (paired cs (numerators xs)) (k *ℤ denominator xs))
          ∙ three (c *ℤ (x.0 *ℤ denominator xs)) (x.1 *ℤ paired cs (numerators xs)) (x.1 *ℤ (k *ℤ denominator xs))
          ∙ ap (λ y. (c *ℤ (x.0 *ℤ denominator xs) +ℤ y) +ℤ x.1 *ℤ (k *ℤ denominator xs)) (sym (paired_multiple x.1 cs (numerators xs)))
          ∙ ap (λ y. (c *ℤ (x.0 *ℤ denominator xs) +ℤ paired cs (map (λ z. x.1 *ℤ z) (numerators xs))) +ℤ y) (swap x.1 k (denominator xs)),
      ap (λ y. x.1 *ℤ y) rest.1,
    )
