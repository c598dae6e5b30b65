-- Multipliers whose combination is negative refute the rows.
use Rattle.std.specs.Prelude.{◌≡◌, ℕ, ℤ, pos, ◌+ℤ◌, ◌*ℤ◌, ◌<ℤ◌, ◌≤ℤ◌, List, [], ◌∷◌}
use Rattle.std.proofs.Common.{ap, ◌∙◌, subst, arith}
use Rattle.std.proofs.lemmas.Int.{ints}
use Rattle.std.specs.List.{AllByRecursion}
use Rattle.mm_num.proofs.Ring.{mul_zero, product_nonneg}
use Rattle.mm_poly.specs.declared.term.Term.{Term}
use Rattle.mm_poly.specs.Mono.{mono_value}
use Rattle.mm_poly.specs.Poly.{linear_value, plus, scaled}
use Rattle.mm_poly.proofs.LinearLaws.{at_point, linear_plus, linear_scaled, linear_constant}
use Rattle.cert_kit.specs.declared.row.Op.{Op}
use Rattle.cert_kit.specs.declared.row.Op.TheVariants.{Ge, Eq}
use Rattle.cert_kit.specs.declared.row.PRow.{PRow}
use Rattle.cert_kit.specs.Row.{Compares, Solves, HasNoSolution}
use Rattle.farkas_rows.specs.Combining.{combined, IsMultiplier, AreMultipliers, IsFarkas, HoldsAt, HasNoRationalSolution}

-- a multiple of a row that holds is at least 0
multiple_holds : (o : Op) (m v : ℤ) → IsMultiplier o m → Compares o v → pos 0 ≤ℤ (m *ℤ v)
multiple_holds Ge m v s h = product_nonneg m v s h
multiple_holds Eq m v s h = let e = ap (λ z. m *ℤ z) h ∙ mul_zero m in omega (arith, ints, e)

sum_nonneg : (a b c : ℤ) → c ≡ a +ℤ b → pos 0 ≤ℤ a → pos 0 ≤ℤ b → pos 0 ≤ℤ c
sum_nonneg a b c e h k = omega (arith, ints)

-- and so is the combination
combination_holds : (w : List (ℕ × ℕ) → ℤ) (ms : List ℤ) (rows : List PRow) → AreMultipliers rows ms → AllByRecursion (HoldsAt w) rows → pos 0 ≤ℤ linear_value w (combined ms rows)
combination_holds w [] rows s h = omega (arith, ints)
combination_holds w (m ∷ ms) [] s h = omega (arith, ints)
combination_holds w (m ∷ ms) (r ∷ rows) s h =
    sum_nonneg (m *ℤ linear_value w r.poly) (linear_value w (combined ms rows)) (linear_value w (plus (scaled m r.poly) (combined ms rows)))
    (linear_plus w (scaled m r.poly) (combined ms rows) ∙ ap (λ z. z +ℤ linear_value w (combined ms rows)) (linear_scaled w m r.poly))
    (multiple_holds r.op m (linear_value w r.poly) s.0 h.0) (combination_holds w ms rows s.1 h.1)

-- a negative number times a positive one isn't at least 0
negative_product : (k d : ℤ) → k <ℤ pos 0 → pos 0 <ℤ d → pos 0 ≤ℤ (k *ℤ d) → ⊥
negative_product k d h p n = grind (arith, ints)

pub no_rational : (rows : List PRow) (ms : List ℤ) → IsFarkas rows ms → HasNoRationalSolution rows
no_rational rows ms f w d h =
    let k = f.negative.0 in
    let e : linear_value w (combined ms rows) ≡ k *ℤ w [] = ap (λ (p : List Term). linear_value w p) f.negative.2 ∙ linear_constant w k in
    negative_product k (w []) f.negative.1 d (subst (λ z. pos 0 ≤ℤ z) e (combination_holds w ms rows f.signs h))

all_at : (x : ℕ → ℤ) (rows : List PRow) → Solves x rows → AllByRecursion (HoldsAt (mono_value x)) rows
all_at x [] h = tt
all_at x (r ∷ rows) h = (subst (λ z. Compares r.op z) (at_point x r.poly) h.0, all_at x rows h.1)

-- an integer point is a rational one
pub no_integer : (rows : List PRow) → HasNoRationalSolution rows → HasNoSolution rows
no_integer rows n x h = n (mono_value x) (omega (arith, ints)) (all_at x rows h)

pub no_solution : (rows : List PRow) (ms : List ℤ) → IsFarkas rows ms → HasNoSolution rows
no_solution rows ms f = no_integer rows (no_rational rows ms f)
