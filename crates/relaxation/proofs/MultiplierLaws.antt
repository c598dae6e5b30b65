-- Multipliers that refute the forms of rows refute the rows.
use Rattle.std.specs.Prelude.{◌≡◌, ◌≢◌, ◌⊎◌, ℕ, ℤ, pos, ◌+ℤ◌, ◌*ℤ◌, ◌<ℤ◌, ◌≤ℤ◌, List, [], ◌∷◌, length, map, suc, false, refl}
use Rattle.std.proofs.Common.{ap, sym, ◌∙◌, subst, inl, inr, arith}
use Rattle.std.specs.List.{AllByRecursion}
use Rattle.mm_num.proofs.Ring.{mul_zero}
use Rattle.mm_poly.specs.declared.term.Term.{Term}
use Rattle.mm_poly.specs.Poly.{coeff_of, plus, scaled, constant_of}
use Rattle.mm_poly.proofs.ValueLaws.{zero_sum, sum_zero}
use Rattle.mm_poly.proofs.PolyLaws.{poly_scaled}
use Rattle.mm_poly.proofs.CoeffLaws.{coeff_plus, coeff_with, unique}
use Rattle.mm_poly.proofs.FiniteLaws.{coeff_scaled}
use Rattle.mm_poly.proofs.PartLaws.{coeff_found, coeff_passed}
use Rattle.mm_poly.proofs.CutBoundLaws.{poly_constant}
use Rattle.cert_kit.specs.declared.row.Op.{Op}
use Rattle.cert_kit.specs.declared.row.Op.TheVariants.{Ge, Eq}
use Rattle.cert_kit.specs.declared.row.PRow.{PRow}
use Rattle.fm_elim.specs.Unknowns.{unknowns}
use Rattle.fm_elim.proofs.SolveLaws.{Has, Knows, known_rows}
use Rattle.farkas_rows.specs.Combining.{combined, IsMultiplier, AreMultipliers, IsFarkas}
use Rattle.farkas_rows.proofs.CombinedLaws.{AreFit, poly_combined}
use Rattle.simplex_core.specs.declared.row.LinRow.{LinRow}
use Rattle.simplex_core.specs.Form.{at}
use Rattle.simplex_core.specs.Farkas.{sum_at, sum_constants, AreSigned, IsFarkas as IsFormFarkas}
use Rattle.relaxation.specs.Relaxing.{Mono, is_equality, IsFormOf, AreFormsOf}
use Rattle.relaxation.proofs.UnknownLaws.{has_or_not, has_place}

-- a monomial's coefficient in the combination
abbrev total : List ℤ → List PRow → Mono → ℤ
total [] rows m = pos 0
total (c ∷ cs) [] m = pos 0
total (c ∷ cs) (r ∷ rows) m = c *ℤ coeff_of r.poly m +ℤ total cs rows m

coeff_combined : (cs : List ℤ) (rows : List PRow) (m : Mono) → AreFit rows → coeff_of (combined cs rows) m ≡ total cs rows m
coeff_combined [] rows m a = refl
coeff_combined (c ∷ cs) [] m a = refl
coeff_combined (c ∷ cs) (r ∷ rows) m a =
    coeff_plus (scaled c r.poly) (combined cs rows) m (poly_scaled c r.poly a.0.order) (poly_combined cs rows a.1)
    ∙ ap (λ z. z +ℤ coeff_of (combined cs rows) m) (coeff_scaled c r.poly m a.0.order)
    ∙ ap (λ z. c *ℤ coeff_of r.poly m +ℤ z) (coeff_combined cs rows m a.1)

-- at the place of an unknown
unknown_total : (us : List Mono) (m : Mono) (i : ℕ) (cs : List ℤ) (rows : List PRow) (ls : List LinRow) → ((f : Mono → ℤ) → at (map f us) i ≡ f m) → AreFormsOf us rows ls
    → sum_at i cs ls ≡ total cs rows m
unknown_total us m i [] rows ls h f = refl
unknown_total us m i (c ∷ cs) [] [] h f = refl
unknown_total us m i (c ∷ cs) [] (l ∷ ls) h f = absurd f
unknown_total us m i (c ∷ cs) (r ∷ rows) [] h f = absurd f
unknown_total us m i (c ∷ cs) (r ∷ rows) (l ∷ ls) h f =
    ap (λ z. c *ℤ z +ℤ sum_at i cs ls) (ap (λ (k : List ℤ). at k i) f.0.coeffs ∙ h (coeff_of r.poly))
    ∙ ap (λ z. c *ℤ coeff_of r.poly m +ℤ z) (unknown_total us m i cs rows ls h f.1)

constant_total : (us : List Mono) (cs : List ℤ) (rows : List PRow) (ls : List LinRow) → AreFormsOf us rows ls → sum_constants cs ls ≡ total cs rows []
constant_total us [] rows ls f = refl
constant_total us (c ∷ cs) [] [] f = refl
constant_total us (c ∷ cs) [] (l ∷ ls) f = absurd f
constant_total us (c ∷ cs) (r ∷ rows) [] f = absurd f
constant_total us (c ∷ cs) (r ∷ rows) (l ∷ ls) f =
    ap (λ z. c *ℤ z +ℤ sum_constants cs ls) f.0.constant ∙ ap (λ z. c *ℤ coeff_of r.poly [] +ℤ z) (constant_total us cs rows ls f.1)

-- a monomial that is neither constant nor an unknown has no coefficient
coeff_unknown : (us : List Mono) (p : List Term) (m : Mono) → Knows us p → (m ≡ [] → ⊥) → (Has m us → ⊥) → coeff_of p m ≡ pos 0
coeff_unknown us [] m k n h = refl
coeff_unknown us (t ∷ ts) m k n h =
    coeff_passed t ts m (λ e. elim k.0 as (λ _. ⊥) [ inl s ↦ n (sym e ∙ s) | inr q ↦ h (subst (λ (x : Mono). Has x us) e q) ]) ∙ coeff_unknown us ts m k.1 n h

other_total : (us : List Mono) (cs : List ℤ) (rows : List PRow) (m : Mono) → AllByRecursion (λ (r : PRow). Knows us r.poly) rows → (m ≡ [] → ⊥) → (Has m us → ⊥) → total cs rows m ≡ pos 0
other_total us [] rows m k n h = refl
other_total us (c ∷ cs) [] m k n h = refl
other_total us (c ∷ cs) (r ∷ rows) m k n h =
    ap (λ z. c *ℤ z +ℤ total cs rows m) (coeff_unknown us r.poly m k.0 n h)
    ∙ ap (λ z. z +ℤ total cs rows m) (mul_zero c)
    ∙ zero_sum (total cs rows m)
    ∙ other_total us cs rows m k.1 n h

abbrev constant_term : ℤ → Term
constant_term k = record { coeff = k; mono = [] }

coeff_constant : (k : ℤ) (m : Mono) → coeff_of (constant_of k) m ≡ coeff_of (constant_term k ∷ []) m
coeff_constant k m = coeff_with k [] [] m tt ∙ sum_zero (coeff_of (constant_term k ∷ []) m)

constant_or_not : (m : Mono) → (m ≡ []) ⊎ (m ≡ [] → ⊥)
constant_or_not [] = inl refl
constant_or_not (f ∷ m) = inr (λ e. absurd cc)

negative : (rows : List PRow) (ls : List LinRow) (cs : List ℤ) → AreFit rows → AreFormsOf (unknowns rows) rows ls → IsFormFarkas ls cs
    → combined cs rows ≡ constant_of (sum_constants cs ls)
negative rows ls cs a f h = unique (combined cs rows) (constant_of (sum_constants cs ls)) (poly_combined cs rows a) (poly_constant (sum_constants cs ls)) (λ m. coeff_combined cs rows m a ∙ each m)
  where
    k : ℤ
    k = sum_constants cs ls

    each : (m : Mono) → total cs rows m ≡ coeff_of (constant_of (sum_constants cs ls)) m
    each m = elim (constant_or_not m) as (λ _. total cs rows m ≡ coeff_of (constant_of (sum_constants cs ls)) m) [
      | inl e ↦ subst (λ (x : Mono). total cs rows x ≡ coeff_of (constant_of (sum_constants cs ls)) x) (sym e)
          (sym (constant_total (unknowns rows) cs rows ls f) ∙ sym (coeff_constant (sum_constants cs ls) [] ∙ coeff_found (constant_term (sum_constants cs ls)) [] [] refl))
      | inr n ↦
          let none : coeff_of (constant_of (sum_constants cs ls)) m ≡ pos 0 =
          coeff_constant (sum_constants cs ls) m ∙ coeff_passed (constant_term (sum_constants cs ls)) [] m (λ e. n (sym e)) in
          elim (has_or_not m (unknowns rows)) as (λ _. total cs rows m ≡ coeff_of (constant_of (sum_constants cs ls)) m) [
            | inl q ↦
                let r = has_place m (unknowns rows) q in
                sym (unknown_total (unknowns rows) m r.0 cs rows ls r.1 f) ∙ h.unknowns r.0 ∙ sym none
            | inr q ↦ other_total (unknowns rows) cs rows m (known_rows rows) n q ∙ sym none
          ]
    ]

signs : (us : List Mono) (rows : List PRow) (ls : List LinRow) (cs : List ℤ) → AreFormsOf us rows ls → AreSigned cs ls → AreMultipliers rows cs
signs us [] ls cs f s = tt
signs us (r ∷ rows) ls [] f s = tt
signs us (r ∷ rows) [] (c ∷ cs) f s = absurd f
signs us (r ∷ rows) (l ∷ ls) (c ∷ cs) f s = (one r.op (λ e. s.0 (f.0.equal ∙ e)), signs us rows ls cs f.1 s.1)
  where
    one : (o : Op) → (is_equality o ≡ false → pos 0 ≤ℤ c) → IsMultiplier o c
    one Ge h = h refl
    one Eq h = tt

pub form_count : (us : List Mono) (rows : List PRow) (ls : List LinRow) → AreFormsOf us rows ls → length ls ≡ length rows
form_count us [] [] f = refl
form_count us [] (l ∷ ls) f = absurd f
form_count us (r ∷ rows) [] f = absurd f
form_count us (r ∷ rows) (l ∷ ls) f = ap suc (form_count us rows ls f.1)

pub multipliers : (rows : List PRow) (ls : List LinRow) (cs : List ℤ) → AreFit rows → AreFormsOf (unknowns rows) rows ls → IsFormFarkas ls cs → IsFarkas rows cs
multipliers rows ls cs a f h = record {
  count = h.count ∙ form_count (unknowns rows) rows ls f;
  signs = signs (unknowns rows) rows ls cs f h.signed;
  negative = (sum_constants cs ls, h.constant, negative rows ls cs a f h);
}
