-- What was found is a cut or a split at the point.
use Rattle.std.specs.Prelude.{◌≡◌, ℕ, zero, suc, ◌<◌, ◌≤◌, ℤ, pos, ◌*ℤ◌, List, [], ◌∷◌, length, Option, Some, None, IfSome, slice_get, slice_index_or}
use Rattle.std.proofs.Common.{ap, ◌∙◌, subst, arith, get_or}
use Rattle.std.specs.List.{AllByRecursion}
use Rattle.mm_num.specs.Frac.{IsFraction}
use Rattle.mm_poly.specs.declared.term.Term.{Term}
use Rattle.mm_poly.specs.Poly.{Fits, degree}
use Rattle.cert_kit.specs.declared.row.PRow.{PRow}
use Rattle.cert_kit.specs.declared.cert.Psatz.{Psatz}
use Rattle.cert_kit.specs.declared.cert.Psatz.TheVariants.{Hyp}
use Rattle.cert_kit.specs.Variables.{variables_of}
use Rattle.cert_kit.proofs.BoundedLaws.{hyp_bounded}
use Rattle.cert_kit.proofs.FlatLaws.{flat_hyp}
use Rattle.cut_branch.specs.declared.scaled.Scaled.{Scaled}
use Rattle.farkas_rows.specs.Fractions.{denominator, numerators}
use Rattle.farkas_rows.proofs.FractionLaws.{positive_denominator}
use Rattle.cut_branch.specs.Points.{AreLinear, weight_over}
use Rattle.cut_branch.specs.Picking.{IsCutOff, IsBetween}
use Rattle.cut_branch.specs.machine.Scaling.{AreOver, IsScaled, IsFalseOver, HasFalseCut, IsSplitAt}
use Rattle.cut_branch.specs.machine.Combining.{HasFalseRow}
use Rattle.cut_branch.proofs.ScalingLaws.{over_product, false_at}
use Rattle.cut_branch.proofs.PlaceLaws.{variables_rise, place_is}

pub given : {A : Type 0} → (P : A → Type 0) (o : Option A) (x : A) → IfSome o P → o ≡ Some x → P x
given P (Some y) x h e = subst P (let s : y ≡ x = cc in s) h
given P None x h e = absurd cc

pub all_at : {A : Type 0} → (P : A → Type 0) (xs : List A) (n : ℕ) (x : A) → AllByRecursion P xs → slice_get xs n ≡ Some x → P x
all_at P [] n x a e = absurd cc
all_at P (y ∷ ys) zero x a e = subst P (let h : y ≡ x = cc in h) a.0
all_at P (y ∷ ys) (suc n) x a e = all_at P ys n x a.1 e

-- a row's own number is such an expression
pub own_row : (rows : List PRow) (vars : List ℕ) (s : Scaled) (n : ℕ) → AreLinear rows → AllByRecursion (λ (r : PRow). Fits r.poly) rows → HasFalseCut rows vars s n
    → HasFalseRow rows vars s (Hyp n)
own_row rows vars s n linear fits h =
    let bounded = hyp_bounded rows n h.row h.here (all_at (λ (r : PRow). Fits r.poly) rows n h.row fits h.here) in
    let flat = flat_hyp n 0 in
    record {
      row = h.row;
      means = bounded.means;
      linear = all_at (λ (r : PRow). degree r.poly ≤ 1) rows n h.row linear h.here;
      cut = h.cut;
      fits = record { within = bounded.within; shallow = (let d = flat.depth in omega (arith, d)); constants = flat.constants };
    }

pub row_cut_off : (rows : List PRow) (vars : List ℕ) (xs : List (ℤ × ℤ)) (s : Scaled) (e : Psatz) → vars ≡ variables_of rows → IsScaled xs s → HasFalseRow rows vars s e
    → IsCutOff rows xs e
row_cut_off rows vars xs s e v scaled h = record {
  row = h.row;
  means = h.means;
  linear = h.linear;
  cut = false_at rows xs s h.row scaled (subst (λ (vs : List ℕ). IsFalseOver vs s h.row) v h.cut);
}

over_at : (h : ℤ) (ns : List ℤ) (xs : List (ℤ × ℤ)) (i : ℕ) (x : ℤ × ℤ) → AreOver h ns xs → slice_get xs i ≡ Some x → slice_index_or ns i (pos 0) *ℤ x.1 ≡ x.0 *ℤ h
over_at h ns [] i x a e = absurd cc
over_at h [] (y ∷ xs) i x a e = absurd a
over_at h (n ∷ ns) (y ∷ xs) zero x a e = let s : y ≡ x = cc in subst (λ (z : ℤ × ℤ). n *ℤ z.1 ≡ z.0 *ℤ h) s a.0
over_at h (n ∷ ns) (y ∷ xs) (suc i) x a e = over_at h ns xs i x a.1 e

pub split_between : (rows : List PRow) (xs : List (ℤ × ℤ)) (i : ℕ) (v : ℕ) (x : ℤ × ℤ) (p : List Term) → AllByRecursion IsFraction xs → i < length (variables_of rows)
    → get_or (variables_of rows) i 0 ≡ v
    → slice_get xs i ≡ Some x → IsSplitAt v x p → IsBetween rows xs p
split_between rows xs i v x p fractions inside here e s =
    let vars = variables_of rows in
    let w : List (ℕ × ℕ) → ℤ = weight_over vars (denominator xs) (numerators xs) in
    let place = place_is vars v i (variables_rise rows) inside here in
    let value : w ((v, 1) ∷ []) *ℤ x.1 ≡ x.0 *ℤ w [] =
    ap (λ (k : ℕ). slice_index_or (numerators xs) k (pos 0) *ℤ x.1) place ∙ over_at (denominator xs) (numerators xs) xs i x (over_product xs) e in
    let b = s.between w (positive_denominator xs fractions) value in
    record { above = b.0; below = b.1 }
