-- The expression for a sum of multiples of two rows means that sum, and may stand in a step.
use Rattle.std.specs.Prelude.{◌≡◌, ◌≢◌, ℕ, zero, suc, ◌^◌, ◌<◌, ◌≤◌, ℤ, pos, negsuc, ◌≤ℤ◌, unsigned_abs, int_le, nat_lt, List, length, Some, true, slice_get, refl}
use Rattle.std.proofs.Common.{sym, subst, arith, get_or}
use Rattle.std.specs.List.{AllByRecursion}
use Rattle.std.proofs.lemmas.Int.{ints}
use Rattle.std.proofs.lemmas.Bool.{and_from}
use Rattle.std.specs.Ordering.{int_eq}
use Rattle.mm_num.proofs.TestLaws.{below_test}
use Rattle.mm_poly.specs.Poly.{Fits, degree, scaled, constant_of}
use Rattle.mm_poly.proofs.CaseLaws.{by_if}
use Rattle.mm_poly.proofs.BoundLaws.{degree_plus, degree_scaled}
use Rattle.cert_kit.specs.declared.row.Op.{Op}
use Rattle.cert_kit.specs.declared.row.Op.TheVariants.{Ge, Eq}
use Rattle.cert_kit.specs.declared.row.PRow.{PRow}
use Rattle.cert_kit.specs.declared.cert.Psatz.{Psatz}
use Rattle.cert_kit.specs.declared.cert.Psatz.TheVariants.{Hyp, Const}
use Rattle.cert_kit.specs.Meaning.{sum_bounds}
use Rattle.cert_kit.specs.Depth.{is_constant_in_range}
use Rattle.cert_kit.proofs.BoundedLaws.{within_limits, from_one, add_bounded, times_bounds}
use Rattle.cert_kit.proofs.FlatLaws.{IsFlat, flat_hyp, flat_const, flat_mulp, flat_mul, flat_add}
use Rattle.farkas_rows.specs.Combining.{IsMultiplier}
use Rattle.farkas_rows.specs.machine.Parts.{product_by, times_row}
use Rattle.farkas_rows.proofs.FormBoundLaws.{multiple_row_of, times_bounded}
use Rattle.cut_branch.specs.declared.scaled.Scaled.{Scaled}
use Rattle.cut_branch.specs.Points.{AreLinear}
use Rattle.cut_branch.specs.machine.Combining.{HasFalseRow, MaySum, sum_of, sum_expression}
use Rattle.cut_branch.proofs.StepLaws.{get_here}
use Rattle.cut_branch.proofs.PickLaws.{all_at}

in_range : (m : ℤ) → pos 0 ≤ℤ m → m ≢ pos 0 → unsigned_abs m < 2 ^ 126 → is_constant_in_range m ≡ true
in_range (pos zero) s z l = absurd (z refl)
in_range (pos (suc a)) s z l = and_from (int_le (pos 1) (pos (suc a))) (nat_lt (suc a) (2 ^ 126)) (from_one (suc a) (omega arith)) (below_test (suc a) (2 ^ 126) l)
in_range (negsuc a) s z l = absurd (omega (arith, ints, s))

flat_product : (m : ℤ) (n : ℕ) (o : Op) → IsMultiplier o m → m ≢ pos 0 → unsigned_abs m < 2 ^ 126 → IsFlat 1 (product_by m n o)
flat_product m n Ge s z l = flat_mul (Const m) (Hyp n) 0 (flat_const m (in_range m s z l)) (flat_hyp n 0)
flat_product m n Eq s z l = flat_mulp (constant_of m) (Hyp n) 0 (flat_hyp n 0)

flat_times : (m : ℤ) (n : ℕ) (o : Op) → IsMultiplier o m → m ≢ pos 0 → unsigned_abs m < 2 ^ 126 → IsFlat 1 (times_row m n o)
flat_times m n o s z l = by_if (int_eq m (pos 1)) (Hyp n) (product_by m n o) (IsFlat 1) (λ e. flat_hyp n 1) (λ e. flat_product m n o s z l)

false_sum : (rows : List PRow) (vars : List ℕ) (s : Scaled) (n m : ℕ) (p q : PRow) (a b : ℤ) → slice_get rows n ≡ Some p → slice_get rows m ≡ Some q → Fits p.poly
    → Fits q.poly
    → degree p.poly ≤ 1 → degree q.poly ≤ 1 → MaySum a p b q vars s → HasFalseRow rows vars s (sum_expression a n p.op b m q.op)
false_sum rows vars s n m p q a b here there f g one other may =
    let h = may.sum in
    let x = may.first in
    let y = may.second in
    let total = h.norm in
    let left = times_bounded rows a n p here f x.sign x.some x.small (omega (arith, total)) in
    let right = times_bounded rows b m q there g y.sign y.some y.small (omega (arith, total)) in
    let spreads = h.spread in
    let within =
    within_limits (sum_bounds (times_bounds (unsigned_abs a) p.poly) (times_bounds (unsigned_abs b) q.poly)) (omega (arith, total)) spreads (omega (arith, one, other)) in
    let sum =
    add_bounded (times_row a n p.op) (times_row b m q.op) rows (multiple_row_of a p) (multiple_row_of b q)
    (times_bounds (unsigned_abs a) p.poly) (times_bounds (unsigned_abs b) q.poly) left right within in
    let flat = flat_add (times_row a n p.op) (times_row b m q.op) 1 (flat_times a n p.op x.sign x.some x.small) (flat_times b m q.op y.sign y.some y.small) in
    let d = degree_plus (scaled a p.poly) (scaled b q.poly) in
    let u = degree_scaled a p.poly in
    let v = degree_scaled b q.poly in
    record {
      row = sum_of a p b q;
      means = sum.means;
      linear = omega (arith, d, u, v, one, other);
      cut = h.cut;
      fits = record { within = sum.within; shallow = (let e = flat.depth in omega (arith, e)); constants = flat.constants };
    }

pub sum_found : (rows : List PRow) (vars : List ℕ) (s : Scaled) (n m : ℕ) (p q : PRow) (a b : ℤ) (e : Psatz) → AreLinear rows
    → AllByRecursion (λ (r : PRow). Fits r.poly) rows
    → n < length rows → p ≡ get_or rows n p → m < length rows → q ≡ get_or rows m q → MaySum a p b q vars s → e ≡ sum_expression a n p.op b m q.op
    → HasFalseRow rows vars s e
sum_found rows vars s n m p q a b e linear fits low is high are may made =
    let here = get_here rows n p p low is in
    let there = get_here rows m q q high are in
    subst (HasFalseRow rows vars s) (sym made)
    (false_sum rows vars s n m p q a b here there (all_at (λ (r : PRow). Fits r.poly) rows n p fits here) (all_at (λ (r : PRow). Fits r.poly) rows m q fits there)
    (all_at (λ (r : PRow). degree r.poly ≤ 1) rows n p linear here) (all_at (λ (r : PRow). degree r.poly ≤ 1) rows m q linear there) may)
