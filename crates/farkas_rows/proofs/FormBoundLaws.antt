-- What a multiple of a row and a sum mean, with their bounds.
use Rattle.std.specs.Prelude.{◌≡◌, ◌≢◌, ℕ, zero, suc, ◌+◌, ◌*◌, ◌^◌, ◌<◌, ◌≤◌, ℤ, pos, negsuc, ◌≤ℤ◌, unsigned_abs, List, [], Bool, true, ◌&&◌, nat_lt, nat_le, int_le, Option, Some, slice_get, refl}
use Rattle.std.proofs.Common.{ap, sym, ◌∙◌, subst, arith}
use Rattle.std.proofs.lemmas.Int.{ints}
use Rattle.std.proofs.lemmas.Bool.{and_from}
use Rattle.std.specs.Option.{option_map_or}
use Rattle.std.specs.Ordering.{int_eq}
use Rattle.mm_num.specs.Option.{◌>>=◌}
use Rattle.mm_num.proofs.TestLaws.{below_test, is_int}
use Rattle.mm_poly.specs.declared.term.Term.{Term}
use Rattle.mm_poly.specs.Poly.{Fits, norm, spread, degree, scaled, times, constant_of}
use Rattle.mm_poly.proofs.CaseLaws.{by_if}
use Rattle.mm_poly.proofs.SumLaws.{with_nonzero}
use Rattle.mm_poly.proofs.ConstantLaws.{times_constant}
use Rattle.mm_poly.proofs.FiniteLaws.{one_scaled}
use Rattle.cert_kit.specs.declared.row.Op.{Op}
use Rattle.cert_kit.specs.declared.row.Op.TheVariants.{Ge, Eq}
use Rattle.cert_kit.specs.declared.row.PRow.{PRow}
use Rattle.cert_kit.specs.declared.cert.Psatz.{Psatz}
use Rattle.cert_kit.specs.declared.cert.Psatz.TheVariants.{Hyp, MulPoly, Mul, Add, Const}
use Rattle.cert_kit.specs.declared.bounds.Bounds.{Bounds}
use Rattle.cert_kit.specs.Meaning.{meaning, measure, Measure, measure_of, own_bounds, no_bounds, product_bounds, sum_bounds, constant_bounds, are_within, product_op, product_row, sum_row, multiple_row, constant_row, at_least_0, equal_to_0}
use Rattle.cert_kit.proofs.RowOrderLaws.{row_same}
use Rattle.cert_kit.proofs.BoundedLaws.{IsBounded, within_limits, hyp_bounded, from_one, const_bounded, mul_bounded, mulp_bounded, times_bounds, same_bounds, same_bounded}
use Rattle.farkas_rows.specs.Combining.{IsMultiplier}
use Rattle.farkas_rows.specs.machine.Parts.{product_by, times_row}

one_times : (n : ℕ) → n ≡ 1 * n
one_times n = omega arith

none_more : (n : ℕ) → 0 + n ≡ n
none_more n = omega arith

inequality_op : (o : Op) → o ≡ Ge → product_op Ge o ≡ o
inequality_op Ge e = refl
inequality_op Eq e = absurd cc

limits_times : (a : ℕ) (p : List Term) → Fits p → a * norm p < 2 ^ 126 → are_within (times_bounds a p) ≡ true
limits_times a p f h = within_limits (times_bounds a p) h f.spread f.degree

-- the multiple of a row
abbrev pub multiple_row_of : ℤ → PRow → PRow
multiple_row_of m r = record { poly = scaled m r.poly; op = r.op }

-- of an inequality
mul_by : (rows : List PRow) (m : ℤ) (n : ℕ) (r : PRow) → slice_get rows n ≡ Some r → Fits r.poly → r.op ≡ Ge → pos 0 ≤ℤ m → m ≢ pos 0 → unsigned_abs m < 2 ^ 126
    → unsigned_abs m * norm r.poly < 2 ^ 126 → IsBounded (Mul (Const m) (Hyp n)) rows (multiple_row_of m r) (times_bounds (unsigned_abs m) r.poly)
mul_by rows (negsuc a) n r here fits o s z l w = absurd (omega (arith, ints, s))
mul_by rows (pos a) n r here fits o s z l w =
    let h : 1 ≤ a = from_sign a z in
    let made : product_bounds (constant_bounds (pos a)) (own_bounds r.poly) ≡ times_bounds a r.poly =
    same_bounds (product_bounds (constant_bounds (pos a)) (own_bounds r.poly)) (times_bounds a r.poly) refl (sym (one_times (spread r.poly))) (none_more (degree r.poly)) in
    let b = mul_bounded (Const (pos a)) (Hyp n) rows (at_least_0 (constant_of (pos a))) r (constant_bounds (pos a)) (own_bounds r.poly) (const_bounded rows a h l) (hyp_bounded rows n r here fits)
    (subst (λ (x : Bounds). are_within x ≡ true) (sym made) (limits_times a r.poly fits w)) in
    same_bounded (Mul (Const (pos a)) (Hyp n)) rows (product_row (at_least_0 (constant_of (pos a))) r) (multiple_row_of (pos a) r)
    (product_bounds (constant_bounds (pos a)) (own_bounds r.poly)) (times_bounds a r.poly) b
    (row_same (product_row (at_least_0 (constant_of (pos a))) r) (multiple_row_of (pos a) r) (times_constant (pos a) r.poly z fits.order) (inequality_op r.op o)) made
  where
    from_sign : (a : ℕ) → pos a ≢ pos 0 → 1 ≤ a
    from_sign zero z = absurd (z refl)
    from_sign (suc a) z = omega arith

constant_own : (k : ℤ) → k ≢ pos 0 → own_bounds (constant_of k) ≡ constant_bounds k
constant_own k n = ap (λ (p : List Term). own_bounds p) (with_nonzero k [] [] n) ∙ same_bounds _ (constant_bounds k) (omega arith) refl refl

-- of an equality
mulp_by : (rows : List PRow) (k : ℤ) (n : ℕ) (r : PRow) → slice_get rows n ≡ Some r → Fits r.poly → r.op ≡ Eq → k ≢ pos 0 → unsigned_abs k * norm r.poly < 2 ^ 126
    → IsBounded (MulPoly (constant_of k) (Hyp n)) rows (multiple_row_of k r) (times_bounds (unsigned_abs k) r.poly)
mulp_by rows k n r here fits o z w =
    let made : product_bounds (own_bounds (constant_of k)) (own_bounds r.poly) ≡ times_bounds (unsigned_abs k) r.poly =
    ap (λ (x : Bounds). product_bounds x (own_bounds r.poly)) (constant_own k z)
    ∙ same_bounds (product_bounds (constant_bounds k) (own_bounds r.poly)) (times_bounds (unsigned_abs k) r.poly) refl (sym (one_times (spread r.poly))) (none_more (degree r.poly)) in
    let b = mulp_bounded (constant_of k) (Hyp n) rows r (own_bounds r.poly) (hyp_bounded rows n r here fits) o
    (subst (λ (x : Bounds). are_within x ≡ true) (sym made) (limits_times (unsigned_abs k) r.poly fits w)) in
    same_bounded (MulPoly (constant_of k) (Hyp n)) rows (equal_to_0 (times (constant_of k) r.poly)) (multiple_row_of k r)
    (product_bounds (own_bounds (constant_of k)) (own_bounds r.poly)) (times_bounds (unsigned_abs k) r.poly) b
    (row_same (equal_to_0 (times (constant_of k) r.poly)) (multiple_row_of k r) (times_constant k r.poly z fits.order) (sym o)) made

product_bounded : (rows : List PRow) (m : ℤ) (n : ℕ) (r : PRow) (o : Op) → r.op ≡ o → slice_get rows n ≡ Some r → Fits r.poly → IsMultiplier o m → m ≢ pos 0 → unsigned_abs m < 2 ^ 126
    → unsigned_abs m * norm r.poly < 2 ^ 126 → IsBounded (product_by m n o) rows (multiple_row_of m r) (times_bounds (unsigned_abs m) r.poly)
product_bounded rows m n r Ge e here fits s z l w = mul_by rows m n r here fits e s z l w
product_bounded rows m n r Eq e here fits s z l w = mulp_by rows m n r here fits e z w

pub times_bounded : (rows : List PRow) (m : ℤ) (n : ℕ) (r : PRow) → slice_get rows n ≡ Some r → Fits r.poly → IsMultiplier r.op m → m ≢ pos 0 → unsigned_abs m < 2 ^ 126
    → unsigned_abs m * norm r.poly < 2 ^ 126 → IsBounded (times_row m n r.op) rows (multiple_row_of m r) (times_bounds (unsigned_abs m) r.poly)
times_bounded rows m n r here fits s z l w =
    by_if (int_eq m (pos 1)) (Hyp n) (product_by m n r.op) (λ e. IsBounded e rows (multiple_row_of m r) (times_bounds (unsigned_abs m) r.poly))
    (λ e.
    let one = is_int m (pos 1) e in
    same_bounded (Hyp n) rows r (multiple_row_of m r) (own_bounds r.poly) (times_bounds (unsigned_abs m) r.poly) (hyp_bounded rows n r here fits)
    (row_same r (multiple_row_of m r) (sym (ap (λ c. scaled c r.poly) one ∙ one_scaled r.poly fits.order)) refl)
    (same_bounds (own_bounds r.poly) (times_bounds (unsigned_abs m) r.poly) (one_times (norm r.poly) ∙ ap (λ c. unsigned_abs c * norm r.poly) (sym one)) refl refl))
    (λ e. product_bounded rows m n r r.op refl here fits s z l w)
