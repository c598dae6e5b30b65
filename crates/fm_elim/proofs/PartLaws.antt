-- What the expressions of a log mean, with their bounds.
use Rattle.std.specs.Prelude.{◌≡◌, ◌≢◌, ℕ, ◌+◌, ◌*◌, ◌^◌, ◌<◌, ◌≤◌, max, ℤ, pos, negsuc, unsigned_abs, List, [], Bool, true, ◌&&◌, nat_lt, nat_le, int_le, Option, Some, slice_get, refl}
use Rattle.std.proofs.Common.{ap, sym, ◌∙◌, subst, arith}
use Rattle.std.proofs.lemmas.Int.{ints}
use Rattle.std.proofs.lemmas.Bool.{and_from, and_parts}
use Rattle.std.specs.Option.{option_map_or}
use Rattle.std.specs.Ordering.{int_eq}
use Rattle.mm_num.specs.Small.{IsSmall}
use Rattle.mm_num.specs.Option.{◌>>=◌}
use Rattle.mm_num.proofs.TestLaws.{is_below, below_test, is_int}
use Rattle.mm_poly.specs.declared.term.Term.{Term}
use Rattle.mm_poly.specs.Poly.{IsPoly, Fits, norm, spread, degree, plus, scaled, times, constant_of}
use Rattle.mm_poly.proofs.CaseLaws.{by_if}
use Rattle.mm_poly.proofs.SumLaws.{with_nonzero, plus_nil}
use Rattle.mm_poly.proofs.ConstantLaws.{times_constant}
use Rattle.cert_kit.specs.declared.row.Op.{Op}
use Rattle.cert_kit.specs.declared.row.Op.TheVariants.{Ge, Eq}
use Rattle.cert_kit.specs.declared.row.PRow.{PRow}
use Rattle.cert_kit.specs.declared.cert.Psatz.{Psatz}
use Rattle.cert_kit.specs.declared.cert.Psatz.TheVariants.{Hyp, Square, MulPoly, Mul, Add, Const}
use Rattle.cert_kit.specs.declared.bounds.Bounds.{Bounds}
use Rattle.cert_kit.specs.Meaning.{meaning, measure, Measure, measure_of, own_bounds, no_bounds, product_bounds, sum_bounds, constant_bounds, are_within, product_op, sum_op, product_row, sum_row, multiple_row, constant_row, at_least_0, equal_to_0}
use Rattle.cert_kit.proofs.FormLaws.{hyp_means, square_means, mulp_means, mul_means, add_means, const_means, hyp_measures, square_measures, mulp_measures, mul_measures, add_measures, const_measures}
use Rattle.cert_kit.proofs.RowOrderLaws.{row_same}
use Rattle.cert_kit.proofs.BoundedLaws.{IsBounded, within_limits, fits_within, hyp_bounded, from_one, constant_there, const_bounded, mul_bounded, add_bounded, mulp_bounded, nothing_bounded, times_bounds, same_bounds, same_bounded}
use Rattle.fm_elim.specs.Unknowns.{coeff_in}
use Rattle.fm_elim.specs.Steps.{has_room, combined, pair_has_room}
use Rattle.fm_elim.specs.declared.source.Combination.{Combination}
use Rattle.fm_elim.specs.declared.source.Combination.TheVariants.{Given, Sum, Pair, Half, OtherHalf}
use Rattle.fm_elim.specs.machine.Logging.{times_row, times_equality, expression, IsFactor, IsSized, Derives}
use Rattle.mm_poly.proofs.FiniteLaws.{one_scaled}

-- a row of this number, within the limits
pub record IsAt (rows : List PRow) (n : ℕ) (r : PRow) : Type 0 where
  pub here : slice_get rows n ≡ Some r
  pub fits : Fits r.poly

is_most : (m n : ℕ) → nat_le m n ≡ true → m ≤ n
is_most m n h = grind arith

pub hyp_part : (rows : List PRow) (n : ℕ) (r : PRow) → IsAt rows n r → IsBounded (Hyp n) rows r (own_bounds r.poly)
hyp_part rows n r a = hyp_bounded rows n r a.here a.fits

-- multiples

one_times : (n : ℕ) → n ≡ 1 * n
one_times n = omega arith

none_more : (n : ℕ) → 0 + n ≡ n
none_more n = omega arith

is_one : (k : ℤ) → int_eq k (pos 1) ≡ true → k ≡ pos 1
is_one k e = is_int k (pos 1) e

one_again : (a : ℕ) → pos a ≡ pos 1 → a ≡ 1
one_again a e = omega (arith, ints)

not_zero : (a : ℕ) → 1 ≤ a → pos a ≢ pos 0
not_zero a h e = omega (arith, ints)

inequality_op : (o : Op) → o ≡ Ge → product_op Ge o ≡ Ge
inequality_op Ge e = refl
inequality_op Eq e = absurd cc

limits_times : (a : ℕ) (p : List Term) → Fits p → a * norm p < 2 ^ 126 → are_within (times_bounds a p) ≡ true
limits_times a p f h = within_limits (times_bounds a p) h f.spread f.degree

pub times_part : (rows : List PRow) (a n : ℕ) (r : PRow) → IsAt rows n r → r.op ≡ Ge → 1 ≤ a → a < 2 ^ 126 → a * norm r.poly < 2 ^ 126
    → IsBounded (times_row (pos a) n) rows (at_least_0 (scaled (pos a) r.poly)) (times_bounds a r.poly)
times_part rows a n r i o h l w =
    by_if (int_eq (pos a) (pos 1)) (Hyp n) (Mul (Const (pos a)) (Hyp n)) (λ e. IsBounded e rows (at_least_0 (scaled (pos a) r.poly)) (times_bounds a r.poly))
    (λ e.
    let one = one_again a (is_one (pos a) e) in
    same_bounded (Hyp n) rows r (at_least_0 (scaled (pos a) r.poly)) (own_bounds r.poly) (times_bounds a r.poly) (hyp_part rows n r i)
    (row_same r (at_least_0 (scaled (pos a) r.poly)) (sym (ap (λ k. scaled (pos k) r.poly) one ∙ one_scaled r.poly i.fits.order)) o)
    (same_bounds (own_bounds r.poly) (times_bounds a r.poly) (one_times (norm r.poly) ∙ ap (λ k. k * norm r.poly) (sym one)) refl refl))
    (λ e.
    let made : product_bounds (constant_bounds (pos a)) (own_bounds r.poly) ≡ times_bounds a r.poly =
    same_bounds (product_bounds (constant_bounds (pos a)) (own_bounds r.poly)) (times_bounds a r.poly) refl (sym (one_times (spread r.poly))) (none_more (degree r.poly)) in
    let b = mul_bounded (Const (pos a)) (Hyp n) rows (at_least_0 (constant_of (pos a))) r (constant_bounds (pos a)) (own_bounds r.poly) (const_bounded rows a h l) (hyp_part rows n r i)
    (subst (λ (x : Bounds). are_within x ≡ true) (sym made) (limits_times a r.poly i.fits w)) in
    same_bounded (Mul (Const (pos a)) (Hyp n)) rows (product_row (at_least_0 (constant_of (pos a))) r) (at_least_0 (scaled (pos a) r.poly))
    (product_bounds (constant_bounds (pos a)) (own_bounds r.poly)) (times_bounds a r.poly) b
    (row_same (product_row (at_least_0 (constant_of (pos a))) r) (at_least_0 (scaled (pos a) r.poly)) (times_constant (pos a) r.poly (not_zero a h) i.fits.order) (inequality_op r.op o)) made)

constant_own : (k : ℤ) → k ≢ pos 0 → own_bounds (constant_of k) ≡ constant_bounds k
constant_own k n = ap (λ (p : List Term). own_bounds p) (with_nonzero k [] [] n) ∙ same_bounds _ (constant_bounds k) (omega arith) refl refl

mulp_by : (rows : List PRow) (k : ℤ) (n : ℕ) (r : PRow) → IsAt rows n r → r.op ≡ Eq → k ≢ pos 0 → unsigned_abs k * norm r.poly < 2 ^ 126
    → IsBounded (MulPoly (constant_of k) (Hyp n)) rows (equal_to_0 (scaled k r.poly)) (times_bounds (unsigned_abs k) r.poly)
mulp_by rows k n r i o z w =
    let made : product_bounds (own_bounds (constant_of k)) (own_bounds r.poly) ≡ times_bounds (unsigned_abs k) r.poly =
    ap (λ (x : Bounds). product_bounds x (own_bounds r.poly)) (constant_own k z)
    ∙ same_bounds (product_bounds (constant_bounds k) (own_bounds r.poly)) (times_bounds (unsigned_abs k) r.poly) refl (sym (one_times (spread r.poly))) (none_more (degree r.poly)) in
    let b = mulp_bounded (constant_of k) (Hyp n) rows r (own_bounds r.poly) (hyp_part rows n r i) o
    (subst (λ (x : Bounds). are_within x ≡ true) (sym made) (limits_times (unsigned_abs k) r.poly i.fits w)) in
    same_bounded (MulPoly (constant_of k) (Hyp n)) rows (equal_to_0 (times (constant_of k) r.poly)) (equal_to_0 (scaled k r.poly))
    (product_bounds (own_bounds (constant_of k)) (own_bounds r.poly)) (times_bounds (unsigned_abs k) r.poly) b
    (ap (λ (p : List Term). equal_to_0 p) (times_constant k r.poly z i.fits.order)) made

equality_part : (rows : List PRow) (k : ℤ) (n : ℕ) (r : PRow) → IsAt rows n r → r.op ≡ Eq → k ≢ pos 0 → unsigned_abs k * norm r.poly < 2 ^ 126
    → IsBounded (times_equality k n) rows (equal_to_0 (scaled k r.poly)) (times_bounds (unsigned_abs k) r.poly)
equality_part rows k n r i o z w =
    by_if (int_eq k (pos 1)) (Hyp n) (MulPoly (constant_of k) (Hyp n)) (λ e. IsBounded e rows (equal_to_0 (scaled k r.poly)) (times_bounds (unsigned_abs k) r.poly))
    (λ e.
    let one = is_one k e in
    same_bounded (Hyp n) rows r (equal_to_0 (scaled k r.poly)) (own_bounds r.poly) (times_bounds (unsigned_abs k) r.poly) (hyp_part rows n r i)
    (row_same r (equal_to_0 (scaled k r.poly)) (sym (ap (λ c. scaled c r.poly) one ∙ one_scaled r.poly i.fits.order)) o)
    (same_bounds (own_bounds r.poly) (times_bounds (unsigned_abs k) r.poly) (one_times (norm r.poly) ∙ ap (λ c. unsigned_abs c * norm r.poly) (sym one)) refl refl))
    (λ e. mulp_by rows k n r i o z w)

-- sources

derives : (rows : List PRow) (s : Combination) (r q : PRow) (b : Bounds) → IsSized s → IsBounded (expression s) rows r b → r ≡ q → Derives rows s q
derives rows s r q b z p e = record { means = p.means ∙ ap (λ (x : PRow). Some x) e; within = p.within; sized = z }

pub given_derives : (rows : List PRow) (n : ℕ) (r : PRow) → IsAt rows n r → Derives rows (Given n) r
given_derives rows n r i = derives rows (Given n) r r (own_bounds r.poly) tt (hyp_part rows n r i) refl

greater : (a b : ℕ) → a ≤ 255 → b ≤ 255 → max a b ≤ 255
greater a b h k = omega arith

turned : (a n : ℕ) → a * n ≡ n * a
turned a n = omega arith

sum_small : (a b n m : ℕ) → n * a + m * b < 2 ^ 126 → a * n + b * m < 2 ^ 126
sum_small a b n m h = omega (arith, turned a n, turned b m)

less_first : (a b n m : ℕ) → n * a + m * b < 2 ^ 126 → a * n < 2 ^ 126
less_first a b n m h = omega (arith, turned a n)

less_second : (a b n m : ℕ) → n * a + m * b < 2 ^ 126 → b * m < 2 ^ 126
less_second a b n m h = omega (arith, turned b m)

pub record HasRoom (a : ℕ) (p : List Term) (b : ℕ) (q : List Term) : Type 0 where
  pub norms : norm p * a + norm q * b < 2 ^ 126
  pub spreads : spread p + spread q ≤ 65536

pub room_is : (a b : ℕ) (p q : List Term) → has_room a p b q ≡ true → HasRoom a p b q
room_is a b p q e =
    let h = and_parts (nat_lt (norm p * a + norm q * b) (2 ^ 126)) (nat_le (spread p + spread q) 65536) e in
    record { norms = is_below _ _ h.0; spreads = is_most _ _ h.1 }

factor : (a : ℕ) → 1 ≤ a → a < 2 ^ 126 → IsFactor (pos a)
factor a h l = and_from (int_le (pos 1) (pos a)) (nat_lt a (2 ^ 126)) (from_one a h) (below_test a (2 ^ 126) l)

pub pair_derives : (u : List (ℕ × ℕ)) (rows : List PRow) (n m : ℕ) (l h : PRow) → IsAt rows n l → IsAt rows m h → l.op ≡ Ge → h.op ≡ Ge
    → 1 ≤ unsigned_abs (coeff_in u l) → unsigned_abs (coeff_in u l) < 2 ^ 126 → 1 ≤ unsigned_abs (coeff_in u h) → unsigned_abs (coeff_in u h) < 2 ^ 126
    → pair_has_room u l h ≡ true
    → Derives rows (Pair (pos (unsigned_abs (coeff_in u h))) n (pos (unsigned_abs (coeff_in u l))) m) (combined u l h)
pair_derives u rows n m l h i j o k b1 b2 a1 a2 e =
    let a = unsigned_abs (coeff_in u h) in
    let b = unsigned_abs (coeff_in u l) in
    let w = room_is a b l.poly h.poly e in
    let first = times_part rows a n l i o a1 a2 (less_first a b (norm l.poly) (norm h.poly) w.norms) in
    let second = times_part rows b m h j k b1 b2 (less_second a b (norm l.poly) (norm h.poly) w.norms) in
    let both = add_bounded (times_row (pos a) n) (times_row (pos b) m) rows (at_least_0 (scaled (pos a) l.poly)) (at_least_0 (scaled (pos b) h.poly))
    (times_bounds a l.poly) (times_bounds b h.poly) first second
    (within_limits (sum_bounds (times_bounds a l.poly) (times_bounds b h.poly)) (sum_small a b (norm l.poly) (norm h.poly) w.norms) w.spreads
    (greater (degree l.poly) (degree h.poly) i.fits.degree j.fits.degree)) in
    record { means = both.means; within = both.within; sized = (factor a a1 a2, factor b b1 b2) }

with_equality : (o : Op) → sum_op o Eq ≡ o
with_equality Ge = refl
with_equality Eq = refl

pub sum_derives : (rows : List PRow) (n m : ℕ) (k : ℤ) (r p : PRow) → IsAt rows n r → IsAt rows m p → p.op ≡ Eq → k ≢ pos 0
    → IsSmall k → norm r.poly * 1 + norm p.poly * unsigned_abs k < 2 ^ 126 → spread r.poly + spread p.poly ≤ 65536
    → Derives rows (Sum n k m) (record { poly = plus r.poly (scaled k p.poly); op = r.op })
sum_derives rows n m k r p i j o z t w s =
    let c = unsigned_abs k in
    let norms : norm r.poly + unsigned_abs k * norm p.poly < 2 ^ 126 = omega (arith, turned (unsigned_abs k) (norm p.poly)) in
    let q = equality_part rows k m p j o z (less_second 1 c (norm r.poly) (norm p.poly) w) in
    let both = add_bounded (Hyp n) (times_equality k m) rows r (equal_to_0 (scaled k p.poly)) (own_bounds r.poly) (times_bounds c p.poly) (hyp_part rows n r i) q
    (within_limits (sum_bounds (own_bounds r.poly) (times_bounds c p.poly)) norms s (greater (degree r.poly) (degree p.poly) i.fits.degree j.fits.degree)) in
    derives rows (Sum n k m) (sum_row r (equal_to_0 (scaled k p.poly))) (record { poly = plus r.poly (scaled k p.poly); op = r.op })
    (sum_bounds (own_bounds r.poly) (times_bounds c p.poly)) t both
    (row_same (sum_row r (equal_to_0 (scaled k p.poly))) (record { poly = plus r.poly (scaled k p.poly); op = r.op }) refl (with_equality r.op))

sum_least : (o : Op) → sum_op o Ge ≡ Ge
sum_least Ge = refl
sum_least Eq = refl

half_part : (e : Psatz) (rows : List PRow) (r : PRow) (b : Bounds) → IsBounded e rows r b → IsPoly r.poly → are_within (sum_bounds b no_bounds) ≡ true
    → IsBounded (Add e (Square [])) rows (at_least_0 r.poly) (sum_bounds b no_bounds)
half_part e rows r b p a w =
    same_bounded (Add e (Square [])) rows (sum_row r (at_least_0 [])) (at_least_0 r.poly) (sum_bounds b no_bounds) (sum_bounds b no_bounds)
    (add_bounded e (Square []) rows r (at_least_0 []) b no_bounds p (nothing_bounded rows) w)
    (row_same (sum_row r (at_least_0 [])) (at_least_0 r.poly) (plus_nil r.poly a) (sum_least r.op)) refl

and_none : (b : Bounds) → are_within b ≡ true → are_within (sum_bounds b no_bounds) ≡ true
and_none b h = subst (λ (x : Bounds). are_within x ≡ true) (same_bounds b (sum_bounds b no_bounds) (omega arith) (omega arith) (omega arith)) h

pub half_derives : (rows : List PRow) (n : ℕ) (r : PRow) → IsAt rows n r → Derives rows (Half n) (at_least_0 r.poly)
half_derives rows n r i =
    derives rows (Half n) (at_least_0 r.poly) (at_least_0 r.poly) (sum_bounds (own_bounds r.poly) no_bounds) tt
    (half_part (Hyp n) rows r (own_bounds r.poly) (hyp_part rows n r i) i.fits.order (and_none (own_bounds r.poly) (fits_within r.poly i.fits))) refl

minus_one : negsuc 0 ≢ pos 0
minus_one e = omega (arith, ints)

pub other_half_derives : (rows : List PRow) (n : ℕ) (r : PRow) → IsAt rows n r → r.op ≡ Eq → IsPoly (scaled (negsuc 0) r.poly)
    → Derives rows (OtherHalf n) (at_least_0 (scaled (negsuc 0) r.poly))
other_half_derives rows n r i o a =
    let small : 1 * norm r.poly < 2 ^ 126 = (let h = i.fits.norm in omega arith) in
    let q = mulp_by rows (negsuc 0) n r i o minus_one small in
    derives rows (OtherHalf n) (at_least_0 (scaled (negsuc 0) r.poly)) (at_least_0 (scaled (negsuc 0) r.poly)) (sum_bounds (times_bounds 1 r.poly) no_bounds) tt
    (half_part (MulPoly (constant_of (negsuc 0)) (Hyp n)) rows (equal_to_0 (scaled (negsuc 0) r.poly)) (times_bounds 1 r.poly) q a
    (and_none (times_bounds 1 r.poly) (limits_times 1 r.poly i.fits small))) refl
