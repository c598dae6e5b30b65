-- How the expression of a combination is made of those of its parts.
use Rattle.std.specs.Prelude.{◌≡◌, ◌≢◌, ℕ, zero, suc, ◌+◌, ◌^◌, ◌<◌, ◌≤◌, max, ℤ, pos, negsuc, ◌*ℤ◌, ◌≤ℤ◌, unsigned_abs, List, [], ◌∷◌, ◌++◌, length, Bool, true, false, ◌||◌, nat_lt, int_le, Option, Some, None, slice_get, if◌then◌else◌, refl}
use Rattle.std.proofs.Common.{ap, sym, ◌∙◌, arith, length-append, append-nil, add-zero}
use Rattle.std.proofs.lemmas.Int.{ints}
use Rattle.std.proofs.lemmas.Bool.{and_from}
use Rattle.std.specs.Ordering.{int_eq}
use Rattle.mm_num.proofs.TestLaws.{below_test, is_int}
use Rattle.mm_num.proofs.BoolLaws.{contrary}
use Rattle.mm_poly.specs.declared.term.Term.{Term}
use Rattle.mm_poly.specs.Poly.{IsPoly, plus, scaled, constant_of}
use Rattle.mm_poly.proofs.CaseLaws.{by_if, by_coeff}
use Rattle.mm_poly.proofs.ValueLaws.{zero_mul}
use Rattle.mm_poly.proofs.PolyLaws.{poly_scaled}
use Rattle.mm_poly.proofs.SumLaws.{plus_nil}
use Rattle.cert_kit.specs.declared.row.Op.{Op}
use Rattle.cert_kit.specs.declared.row.Op.TheVariants.{Ge, Eq}
use Rattle.cert_kit.specs.declared.row.PRow.{PRow}
use Rattle.cert_kit.specs.declared.cert.Psatz.{Psatz}
use Rattle.cert_kit.specs.declared.cert.Psatz.TheOpen.{Psatz-F}
use Rattle.cert_kit.specs.declared.cert.Psatz.TheViews.{roll-Psatz}
use Rattle.cert_kit.specs.declared.cert.Psatz.TheVariants.{Hyp, MulPoly, Mul, Add, Const, rolls-Hyp, rolls-MulPoly, rolls-Mul, rolls-Add, rolls-Const}
use Rattle.cert_kit.specs.declared.cert.Psatz.TheFolds.{map-Psatz}
use Rattle.cert_kit.specs.declared.bounds.Bounds.{Bounds}
use Rattle.cert_kit.specs.Row.{has_no_terms}
use Rattle.cert_kit.specs.Meaning.{measure, sum_bounds, sum_op}
use Rattle.cert_kit.specs.Depth.{psatz_level, psatz_depth, psatz_in_range, has_constants_in_range, is_constant_in_range}
use Rattle.cert_kit.specs.Making.{numbers_step, numbers_of}
use Rattle.cert_kit.proofs.FormLaws.{folds}
use Rattle.cert_kit.proofs.BoundedLaws.{IsBounded, within_limits, from_one, add_bounded}
use Rattle.cert_kit.proofs.FlatLaws.{IsFlat, flat_hyp, flat_const, flat_mulp, flat_mul, flat_add}
use Rattle.farkas_rows.specs.Combining.{combined, IsMultiplier, norms, spreads, is_nothing, rows_used}
use Rattle.farkas_rows.specs.machine.Parts.{CanCombine, product_by, times_row, multiple_of, sum_of, StandFrom, IsPart, IsShallow, IsCombination}
use Rattle.farkas_rows.proofs.FormBoundLaws.{times_bounded}
use Rattle.farkas_rows.proofs.CombinedLaws.{poly_combined, combined_parts, norms_parts, spreads_parts, used_parts, can_parts}

-- 0 times a polynomial
scaled_zero : (p : List Term) → scaled (pos 0) p ≡ []
scaled_zero [] = refl
scaled_zero (t ∷ ts) = by_coeff (pos 0 *ℤ t.coeff) t.mono (scaled (pos 0) ts) (λ r. r ≡ []) (λ e. scaled_zero ts) (λ n. absurd (n (zero_mul t.coeff)))

no_terms_is : (p : List Term) → has_no_terms p ≡ true → p ≡ []
no_terms_is [] h = refl
no_terms_is (t ∷ ts) h = absurd cc

-- a multiple that is left out is 0
nothing_is : (m : ℤ) (r : PRow) → is_nothing m r ≡ true → scaled m r.poly ≡ []
nothing_is m r h = by_zero (int_eq m (pos 0)) refl h
  where
    by_zero : (b : Bool) → int_eq m (pos 0) ≡ b → (b || has_no_terms r.poly) ≡ true → scaled m r.poly ≡ []
    by_zero true e h = ap (λ k. scaled k r.poly) (is_int m (pos 0) e) ∙ scaled_zero r.poly
    by_zero false e h = ap (λ (p : List Term). scaled m p) (no_terms_is r.poly h)

-- and one that isn't left out isn't by 0
something_is : (m : ℤ) (r : PRow) → is_nothing m r ≡ false → m ≢ pos 0
something_is m r h e = contrary (is_nothing m r) (ap (λ k. int_eq k (pos 0) || has_no_terms r.poly) e) h

-- depths and constants

in_range : (m : ℤ) → pos 0 ≤ℤ m → m ≢ pos 0 → unsigned_abs m < 2 ^ 126 → is_constant_in_range m ≡ true
in_range (pos zero) s z l = absurd (z refl)
in_range (pos (suc a)) s z l = and_from (int_le (pos 1) (pos (suc a))) (nat_lt (suc a) (2 ^ 126)) (from_one (suc a) (omega arith)) (below_test (suc a) (2 ^ 126) l)
in_range (negsuc a) s z l = absurd (omega (arith, ints, s))

flat_product : (m : ℤ) (n : ℕ) (o : Op) → IsMultiplier o m → m ≢ pos 0 → unsigned_abs m < 2 ^ 126 → IsFlat 1 (product_by m n o)
flat_product m n Ge s z l = flat_mul (Const m) (Hyp n) 0 (flat_const m (in_range m s z l)) (flat_hyp n 0)
flat_product m n Eq s z l = flat_mulp (constant_of m) (Hyp n) 0 (flat_hyp n 0)

flat_times : (m : ℤ) (n : ℕ) (o : Op) → IsMultiplier o m → m ≢ pos 0 → unsigned_abs m < 2 ^ 126 → IsFlat 1 (times_row m n o)
flat_times m n o s z l = by_if (int_eq m (pos 1)) (Hyp n) (product_by m n o) (IsFlat 1) (λ e. flat_hyp n 1) (λ e. flat_product m n o s z l)

-- the rows that are named

named_at : (d : Psatz-F Psatz) (e : Psatz) → roll-Psatz d ≡ e → numbers_of e ≡ numbers_step (map-Psatz Psatz (List ℕ) numbers_of d)
named_at d e p = folds (List ℕ) numbers_step d e p

hyp_names : (n : ℕ) → numbers_of (Hyp n) ≡ n ∷ []
hyp_names n = named_at (Psatz-F.Hyp n) (Hyp n) (rolls-Hyp n)

add_names : (d e : Psatz) → numbers_of (Add d e) ≡ numbers_of d ++ numbers_of e
add_names d e = named_at (Psatz-F.Add d e) (Add d e) (rolls-Add d e)

product_names : (m : ℤ) (n : ℕ) (o : Op) → numbers_of (product_by m n o) ≡ n ∷ []
product_names m n Ge =
    named_at (Psatz-F.Mul (Const m) (Hyp n)) (Mul (Const m) (Hyp n)) (rolls-Mul (Const m) (Hyp n))
    ∙ ap (λ (q : List ℕ). q ++ numbers_of (Hyp n)) (named_at (Psatz-F.Const m) (Const m) (rolls-Const m))
    ∙ hyp_names n
product_names m n Eq =
    named_at (Psatz-F.MulPoly (constant_of m) (Hyp n)) (MulPoly (constant_of m) (Hyp n)) (rolls-MulPoly (constant_of m) (Hyp n))
    ∙ hyp_names n

times_names : (m : ℤ) (n : ℕ) (o : Op) → numbers_of (times_row m n o) ≡ n ∷ []
times_names m n o = by_if (int_eq m (pos 1)) (Hyp n) (product_by m n o) (λ e. numbers_of e ≡ n ∷ []) (λ e. hyp_names n) (λ e. product_names m n o)

-- one row

alone : (a b : ℕ) → a + 0 ≡ b → a ≤ b
alone a b e = omega arith

one_part : (n : ℕ) (r : PRow) (m : ℤ) → CanCombine (r ∷ []) (m ∷ []) → m ≢ pos 0 → (all : List PRow) → StandFrom n (r ∷ []) all → IsPart all (r ∷ []) (m ∷ []) (times_row m n r.op)
one_part n r m h z all s =
    let here : slice_get all n ≡ Some r = ap (slice_get all) (sym (add-zero n)) ∙ s 0 (omega arith) in
    let fits = h.fits.0 in
    let w = h.room.norm in
    let b = times_bounded all m n r here fits h.signs.0 z h.small.0 (omega (arith, w)) in
    let sum : scaled m r.poly ≡ plus (scaled m r.poly) [] = sym (plus_nil (scaled m r.poly) (poly_scaled m r.poly fits.order)) in
    record {
      op = r.op;
      means = b.means ∙ ap (λ (p : List Term). let q : PRow = record { poly = p; op = r.op } in Some q) sum;
      norm = (let e = ap (λ (x : Bounds). x.norm) b.bounds in omega (arith, e));
      spread = (let e = ap (λ (x : Bounds). x.spread) b.bounds in omega (arith, e));
      degree = (let e = ap (λ (x : Bounds). x.degree) b.bounds in let f = fits.degree in omega (arith, e, f));
      within = b.within;
    }

pub multiple_is : (n : ℕ) (r : PRow) (m : ℤ) → CanCombine (r ∷ []) (m ∷ []) → IsCombination n (r ∷ []) (m ∷ []) (multiple_of m n r)
multiple_is n r m h = by_if (is_nothing m r) None (Some (times_row m n r.op)) (IsCombination n (r ∷ []) (m ∷ []))
    (λ e. record { sum = ap (λ (p : List Term). plus p []) (nothing_is m r e); names = ap (λ b. if b then [] else n ∷ []) e })
    (λ e.
    let z = something_is m r e in
    let flat = flat_times m n r.op h.signs.0 z h.small.0 in
    record {
      part = one_part n r m h z;
      names = times_names m n r.op ∙ sym (ap (λ b. if b then [] else n ∷ []) e);
      shallow = record { depth = λ k l. (let d = flat.depth in omega (arith, d)); constants = flat.constants };
    })

-- two parts

-- the rows are in halves
pub record AreHalves (rows more : List PRow) (ms ns : List ℤ) : Type 0 where
  pub count : length ms ≡ length rows
  pub least : length rows ≤ length more
  pub most : length more ≤ length rows + 1
  pub some : 1 ≤ length rows

get_front : (rows more : List PRow) (i : ℕ) → i < length rows → slice_get (rows ++ more) i ≡ slice_get rows i
get_front [] more i h = absurd (omega arith)
get_front (r ∷ rows) more zero h = refl
get_front (r ∷ rows) more (suc i) h = get_front rows more i (omega arith)

get_back : (rows more : List PRow) (i : ℕ) → slice_get (rows ++ more) (length rows + i) ≡ slice_get more i
get_back [] more i = ap (slice_get more) (omega arith)
get_back (r ∷ rows) more i =
    let e : suc (length rows) + i ≡ suc (length rows + i) = omega arith in
    ap (slice_get (r ∷ rows ++ more)) e ∙ get_back rows more i

front_stands : (n : ℕ) (rows more all : List PRow) → StandFrom n (rows ++ more) all → StandFrom n rows all
front_stands n rows more all s i h = let l = length-append rows more in s i (omega (arith, l, h)) ∙ get_front rows more i h

back_stands : (n : ℕ) (rows more all : List PRow) → StandFrom n (rows ++ more) all → StandFrom (n + length rows) more all
back_stands n rows more all s i h =
    let l = length-append rows more in
    let e : n + length rows + i ≡ n + (length rows + i) = omega arith in
    ap (slice_get all) e ∙ s (length rows + i) (omega (arith, l, h)) ∙ get_back rows more i

-- a part stays one where the sums are at least as great
wider_part : (all rows more : List PRow) (ms ns : List ℤ) (e : Psatz) → IsPart all rows ms e → combined ms rows ≡ combined ns more → norms ms rows ≤ norms ns more → spreads rows ≤ spreads more
    → IsPart all more ns e
wider_part all rows more ms ns e p c n s = record {
  op = p.op;
  means = p.means ∙ ap (λ (q : List Term). let r : PRow = record { poly = q; op = p.op } in Some r) c;
  norm = (let h = p.norm in omega (arith, h, n));
  spread = (let h = p.spread in omega (arith, h, s));
  degree = p.degree;
  within = p.within;
}

wider_shallow : (rows more : List PRow) (e : Psatz) → IsShallow rows e → length rows ≤ length more → IsShallow more e
wider_shallow rows more e s l = record { depth = λ h k. s.depth h (omega (arith, l, k)); constants = s.constants }

sum_part : (all rows more : List PRow) (ms ns : List ℤ) (d e : Psatz) → IsPart all rows ms d → IsPart all more ns e → CanCombine (rows ++ more) (ms ++ ns) → length ms ≡ length rows
    → combined (ms ++ ns) (rows ++ more) ≡ plus (combined ms rows) (combined ns more) → IsPart all (rows ++ more) (ms ++ ns) (Add d e)
sum_part all rows more ms ns d e p q h l c =
    let a = (measure d all).bounds in
    let b = (measure e all).bounds in
    let n = norms_parts ms ns rows more l in
    let s = spreads_parts rows more in
    let norm_sum : a.norm + b.norm ≤ norms (ms ++ ns) (rows ++ more) = (let x = p.norm in let y = q.norm in omega (arith, x, y, n)) in
    let spread_sum : a.spread + b.spread ≤ spreads (rows ++ more) = (let x = p.spread in let y = q.spread in omega (arith, x, y, s)) in
    let degree_sum : max a.degree b.degree ≤ 255 = greater a.degree b.degree p.degree q.degree in
    let within = within_limits (sum_bounds a b) (let x = h.room.norm in omega (arith, x, norm_sum)) (let x = h.room.spread in omega (arith, x, spread_sum)) degree_sum in
    let left : IsBounded d all (record { poly = combined ms rows; op = p.op }) a = record { means = p.means; bounds = refl; within = p.within } in
    let right : IsBounded e all (record { poly = combined ns more; op = q.op }) b = record { means = q.means; bounds = refl; within = q.within } in
    let both = add_bounded d e all (record { poly = combined ms rows; op = p.op }) (record { poly = combined ns more; op = q.op }) a b left right within in
    record {
      op = sum_op p.op q.op;
      means = both.means ∙ ap (λ (k : List Term). let r : PRow = record { poly = k; op = sum_op p.op q.op } in Some r) (sym c);
      norm = (let x = ap (λ (x : Bounds). x.norm) both.bounds in omega (arith, x, norm_sum));
      spread = (let x = ap (λ (x : Bounds). x.spread) both.bounds in omega (arith, x, spread_sum));
      degree = (let x = ap (λ (x : Bounds). x.degree) both.bounds in omega (arith, x, degree_sum));
      within = both.within;
    }
  where
    greater : (a b : ℕ) → a ≤ 255 → b ≤ 255 → max a b ≤ 255
    greater a b h k = omega arith

sum_shallow : (rows more : List PRow) (ms ns : List ℤ) (d e : Psatz) → AreHalves rows more ms ns → IsShallow rows d → IsShallow more e → IsShallow (rows ++ more) (Add d e)
sum_shallow rows more ms ns d e h s t = record {
  depth = by_height;
  constants = (flat_add d e (psatz_depth d + psatz_depth e) (record { depth = omega arith; constants = s.constants }) (record { depth = omega arith; constants = t.constants })).constants;
}
  where
    twice : (k : ℕ) → 2 ^ suc k ≡ 2 ^ k + 2 ^ k
    twice k = omega arith

    by_height : (k : ℕ) → length (rows ++ more) ≤ 2 ^ k → psatz_depth (Add d e) ≤ k + 1
    by_height zero l = let a = length-append rows more in let b = h.some in let c = h.least in absurd (omega (arith, a, b, c, l))
    by_height (suc k) l =
        let a = length-append rows more in
        let b = h.least in
        let c = h.most in
        let w = twice k in
        let left = s.depth k (omega (arith, a, b, l, w)) in
        let right = t.depth k (omega (arith, a, c, l, w)) in
        let f = flat_add d e (k + 1) (record { depth = left; constants = s.constants }) (record { depth = right; constants = t.constants }) in
        let g = f.depth in
        omega (arith, g)

nothing_more : (p : List Term) (q r : List Term) → IsPoly p → q ≡ [] → r ≡ plus p q → r ≡ p
nothing_more p q r a e f = f ∙ ap (λ (k : List Term). plus p k) e ∙ plus_nil p a

nothing_before : (p q r : List Term) → p ≡ [] → r ≡ plus p q → r ≡ q
nothing_before p q r e f = f ∙ ap (λ (k : List Term). plus k q) e

pub sum_is : (n : ℕ) (rows more : List PRow) (ms ns : List ℤ) (d e : Option Psatz) → CanCombine (rows ++ more) (ms ++ ns) → AreHalves rows more ms ns
    → IsCombination n rows ms d → IsCombination (n + length rows) more ns e → IsCombination n (rows ++ more) (ms ++ ns) (sum_of d e)
sum_is n rows more ms ns d e h a p q = by_parts d e p q
  where
    can : CanCombine rows ms × CanCombine more ns
    can = can_parts ms ns rows more a.count h

    whole : combined (ms ++ ns) (rows ++ more) ≡ plus (combined ms rows) (combined ns more)
    whole = combined_parts ms ns rows more a.count can.0.fits can.1.fits

    norm_sum : norms (ms ++ ns) (rows ++ more) ≡ norms ms rows + norms ns more
    norm_sum = norms_parts ms ns rows more a.count

    spread_sum : spreads (rows ++ more) ≡ spreads rows + spreads more
    spread_sum = spreads_parts rows more

    count : length (rows ++ more) ≡ length rows + length more
    count = length-append rows more

    names : (a b : List ℕ) → rows_used n ms rows ≡ a → rows_used (n + length rows) ns more ≡ b → rows_used n (ms ++ ns) (rows ++ more) ≡ a ++ b
    names x y e f = used_parts n ms ns rows more a.count ∙ ap (λ (q : List ℕ). q ++ rows_used (n + length rows) ns more) e ∙ ap (λ (q : List ℕ). x ++ q) f

    by_parts : (d e : Option Psatz) → IsCombination n rows ms d → IsCombination (n + length rows) more ns e → IsCombination n (rows ++ more) (ms ++ ns) (sum_of d e)
    by_parts None None p q = record {
      sum = nothing_before (combined ms rows) (combined ns more) (combined (ms ++ ns) (rows ++ more)) p.sum whole ∙ q.sum;
      names = names _ _ p.names q.names;
    }
    by_parts None (Some e) p q = record {
      part = λ all s. wider_part all more (rows ++ more) ns (ms ++ ns) e (q.part all (back_stands n rows more all s))
          (sym (nothing_before (combined ms rows) (combined ns more) (combined (ms ++ ns) (rows ++ more)) p.sum whole)) (omega (arith, norm_sum)) (omega (arith, spread_sum));
      names = sym (names _ _ p.names (sym q.names));
      shallow = wider_shallow more (rows ++ more) e q.shallow (omega (arith, count));
    }
    by_parts (Some d) None p q = record {
      part = λ all s. wider_part all rows (rows ++ more) ms (ms ++ ns) d (p.part all (front_stands n rows more all s))
          (sym (nothing_more (combined ms rows) (combined ns more) (combined (ms ++ ns) (rows ++ more)) (poly_combined ms rows can.0.fits) q.sum whole)) (omega (arith, norm_sum)) (omega (arith, spread_sum));
      names = sym (names _ _ (sym p.names) q.names ∙ append-nil (numbers_of d));
      shallow = wider_shallow rows (rows ++ more) d p.shallow (omega (arith, count));
    }
    by_parts (Some d) (Some e) p q = record {
      part = λ all s. sum_part all rows more ms ns d e (p.part all (front_stands n rows more all s)) (q.part all (back_stands n rows more all s)) h a.count whole;
      names = add_names d e ∙ sym (names _ _ (sym p.names) (sym q.names));
      shallow = sum_shallow rows more ms ns d e a p.shallow q.shallow;
    }
