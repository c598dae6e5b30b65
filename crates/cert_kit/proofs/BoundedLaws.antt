-- What expressions mean, with their bounds, form by form.
use Rattle.std.specs.Prelude.{◌≡◌, ℕ, ◌*◌, ◌^◌, ◌<◌, ◌≤◌, pos, List, [], Bool, true, ◌&&◌, nat_lt, nat_le, int_le, Option, Some, slice_get, refl}
use Rattle.std.proofs.Common.{ap, ◌∙◌, subst, sym, arith}
use Rattle.std.proofs.lemmas.Int.{ints}
use Rattle.std.proofs.lemmas.Bool.{and_from}
use Rattle.std.specs.Option.{option_map_or}
use Rattle.mm_num.specs.Option.{◌>>=◌}
use Rattle.mm_num.proofs.TestLaws.{below_test}
use Rattle.mm_poly.specs.declared.term.Term.{Term}
use Rattle.mm_poly.specs.Poly.{Fits, norm, spread, degree, times, constant_of}
use Rattle.cert_kit.specs.declared.row.Op.{Op}
use Rattle.cert_kit.specs.declared.row.Op.TheVariants.{Ge, Eq}
use Rattle.cert_kit.specs.declared.row.PRow.{PRow}
use Rattle.cert_kit.specs.declared.cert.Psatz.{Psatz}
use Rattle.cert_kit.specs.declared.cert.Psatz.TheVariants.{Hyp, Square, MulPoly, Mul, Add, Const}
use Rattle.cert_kit.specs.declared.bounds.Bounds.{Bounds}
use Rattle.cert_kit.specs.Meaning.{meaning, measure, Measure, measure_of, own_bounds, no_bounds, product_bounds, sum_bounds, constant_bounds, are_within, product_row, sum_row, multiple_row, constant_row, at_least_0, equal_to_0}
use Rattle.cert_kit.proofs.FormLaws.{hyp_means, square_means, mulp_means, mul_means, add_means, const_means, hyp_measures, square_measures, mulp_measures, mul_measures, add_measures, const_measures}

-- what an expression means, its bounds, and that each of its nodes is within the limits
pub record IsBounded (e : Psatz) (rows : List PRow) (r : PRow) (b : Bounds) : Type 0 where
  pub means : meaning e rows ≡ Some r
  pub bounds : (measure e rows).bounds ≡ b
  pub within : (measure e rows).within ≡ true

measured : (m : Measure) (c b : Bounds) (w : Bool) → m ≡ measure_of c w → c ≡ b → w ≡ true → are_within b ≡ true → (m.bounds ≡ b) × (m.within ≡ true)
measured m c b w e f g h = (
  ap (λ (x : Measure). x.bounds) e ∙ f,
  ap (λ (x : Measure). x.within) e ∙ and_from w (are_within c) g (subst (λ (x : Bounds). are_within x ≡ true) (sym f) h),
)

most_test : (m n : ℕ) → m ≤ n → nat_le m n ≡ true
most_test m n h = grind arith

pub within_limits : (b : Bounds) → b.norm < 2 ^ 126 → b.spread ≤ 65536 → b.degree ≤ 255 → are_within b ≡ true
within_limits b n s d =
    and_from (nat_lt b.norm (2 ^ 126)) (nat_le b.spread 65536 && nat_le b.degree 255) (below_test b.norm (2 ^ 126) n)
    (and_from (nat_le b.spread 65536) (nat_le b.degree 255) (most_test b.spread 65536 s) (most_test b.degree 255 d))

pub fits_within : (p : List Term) → Fits p → are_within (own_bounds p) ≡ true
fits_within p h = within_limits (own_bounds p) h.norm h.spread h.degree

pub hyp_bounded : (rows : List PRow) (n : ℕ) (r : PRow) → slice_get rows n ≡ Some r → Fits r.poly → IsBounded (Hyp n) rows r (own_bounds r.poly)
hyp_bounded rows n r here fits =
    let e = hyp_measures n rows ∙ ap (λ (o : Option PRow). measure_of (option_map_or (λ (q : PRow). own_bounds q.poly) o no_bounds) true) here in
    let m = measured (measure (Hyp n) rows) (own_bounds r.poly) (own_bounds r.poly) true e refl refl (fits_within r.poly fits) in
    record { means = hyp_means n rows ∙ here; bounds = m.0; within = m.1 }

pub from_one : (a : ℕ) → 1 ≤ a → int_le (pos 1) (pos a) ≡ true
from_one a h = grind (arith, ints)

pub constant_there : (a : ℕ) → int_le (pos 1) (pos a) ≡ true → constant_row (pos a) ≡ Some (at_least_0 (constant_of (pos a)))
constant_there a e = rw e refl

pub const_bounded : (rows : List PRow) (a : ℕ) → 1 ≤ a → a < 2 ^ 126 → IsBounded (Const (pos a)) rows (at_least_0 (constant_of (pos a))) (constant_bounds (pos a))
const_bounded rows a h l =
    let m = measured (measure (Const (pos a)) rows) (constant_bounds (pos a)) (constant_bounds (pos a)) true (const_measures (pos a) rows) refl refl
    (within_limits (constant_bounds (pos a)) l (omega arith) (omega arith)) in
    record { means = const_means (pos a) rows ∙ constant_there a (from_one a h); bounds = m.0; within = m.1 }

pub mul_bounded : (e f : Psatz) (rows : List PRow) (r s : PRow) (b c : Bounds) → IsBounded e rows r b → IsBounded f rows s c → are_within (product_bounds b c) ≡ true
    → IsBounded (Mul e f) rows (product_row r s) (product_bounds b c)
mul_bounded e f rows r s b c p q h =
    let same = ap (λ (x : Bounds). product_bounds x (measure f rows).bounds) p.bounds ∙ ap (λ (x : Bounds). product_bounds b x) q.bounds in
    let m = measured (measure (Mul e f) rows) (product_bounds (measure e rows).bounds (measure f rows).bounds) (product_bounds b c) ((measure e rows).within && (measure f rows).within)
    (mul_measures e f rows) same (and_from (measure e rows).within (measure f rows).within p.within q.within) h in
    record {
      means = mul_means e f rows ∙ ap (λ (o : Option PRow). o >>= λ a. meaning f rows >>= λ d. Some (product_row a d)) p.means
          ∙ ap (λ (o : Option PRow). o >>= λ d. Some (product_row r d)) q.means;
      bounds = m.0;
      within = m.1;
    }

pub add_bounded : (e f : Psatz) (rows : List PRow) (r s : PRow) (b c : Bounds) → IsBounded e rows r b → IsBounded f rows s c → are_within (sum_bounds b c) ≡ true
    → IsBounded (Add e f) rows (sum_row r s) (sum_bounds b c)
add_bounded e f rows r s b c p q h =
    let same = ap (λ (x : Bounds). sum_bounds x (measure f rows).bounds) p.bounds ∙ ap (λ (x : Bounds). sum_bounds b x) q.bounds in
    let m = measured (measure (Add e f) rows) (sum_bounds (measure e rows).bounds (measure f rows).bounds) (sum_bounds b c) ((measure e rows).within && (measure f rows).within)
    (add_measures e f rows) same (and_from (measure e rows).within (measure f rows).within p.within q.within) h in
    record {
      means = add_means e f rows ∙ ap (λ (o : Option PRow). o >>= λ a. meaning f rows >>= λ d. Some (sum_row a d)) p.means
          ∙ ap (λ (o : Option PRow). o >>= λ d. Some (sum_row r d)) q.means;
      bounds = m.0;
      within = m.1;
    }

equality_times : (k : List Term) (o : Op) (p : List Term) → o ≡ Eq → multiple_row k o p ≡ Some (equal_to_0 (times k p))
equality_times k Eq p e = refl
equality_times k Ge p e = absurd cc

pub mulp_bounded : (k : List Term) (e : Psatz) (rows : List PRow) (r : PRow) (b : Bounds) → IsBounded e rows r b → r.op ≡ Eq → are_within (product_bounds (own_bounds k) b) ≡ true
    → IsBounded (MulPoly k e) rows (equal_to_0 (times k r.poly)) (product_bounds (own_bounds k) b)
mulp_bounded k e rows r b p o h =
    let m = measured (measure (MulPoly k e) rows) (product_bounds (own_bounds k) (measure e rows).bounds) (product_bounds (own_bounds k) b) (measure e rows).within
    (mulp_measures k e rows) (ap (λ (x : Bounds). product_bounds (own_bounds k) x) p.bounds) p.within h in
    record {
      means = mulp_means k e rows ∙ ap (λ (o : Option PRow). o >>= λ q. multiple_row k q.op q.poly) p.means ∙ equality_times k r.op r.poly o;
      bounds = m.0;
      within = m.1;
    }

-- multiples

abbrev pub times_bounds : ℕ → List Term → Bounds
times_bounds a p = record { norm = a * norm p; spread = spread p; degree = degree p }

pub same_bounds : (b c : Bounds) → b.norm ≡ c.norm → b.spread ≡ c.spread → b.degree ≡ c.degree → b ≡ c
same_bounds b c n s d =
    ap (λ k. let x : Bounds = record { norm = k; spread = b.spread; degree = b.degree } in x) n
    ∙ ap (λ k. let x : Bounds = record { norm = c.norm; spread = k; degree = b.degree } in x) s
    ∙ ap (λ k. let x : Bounds = record { norm = c.norm; spread = c.spread; degree = k } in x) d

pub same_bounded : (e : Psatz) (rows : List PRow) (r s : PRow) (b c : Bounds) → IsBounded e rows r b → r ≡ s → b ≡ c → IsBounded e rows s c
same_bounded e rows r s b c p f g = subst (λ (x : Bounds). IsBounded e rows s x) g (subst (λ (q : PRow). IsBounded e rows q b) f p)

-- a square of nothing, by which an equality becomes an inequality
pub nothing_bounded : (rows : List PRow) → IsBounded (Square []) rows (at_least_0 []) no_bounds
nothing_bounded rows =
    let m = measured (measure (Square []) rows) (product_bounds (own_bounds []) (own_bounds [])) no_bounds true (square_measures [] rows) refl refl refl in
    record { means = square_means [] rows; bounds = m.0; within = m.1 }
