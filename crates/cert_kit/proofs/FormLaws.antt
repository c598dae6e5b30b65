-- The meaning and the bounds of each form of expression.
use Rattle.std.specs.Prelude.{◌≡◌, ℕ, ℤ, List, [], true, ◌&&◌, Some, slice_get}
use Rattle.std.proofs.Common.{ap, sym, ◌∙◌}
use Rattle.std.specs.Option.{option_map_or}
use Rattle.mm_num.specs.Option.{◌>>=◌}
use Rattle.mm_poly.specs.declared.term.Term.{Term}
use Rattle.mm_poly.specs.Poly.{times}
use Rattle.cert_kit.specs.declared.row.PRow.{PRow}
use Rattle.cert_kit.specs.declared.cert.Psatz.{Psatz}
use Rattle.cert_kit.specs.declared.cert.Psatz.TheOpen.{Psatz-F}
use Rattle.cert_kit.specs.declared.cert.Psatz.TheViews.{roll-Psatz}
use Rattle.cert_kit.specs.declared.cert.Psatz.TheVariants.{Hyp, Square, MulPoly, Mul, Add, Const, Zero, rolls-Hyp, rolls-Square, rolls-MulPoly, rolls-Mul, rolls-Add, rolls-Const, rolls-Zero}
use Rattle.cert_kit.specs.declared.cert.Psatz.TheFolds.{map-Psatz, fold-Psatz, fold-roll-Psatz}
use Rattle.cert_kit.specs.Meaning.{Meaning, meaning, meaning_step, Measuring, measure, measure_step, measure_of, own_bounds, no_bounds, product_bounds, sum_bounds, constant_bounds, product_row, sum_row, multiple_row, constant_row, at_least_0, equal_to_0}

-- a fold over an expression that is this level
pub folds : (A : Type 0) (step : Psatz-F A → A) (d : Psatz-F Psatz) (e : Psatz) → roll-Psatz d ≡ e → fold-Psatz A step e ≡ step (map-Psatz Psatz A (fold-Psatz A step) d)
folds A step d e p = ap (fold-Psatz A step) (sym p) ∙ fold-roll-Psatz A step d

means : (d : Psatz-F Psatz) (e : Psatz) → roll-Psatz d ≡ e → (rows : List PRow) → meaning e rows ≡ meaning_step (map-Psatz Psatz Meaning meaning d) rows
means d e p rows = ap (λ f. f rows) (folds Meaning meaning_step d e p)

measures : (d : Psatz-F Psatz) (e : Psatz) → roll-Psatz d ≡ e → (rows : List PRow) → measure e rows ≡ measure_step (map-Psatz Psatz Measuring measure d) rows
measures d e p rows = ap (λ f. f rows) (folds Measuring measure_step d e p)

pub hyp_means : (n : ℕ) (rows : List PRow) → meaning (Hyp n) rows ≡ slice_get rows n
hyp_means n rows = means (Psatz-F.Hyp n) (Hyp n) (rolls-Hyp n) rows

pub square_means : (p : List Term) (rows : List PRow) → meaning (Square p) rows ≡ Some (at_least_0 (times p p))
square_means p rows = means (Psatz-F.Square p) (Square p) (rolls-Square p) rows

pub mulp_means : (p : List Term) (e : Psatz) (rows : List PRow) → meaning (MulPoly p e) rows ≡ (meaning e rows >>= λ r. multiple_row p r.op r.poly)
mulp_means p e rows = means (Psatz-F.MulPoly p e) (MulPoly p e) (rolls-MulPoly p e) rows

pub mul_means : (e f : Psatz) (rows : List PRow) → meaning (Mul e f) rows ≡ (meaning e rows >>= λ r. meaning f rows >>= λ s. Some (product_row r s))
mul_means e f rows = means (Psatz-F.Mul e f) (Mul e f) (rolls-Mul e f) rows

pub add_means : (e f : Psatz) (rows : List PRow) → meaning (Add e f) rows ≡ (meaning e rows >>= λ r. meaning f rows >>= λ s. Some (sum_row r s))
add_means e f rows = means (Psatz-F.Add e f) (Add e f) (rolls-Add e f) rows

pub const_means : (c : ℤ) (rows : List PRow) → meaning (Const c) rows ≡ constant_row c
const_means c rows = means (Psatz-F.Const c) (Const c) (rolls-Const c) rows

pub zero_means : (rows : List PRow) → meaning Zero rows ≡ Some (equal_to_0 [])
zero_means rows = means Psatz-F.Zero Zero rolls-Zero rows

pub hyp_measures : (n : ℕ) (rows : List PRow) → measure (Hyp n) rows ≡ measure_of (option_map_or (λ (r : PRow). own_bounds r.poly) (slice_get rows n) no_bounds) true
hyp_measures n rows = measures (Psatz-F.Hyp n) (Hyp n) (rolls-Hyp n) rows

pub square_measures : (p : List Term) (rows : List PRow) → measure (Square p) rows ≡ measure_of (product_bounds (own_bounds p) (own_bounds p)) true
square_measures p rows = measures (Psatz-F.Square p) (Square p) (rolls-Square p) rows

pub mulp_measures : (p : List Term) (e : Psatz) (rows : List PRow) → measure (MulPoly p e) rows ≡ measure_of (product_bounds (own_bounds p) (measure e rows).bounds) (measure e rows).within
mulp_measures p e rows = measures (Psatz-F.MulPoly p e) (MulPoly p e) (rolls-MulPoly p e) rows

pub mul_measures : (e f : Psatz) (rows : List PRow) → measure (Mul e f) rows ≡ measure_of (product_bounds (measure e rows).bounds (measure f rows).bounds) ((measure e rows).within && (measure f rows).within)
mul_measures e f rows = measures (Psatz-F.Mul e f) (Mul e f) (rolls-Mul e f) rows

pub add_measures : (e f : Psatz) (rows : List PRow) → measure (Add e f) rows ≡ measure_of (sum_bounds (measure e rows).bounds (measure f rows).bounds) ((measure e rows).within && (measure f rows).within)
add_measures e f rows = measures (Psatz-F.Add e f) (Add e f) (rolls-Add e f) rows

pub const_measures : (c : ℤ) (rows : List PRow) → measure (Const c) rows ≡ measure_of (constant_bounds c) true
const_measures c rows = measures (Psatz-F.Const c) (Const c) (rolls-Const c) rows

pub zero_measures : (rows : List PRow) → measure Zero rows ≡ measure_of no_bounds true
zero_measures rows = measures Psatz-F.Zero Zero rolls-Zero rows
