-- A walk through an expression ends without fault exactly where the expression means a row and each of its nodes is
-- within its bounds.
use Rattle.std.specs.Prelude.{◌≡◌, List, [], Bool, true, false, cond, ◌&&◌, refl, Option, Some, None, Result, Ok, Err, slice_get}
use Rattle.std.proofs.Common.{ap, subst}
use Rattle.std.specs.Option.{option_map_or}
use Rattle.mm_num.specs.Result.{◌>>=◌ as ◌>>>◌}
use Rattle.mm_num.specs.Option.{◌>>=◌}
use Rattle.mm_poly.specs.Poly.{times}
use Rattle.cert_kit.specs.declared.node.Fault.{Fault}
use Rattle.cert_kit.specs.declared.node.Fault.TheVariants.{Rule, Bound}
use Rattle.cert_kit.specs.declared.node.Node.{Node}
use Rattle.cert_kit.specs.declared.row.PRow.{PRow}
use Rattle.cert_kit.specs.declared.cert.Psatz.{Psatz}
use Rattle.cert_kit.specs.declared.cert.Psatz.TheOpen.{Psatz-F}
use Rattle.cert_kit.specs.declared.cert.Psatz.TheViews.{roll-Psatz}
use Rattle.cert_kit.specs.declared.cert.Psatz.TheFolds.{map-Psatz, fold-roll-Psatz, ind-Psatz}
use Rattle.cert_kit.specs.declared.bounds.Bounds.{Bounds}
use Rattle.cert_kit.specs.Meaning.{Meaning, meaning, meaning_step, Measure, Measuring, measure, measure_step, measure_of, own_bounds, no_bounds, constant_bounds, product_bounds, sum_bounds, are_within, product_row, sum_row, multiple_row, constant_row, at_least_0, equal_to_0}
use Rattle.cert_kit.specs.FirstFault.{Walk, walk, walk_step, node_of, bounds_of, tested, tested_rule, row_at}

-- a fault of a rule: there is no row; a fault of a bound: some node isn't within its own
abbrev pub FailsBy : {A : Type 0} → Fault → Option A → Bool → Type 0
FailsBy Rule o w = o ≡ None
FailsBy Bound o w = w ≡ false

-- what a walk ends with is what the expression means and measures
abbrev pub Agrees : Result Node Fault → Option PRow → Measure → Type 0
Agrees (Ok n) m k = (m ≡ Some n.row) × (k ≡ record { bounds = bounds_of n; within = true })
Agrees (Err f) m k = FailsBy f m k.within

tested_agrees : (r : PRow) (b : Bounds) → Agrees (tested r b) (Some r) (measure_of b true)
tested_agrees r b = by_test (are_within b)
  where
    by_test : (t : Bool) → Agrees (cond t (Ok (node_of r b)) (Err Bound)) (Some r) (record { bounds = b; within = true && t })
    by_test true = (refl, refl)
    by_test false = refl

rule_agrees : (o : Option PRow) (b : Bounds) → Agrees (tested_rule o b) o (measure_of b true)
rule_agrees None b = refl
rule_agrees (Some r) b = tested_agrees r b

row_agrees : (o : Option PRow) → Agrees (row_at o) o (measure_of (option_map_or (λ (r : PRow). own_bounds r.poly) o no_bounds) true)
row_agrees None = refl
row_agrees (Some r) = tested_agrees r (own_bounds r.poly)

-- two parts that agree, and what is made of them
pair_agrees : (row : PRow → PRow → PRow) (bound : Bounds → Bounds → Bounds) (v w : Result Node Fault) (m n : Option PRow) (j k : Measure)
    → Agrees v m j → Agrees w n k
    → Agrees (v >>> λ a. w >>> λ b. tested (row a.row b.row) (bound (bounds_of a) (bounds_of b)))
    (m >>= λ r. n >>= λ s. Some (row r s)) (measure_of (bound j.bounds k.bounds) (j.within && k.within))
pair_agrees row bound (Ok a) (Ok b) m n j k h i = rw (h.0, h.1, i.0, i.1) (tested_agrees (row a.row b.row) (bound (bounds_of a) (bounds_of b)))
pair_agrees row bound (Err Rule) w m n j k h i = rw h refl
pair_agrees row bound (Err Bound) w m n j k h i = rw h refl
pair_agrees row bound (Ok a) (Err Rule) m n j k h i = rw (h.0, i) refl
pair_agrees row bound (Ok a) (Err Bound) m n j k h i = rw (h.1, i) refl

-- one part that agrees, and a rule on what it means
part_agrees : (rule : PRow → Option PRow) (bound : Bounds → Bounds) (v : Result Node Fault) (m : Option PRow) (j : Measure)
    → Agrees v m j → Agrees (v >>> λ a. tested_rule (rule a.row) (bound (bounds_of a))) (m >>= rule) (measure_of (bound j.bounds) j.within)
part_agrees rule bound (Ok a) m j h = rw (h.0, h.1) (rule_agrees (rule a.row) (bound (bounds_of a)))
part_agrees rule bound (Err Rule) m j h = rw h refl
part_agrees rule bound (Err Bound) m j h = rw h refl

abbrev pub WalkAgrees : Psatz → Type 0
WalkAgrees e = (rows : List PRow) → Agrees (walk e rows) (meaning e rows) (measure e rows)

abbrev Known : Type 0
Known = (e : Psatz) × WalkAgrees e

abbrev parts_of : Psatz-F Known → Psatz-F Psatz
parts_of y = map-Psatz Known Psatz (λ p. p.0) y

level : (y : Psatz-F Known) (rows : List PRow)
    → Agrees (walk_step (map-Psatz Psatz Walk walk (parts_of y)) rows) (meaning_step (map-Psatz Psatz Meaning meaning (parts_of y)) rows)
    (measure_step (map-Psatz Psatz Measuring measure (parts_of y)) rows)
level (Psatz-F.Hyp n) rows = row_agrees (slice_get rows n)
level (Psatz-F.Square p) rows = tested_agrees (at_least_0 (times p p)) (product_bounds (own_bounds p) (own_bounds p))
level (Psatz-F.MulPoly p a) rows = part_agrees (λ r. multiple_row p r.op r.poly) (λ b. product_bounds (own_bounds p) b) _ _ _ (a.1 rows)
level (Psatz-F.Mul a b) rows = pair_agrees product_row product_bounds _ _ _ _ _ _ (a.1 rows) (b.1 rows)
level (Psatz-F.Add a b) rows = pair_agrees sum_row sum_bounds _ _ _ _ _ _ (a.1 rows) (b.1 rows)
level (Psatz-F.Const c) rows = rule_agrees (constant_row c) (constant_bounds c)
level Psatz-F.Zero rows = tested_agrees (equal_to_0 []) no_bounds

-- the walk agrees with the meaning and the measure of each expression
pub walk_agrees : (e : Psatz) → WalkAgrees e
walk_agrees = ind-Psatz WalkAgrees (λ d y q. subst (λ (z : Psatz-F Psatz). WalkAgrees (roll-Psatz z)) q (step y))
  where
    step : (y : Psatz-F Known) → WalkAgrees (roll-Psatz (parts_of y))
    step y rows =
        let w = ap (λ f. f rows) (fold-roll-Psatz Walk walk_step (parts_of y)) in
        let m = ap (λ f. f rows) (fold-roll-Psatz Meaning meaning_step (parts_of y)) in
        let k = ap (λ f. f rows) (fold-roll-Psatz Measuring measure_step (parts_of y)) in
        rw (w, m, k) (level y rows)
