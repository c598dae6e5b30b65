-- When the rules accept a certificate over a list of rows, and when it is good.
use Rattle.std.specs.Prelude.{◌≡◌, ℕ, ◌+◌, ◌-◌, ℤ, pos, negsuc, ◌+ℤ◌, ◌-ℤ◌, neg_ℤ, List, [], ◌∷◌, ◌++◌, length, Bool, true, false, ◌&&◌, ◌==◌, Option, Some, None, slice_get, if◌then◌else◌}
use Rattle.std.specs.Option.{option_map_or}
use Rattle.mm_num.specs.Option.{◌>>=◌}
use Rattle.mm_poly.specs.declared.term.Term.{Term}
use Rattle.mm_poly.specs.Poly.{norm, spread, degree, plus, scaled, constant_of, constant_part, without_constant, is_opposite}
use Rattle.cert_kit.specs.declared.row.Op.{Op}
use Rattle.cert_kit.specs.declared.row.Op.TheVariants.{Ge, Eq}
use Rattle.cert_kit.specs.declared.row.PRow.{PRow}
use Rattle.cert_kit.specs.declared.cert.Psatz.{Psatz}
use Rattle.cert_kit.specs.declared.cert.Step.{Step}
use Rattle.cert_kit.specs.declared.cert.Step.TheVariants.{Rat, Cut}
use Rattle.cert_kit.specs.declared.cert.Cert.{Cert}
use Rattle.cert_kit.specs.declared.cert.Close.TheOpen.{Close-F, Cert-F}
use Rattle.cert_kit.specs.declared.cert.Close.TheFolds.{fold-Cert}
use Rattle.cert_kit.specs.Row.{is_false}
use Rattle.cert_kit.specs.Cut.{cut_of}
use Rattle.cert_kit.specs.declared.bounds.Bounds.{Bounds}
use Rattle.cert_kit.specs.Meaning.{meaning, measure, own_bounds, are_within, at_least_0, equal_to_0}

-- the rows with one more
abbrev pub with_row : List PRow → PRow → List PRow
with_row rows r = rows ++ r ∷ []

-- the row that a step appends
abbrev pub step_row : Step → List PRow → Option PRow
step_row (Rat e) rows = meaning e rows
step_row (Cut e) rows = do
  r ← meaning e rows
  Some (cut_of r)

-- the rows after the steps, where each of them has a meaning
abbrev pub rows_after : List Step → List PRow → Option (List PRow)
rows_after [] rows = Some rows
rows_after (s ∷ steps) rows = do
  r ← step_row s rows
  rows_after steps (with_row rows r)

-- whether there is a last row, and it is constant and false
abbrev pub ends_false : List PRow → Bool
ends_false rows = option_map_or is_false (slice_get rows (length rows - 1)) false

-- -p - 1
abbrev pub below_0 : List Term → List Term
below_0 p = plus (scaled (negsuc 0) p) (constant_of (negsuc 0))

-- a polynomial without constant term, and the least and the greatest value that it is said to have
pub record Range : Type 0 where
  pub poly : List Term
  pub low : ℤ
  pub high : ℤ

-- two inequalities whose cuts are q - low >= 0 and -q + high >= 0
abbrev pub range_between : List Term → List Term → Option Range
range_between lower upper = if is_opposite (without_constant lower) (without_constant upper)
    then Some (record { poly = without_constant lower; low = neg_ℤ (constant_part lower); high = constant_part upper })
    else None

abbrev pub range_by : Op → Op → PRow → PRow → Option Range
range_by Ge Ge r s = range_between (cut_of r).poly (cut_of s).poly
range_by Ge Eq r s = None
range_by Eq o r s = None

abbrev pub range_of : PRow → PRow → Option Range
range_of r s = range_by r.op s.op r s

-- how many values there are from the least to the greatest
abbrev pub not_below_0 : ℤ → ℕ
not_below_0 (pos n) = n
not_below_0 (negsuc n) = 0

abbrev pub values_of : Range → ℕ
values_of r = not_below_0 ((r.high -ℤ r.low) +ℤ pos 1)

-- q - v = 0
abbrev pub value_row : List Term → ℤ → PRow
value_row q v = equal_to_0 (plus q (constant_of (neg_ℤ v)))

abbrev pub Accepting : Type 0
Accepting = List PRow → Bool

-- the member for each value, from v on, is accepted with q - v = 0 appended
abbrev pub all_accept : List Term → ℤ → List Accepting → Accepting
all_accept q v [] rows = true
all_accept q v (c ∷ cs) rows = c (with_row rows (value_row q v)) && all_accept q (v +ℤ pos 1) cs rows

abbrev pub accepts_range : List Accepting → List PRow → Range → Bool
accepts_range cs rows r = (length cs == values_of r) && all_accept r.poly r.low cs rows

-- the range that the two expressions of an enumeration give
abbrev pub enum_range : Psatz → Psatz → List PRow → Option Range
enum_range e f rows = do
  r ← meaning e rows
  s ← meaning f rows
  range_of r s

abbrev pub accepting_close : Close-F Accepting Accepting → Accepting
accepting_close Close-F.Done rows = ends_false rows
accepting_close (Close-F.Split p c d) rows = c (with_row rows (at_least_0 p)) && d (with_row rows (at_least_0 (below_0 p)))
accepting_close (Close-F.Enum b cs) rows = option_map_or (accepts_range cs rows) (enum_range b.lower b.upper rows) false

abbrev pub accepting_cert : Cert-F Accepting Accepting → Accepting
accepting_cert c rows = option_map_or c.close (rows_after c.steps rows) false

-- whether the rules accept a certificate over the rows
abbrev pub accepts : Cert → Accepting
accepts = fold-Cert Accepting Accepting accepting_close accepting_cert

-- whether each node of the steps is within its bounds
abbrev pub step_within : Step → List PRow → Bool
step_within (Rat e) rows = (measure e rows).within
step_within (Cut e) rows = (measure e rows).within

abbrev pub steps_within : List Step → List PRow → Bool
steps_within [] rows = true
steps_within (s ∷ steps) rows = step_within s rows && option_map_or (λ (r : PRow). steps_within steps (with_row rows r)) (step_row s rows) true

-- the bounds of the row -p - 1 go by p
abbrev pub below_bounds : List Term → Bounds
below_bounds p = record { norm = norm p + 1; spread = spread p + 1; degree = degree p }

abbrev pub all_within : List Term → ℤ → List Accepting → Accepting
all_within q v [] rows = true
all_within q v (c ∷ cs) rows = c (with_row rows (value_row q v)) && all_within q (v +ℤ pos 1) cs rows

abbrev pub within_close : Close-F Accepting Accepting → Accepting
within_close Close-F.Done rows = true
within_close (Close-F.Split p c d) rows = (are_within (own_bounds p) && are_within (below_bounds p))
    && (c (with_row rows (at_least_0 p)) && d (with_row rows (at_least_0 (below_0 p))))
within_close (Close-F.Enum b cs) rows = ((measure b.lower rows).within && (measure b.upper rows).within)
    && option_map_or (λ (r : Range). all_within r.poly r.low cs rows) (enum_range b.lower b.upper rows) true

abbrev pub within_cert : Cert-F Accepting Accepting → Accepting
within_cert c rows = steps_within c.steps rows && option_map_or c.close (rows_after c.steps rows) true

-- whether each node that the rules meet is within its bounds
abbrev pub is_within : Cert → Accepting
is_within = fold-Cert Accepting Accepting within_close within_cert

-- the rules accept it, and each node is within its bounds
pub record IsGood (rows : List PRow) (c : Cert) : Type 0 where
  pub accepted : accepts c rows ≡ true
  pub within : is_within c rows ≡ true
