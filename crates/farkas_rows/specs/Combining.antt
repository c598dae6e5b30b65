-- Multipliers of rows, the combination of the rows by them, and when it refutes the rows (Farkas' lemma).
use Rattle.std.specs.Prelude.{◌≡◌, ℕ, ◌+◌, ◌*◌, ◌^◌, ◌<◌, ◌≤◌, ℤ, pos, ◌<ℤ◌, ◌≤ℤ◌, unsigned_abs, List, [], ◌∷◌, ◌++◌, length, Bool, ◌||◌, if◌then◌else◌}
use Rattle.std.specs.List.{AllByRecursion}
use Rattle.std.specs.Ordering.{int_eq}
use Rattle.mm_poly.specs.declared.term.Term.{Term}
use Rattle.mm_poly.specs.Poly.{linear_value, norm, spread, plus, scaled, constant_of}
use Rattle.cert_kit.specs.declared.row.Op.{Op}
use Rattle.cert_kit.specs.declared.row.Op.TheVariants.{Ge, Eq}
use Rattle.cert_kit.specs.declared.row.PRow.{PRow}
use Rattle.cert_kit.specs.declared.cert.Step.{Step}
use Rattle.cert_kit.specs.declared.cert.Step.TheVariants.{Rat, Cut}
use Rattle.cert_kit.specs.Row.{Compares, has_no_terms}
use Rattle.cert_kit.specs.Making.{numbers_of}

-- the sum of the multiples of the rows' polynomials
abbrev pub combined : List ℤ → List PRow → List Term
combined [] rows = []
combined (m ∷ ms) [] = []
combined (m ∷ ms) (r ∷ rows) = plus (scaled m r.poly) (combined ms rows)

-- at least 0 for an inequality, any number for an equality
abbrev pub IsMultiplier : Op → ℤ → Type 0
IsMultiplier Ge m = pos 0 ≤ℤ m
IsMultiplier Eq m = Unit {0}

abbrev pub AreMultipliers : List PRow → List ℤ → Type 0
AreMultipliers [] ms = Unit {0}
AreMultipliers (r ∷ rows) [] = Unit {0}
AreMultipliers (r ∷ rows) (m ∷ ms) = IsMultiplier r.op m × AreMultipliers rows ms

-- a constant below 0
abbrev pub IsNegative : List Term → Type 0
IsNegative p = (k : ℤ) × (k <ℤ pos 0) × (p ≡ constant_of k)

-- one multiplier for each row, and the combination of the rows is a constant below 0
pub record IsFarkas (rows : List PRow) (ms : List ℤ) : Type 0 where
  pub count : length ms ≡ length rows
  pub signs : AreMultipliers rows ms
  pub negative : IsNegative (combined ms rows)

-- the norms, each times its multiplier's magnitude
abbrev pub norms : List ℤ → List PRow → ℕ
norms [] rows = 0
norms (m ∷ ms) [] = 0
norms (m ∷ ms) (r ∷ rows) = unsigned_abs m * norm r.poly + norms ms rows

-- the spreads of all rows, those with multiplier 0 too
abbrev pub spreads : List PRow → ℕ
spreads [] = 0
spreads (r ∷ rows) = spread r.poly + spreads rows

-- the sums of norms and of spreads are within the limits of rows
pub record HasRoom (rows : List PRow) (ms : List ℤ) : Type 0 where
  pub norm : norms ms rows < 2 ^ 126
  pub spread : spreads rows ≤ 65536

-- whether a multiple of a row is 0
abbrev pub is_nothing : ℤ → PRow → Bool
is_nothing m r = int_eq m (pos 0) || has_no_terms r.poly

-- the numbers of the rows, from n on, whose multiples aren't 0
abbrev pub rows_used : ℕ → List ℤ → List PRow → List ℕ
rows_used n [] rows = []
rows_used n (m ∷ ms) [] = []
rows_used n (m ∷ ms) (r ∷ rows) = if is_nothing m r then rows_used (n + 1) ms rows else n ∷ rows_used (n + 1) ms rows

-- the numbers of the rows that the expressions of steps name
abbrev pub step_rows : Step → List ℕ
step_rows (Rat e) = numbers_of e
step_rows (Cut e) = numbers_of e

abbrev pub rows_named : List Step → List ℕ
rows_named [] = []
rows_named (s ∷ steps) = step_rows s ++ rows_named steps

-- a row holds at a rational point, where each monomial counts for itself: each has a numerator, and the constant
-- monomial's is the denominator common to all
abbrev pub HoldsAt : (List (ℕ × ℕ) → ℤ) → PRow → Type 0
HoldsAt w r = Compares r.op (linear_value w r.poly)

abbrev pub HasNoRationalSolution : List PRow → Type 0
HasNoRationalSolution rows = (w : List (ℕ × ℕ) → ℤ) → pos 0 <ℤ w [] → AllByRecursion (HoldsAt w) rows → ⊥
