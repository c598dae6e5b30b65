-- The certificate of an empty box: the places of the box, where some variables have values, and what stands there.
use Rattle.std.specs.Prelude.{◌≡◌, ◌==◌, if◌then◌else◌, ℕ, suc, ◌+◌, ◌*◌, ◌^◌, ◌<◌, ◌≤◌, ℤ, pos, negsuc, ◌≤ℤ◌, unsigned_abs, nat_eq, List, [], ◌∷◌, ◌++◌, map, length, Bool, true, Some}
use Rattle.std.specs.List.{AllByRecursion, IsDistinct, list_any}
use Rattle.mm_poly.specs.declared.term.Term.{Term}
use Rattle.mm_poly.specs.Poly.{Fits, AllMono, constant_of, variable_of}
use Rattle.cert_kit.specs.declared.row.PRow.{PRow}
use Rattle.cert_kit.specs.declared.cert.Psatz.{Psatz}
use Rattle.cert_kit.specs.declared.cert.Psatz.TheVariants.{Hyp, Square, MulPoly, Add}
use Rattle.cert_kit.specs.declared.cert.Step.{Step}
use Rattle.cert_kit.specs.declared.cert.Step.TheVariants.{Rat}
use Rattle.cert_kit.specs.declared.cert.Cert.{Cert}
use Rattle.cert_kit.specs.Row.{Holds, Solves}
use Rattle.cert_kit.specs.Meaning.{meaning, measure}
use Rattle.cert_kit.specs.Acceptance.{Range, range_of, values_of, value_row, with_row, IsGood}
use Rattle.cert_kit.specs.Depth.{cert_depth, cert_constants}
use Rattle.cert_kit.specs.Variables.{poly_variables}
use Rattle.box_enum.specs.declared.numbered.Choice.{Choice}
use Rattle.box_enum.specs.declared.standing.Standing.{Standing}
use Rattle.box_enum.specs.declared.standing.Ground.{Ground}
use Rattle.box_enum.specs.declared.wall.Witness.{Witness}
use Rattle.box_enum.specs.declared.wall.Witness.TheVariants as witnesses
use Rattle.box_enum.specs.declared.wall.Wall.{Wall}
use Rattle.box_enum.specs.machine.Putting.{IsTame, IsWithinReach, StandsChosen, StandsNumbered}

-- ---- walls

-- an expression as an inequality
abbrev pub weakened : Psatz → Psatz
weakened e = Add e (Square (constant_of (pos 0)))

abbrev pub expression_of : Witness → Psatz
expression_of (witnesses.Row n) = Hyp n
expression_of (witnesses.Sum n) = weakened (Hyp n)
expression_of (witnesses.Opposite n) = weakened (MulPoly (constant_of (negsuc 0)) (Hyp n))

abbrev pub wall_range : Wall → Range
wall_range w = record { poly = variable_of w.variable; low = w.low; high = w.high }

abbrev pub wall_count : Wall → ℕ
wall_count w = values_of (wall_range w)

-- the row that a witness stands for, within the bounds
pub record Witnesses (rows : List PRow) (w : Witness) (r : PRow) : Type 0 where
  pub means : meaning (expression_of w) rows ≡ Some r
  pub within : (measure (expression_of w) rows).within ≡ true

-- the rows of the two witnesses give the variable its range
pub record StandsWall (rows : List PRow) (w : Wall) : Type 0 where
  pub lower : PRow
  pub upper : PRow
  pub below : Witnesses rows w.lower lower
  pub above : Witnesses rows w.upper upper
  pub range : range_of lower upper ≡ Some (wall_range w)

abbrev pub IsBounded : ℕ → Wall → Type 0
IsBounded b w = (unsigned_abs w.low ≤ b) × (unsigned_abs w.high ≤ b)

-- ---- places

-- what stands at a place, where this many rows stand
pub record IsPlace (rows : List PRow) (count : ℕ) (standing : List Standing) (choices : List Choice) (walls : List Wall) : Type 0 where
  pub counted : length rows ≡ count
  pub numbered : AllByRecursion (λ (s : Standing). StandsNumbered rows s.numbered) standing
  pub chosen : AllByRecursion (StandsChosen rows) choices
  pub bounds : AllByRecursion (StandsWall rows) walls

abbrev pub Agrees : (ℕ → ℤ) → Choice → Type 0
Agrees x c = x c.variable ≡ c.value

abbrev pub IsInside : (ℕ → ℤ) → Wall → Type 0
IsInside x w = (w.low ≤ℤ x w.variable) × (x w.variable ≤ℤ w.high)

-- no point with the chosen values and within the walls solves the rows
abbrev pub HasNoPoint : List Standing → List Choice → List Wall → Type 0
HasNoPoint standing choices walls = (x : ℕ → ℤ) → AllByRecursion (Agrees x) choices → AllByRecursion (IsInside x) walls
    → AllByRecursion (λ (s : Standing). Holds x s.numbered.row) standing → ⊥

-- the variables that have values, and those that are to have some
abbrev pub names_of : List Choice → List Wall → List ℕ
names_of choices walls = map (λ (c : Choice). c.variable) choices ++ map (λ (w : Wall). w.variable) walls

abbrev pub AreNamed : List ℕ → List Term → Type 0
AreNamed names p = (v : ℕ) → list_any (nat_eq v) (poly_variables p) ≡ true → list_any (nat_eq v) names ≡ true

-- what a place is to have so that a certificate can be made there
pub record IsOpen (ground : Ground) (count : ℕ) (choices : List Choice) (walls : List Wall) : Type 0 where
  pub tame : AllByRecursion (λ (s : Standing). IsTame ground.reach s.numbered.row.poly) ground.standing
  pub named : AllByRecursion (λ (s : Standing). AreNamed (names_of choices walls) s.numbered.row.poly) ground.standing
  pub distinct : IsDistinct nat_eq (names_of choices walls)
  pub within : AllByRecursion (IsWithinReach ground.reach) choices
  pub bounded : AllByRecursion (IsBounded ground.reach) walls
  pub none : HasNoPoint ground.standing choices walls
  pub small : ground.reach < 2 ^ 126
  pub room : count + length choices + 2 * length walls < 2 ^ 32

-- ---- certificates

pub record IsShallow (d : ℕ) (c : Cert) : Type 0 where
  pub depth : cert_depth c ≤ d
  pub constants : cert_constants c ≡ true

-- good over the rows of each such place
abbrev pub IsGoodAt : ℕ → List Standing → List Choice → List Wall → Cert → Type 0
IsGoodAt count standing choices walls c = (rows : List PRow) → IsPlace rows count standing choices walls → IsGood rows c

-- the choice of the next wall's value, whose row stands at this number
abbrev pub choice_at : ℕ → Wall → ℤ → Choice
choice_at n w v = record { variable = w.variable; value = v; row = n }

-- the steps, after which this many rows stand, and one more where the row of this number isn't the last then
abbrev pub ending_with : ℕ → ℕ → List Step → List Step
ending_with n count steps = if n + 1 == count then steps else steps ++ Rat (Hyp n) ∷ []
