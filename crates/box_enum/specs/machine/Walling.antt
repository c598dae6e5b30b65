-- The walls of a box, with the rows that give their bounds.
use Rattle.std.specs.Prelude.{ℕ, ℤ, nat_eq, List, [], ◌∷◌, Bool, false, Option, Some, None, if◌then◌else◌}
use Rattle.std.specs.Ordering.{int_eq}
use Rattle.cert_kit.specs.declared.row.Op.{Op}
use Rattle.cert_kit.specs.declared.row.Op.TheVariants.{Ge, Eq}
use Rattle.box_enum.specs.declared.edge.Edge.{Edge}
use Rattle.box_enum.specs.declared.reading.Reading.{Reading}
use Rattle.box_enum.specs.declared.wall.Witness.{Witness}
use Rattle.box_enum.specs.declared.wall.Witness.TheVariants as witnesses
use Rattle.box_enum.specs.declared.wall.Wall.{Wall}

-- how the row of this number bounds its variable from below and from above, where the variable rises in its cut or falls
abbrev pub lower_witness : Op → Bool → ℕ → Witness
lower_witness Ge rising n = witnesses.Row n
lower_witness Eq rising n = if rising then witnesses.Sum n else witnesses.Opposite n

abbrev pub upper_witness : Op → Bool → ℕ → Witness
upper_witness Ge rising n = witnesses.Row n
upper_witness Eq rising n = if rising then witnesses.Opposite n else witnesses.Sum n

-- whether a bound was read, and is this one
abbrev pub is_bound : Option ℤ → ℤ → Bool
is_bound None b = false
is_bound (Some a) b = int_eq a b

-- the row of this number as witness of those of a wall's bounds that it gives
abbrev pub witnessed : Reading → Op → ℕ → Wall → Wall
witnessed r o n w = record {
  variable = w.variable;
  low = w.low;
  high = w.high;
  lower = if is_bound r.low w.low then lower_witness o r.rising n else w.lower;
  upper = if is_bound r.high w.high then upper_witness o r.rising n else w.upper;
}

-- the same where the wall's variable is the one that was read
abbrev pub witnessed_there : Reading → Op → ℕ → Wall → Wall
witnessed_there r o n w = if nat_eq r.variable w.variable then witnessed r o n w else w

-- walls that have no witnesses yet
abbrev pub bare_walls : List ℕ → List Edge → List Wall
bare_walls [] edges = []
bare_walls (x ∷ vars) [] = []
bare_walls (x ∷ vars) (e ∷ edges) = record { variable = x; low = e.low; high = e.high; lower = witnesses.Row 0; upper = witnesses.Row 0 } ∷ bare_walls vars edges
