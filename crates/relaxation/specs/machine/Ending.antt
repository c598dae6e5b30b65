-- What is asked of the simplex's numbers, and its end with multipliers.
use Rattle.std.specs.Prelude.{◌^◌, ◌<◌, unsigned_abs}
use Rattle.simplex_core.specs.declared.row.LinRow.{LinRow}
use Rattle.simplex_core.specs.Walk.{AreNarrow}
use Rattle.simplex_core.specs.declared.solved.Solved.{Solved}
use Rattle.simplex_core.specs.declared.solved.Solved.TheVariants.{Point, Farkas, Turns, Size}

abbrev pub IsRefuting : Solved → Type 0
IsRefuting (Farkas ms) = Unit {0}
IsRefuting s = ⊥

-- all its numbers are below 2^30 in magnitude
abbrev pub IsNarrowForm : LinRow → Type 0
IsNarrowForm l = AreNarrow l.coeffs.items × (unsigned_abs l.constant < 2 ^ 30)
