-- What the answers of the simplex say.
use Rattle.std.specs.Prelude.{◌≡◌, ℕ, ◌+◌, ◌^◌, ◌≤◌, List, length, ℤ, unsigned_abs}
use Rattle.simplex_core.specs.declared.row.LinRow.{LinRow}
use Rattle.simplex_core.specs.declared.solved.Pivot.{Pivot}
use Rattle.simplex_core.specs.declared.solved.Solved.{Solved}
use Rattle.simplex_core.specs.declared.solved.Walked.{Walked}
use Rattle.simplex_core.specs.declared.solved.Solved.TheVariants.{Point, Farkas, Turns, Size}
use Rattle.simplex_core.specs.Rows.{unknowns, IsPoint}
use Rattle.simplex_core.specs.Form.{at, Among, Line, IsForm}
use Rattle.simplex_core.specs.Walk.{IsDue, IsWalk, AreNarrow, IsNarrow}
use Rattle.simplex_core.specs.Farkas.{IsFarkas}

abbrev pub IfPoint : (List (ℤ × ℤ) → Type 0) → Solved → Type 0
IfPoint P (Point xs) = P xs.items
IfPoint P s = Unit {0}

abbrev pub IfFarkas : (List ℤ → Type 0) → Solved → Type 0
IfFarkas P (Farkas ms) = P ms.items
IfFarkas P s = Unit {0}

abbrev pub IfTurns : (List Pivot → Type 0) → Solved → Type 0
IfTurns P (Turns ps) = P ps.items
IfTurns P s = Unit {0}

abbrev pub IfSize : (List Pivot → Type 0) → Solved → Type 0
IfSize P (Size ps) = P ps.items
IfSize P s = Unit {0}

-- a walk of so many pivots, after which another is due
pub record EndsDue (rows : List LinRow) (turns : ℕ) (ps : List Pivot) : Type 0 where
  pub form : List Line
  pub walk : IsWalk (unknowns rows) rows ps form
  pub count : length ps ≡ turns
  pub line : Line
  pub next : Pivot
  pub due : IsDue (unknowns rows) rows form line next

-- a walk of at most so many pivots, to a form with a number of magnitude at least 2^30
pub record EndsWide (rows : List LinRow) (turns : ℕ) (ps : List Pivot) : Type 0 where
  pub form : List Line
  pub walk : IsWalk (unknowns rows) rows ps form
  pub count : length ps ≤ turns
  pub line : Line
  pub stands : Among line form
  pub place : ℕ
  pub wide : 2 ^ 30 ≤ unsigned_abs (at line.1 place)

-- the form of each basis has numbers below 2^30 alone
abbrev pub AreFormsNarrow : List LinRow → Type 0
AreFormsNarrow rows = (form : List Line) → IsForm (unknowns rows) rows form → IsNarrow form

-- all that an answer says
abbrev pub IsAnswer : List LinRow → ℕ → Solved → Type 0
IsAnswer rows turns (Point xs) = IsPoint rows xs.items
IsAnswer rows turns (Farkas ms) = IsFarkas rows ms.items × AreNarrow ms.items
IsAnswer rows turns (Turns ps) = EndsDue rows turns ps.items
IsAnswer rows turns (Size ps) = EndsWide rows turns ps.items

-- a walk that leaves so many of the turns
pub record LeavesTurns (rows : List LinRow) (turns left : ℕ) : Type 0 where
  pub pivots : List Pivot
  pub form : List Line
  pub walk : IsWalk (unknowns rows) rows pivots form
  pub count : length pivots + left ≡ turns

abbrev pub IsWalked : List LinRow → ℕ → Walked → Type 0
IsWalked rows turns w = IsAnswer rows turns w.solved × LeavesTurns rows turns w.left
