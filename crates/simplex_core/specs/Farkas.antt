-- Multipliers of the rows that refute them.
use Rattle.std.specs.Prelude.{◌≡◌, ℕ, false, List, ◌∷◌, length, ℤ, pos, ◌+ℤ◌, ◌*ℤ◌, ◌≤ℤ◌, ◌<ℤ◌}
use Rattle.simplex_core.specs.declared.row.LinRow.{LinRow}
use Rattle.simplex_core.specs.Form.{at}

-- the number of the unknown i in the combination
abbrev pub sum_at : ℕ → List ℤ → List LinRow → ℤ
sum_at i (m ∷ ms) (r ∷ rs) = m *ℤ at r.coeffs.items i +ℤ sum_at i ms rs
sum_at i ms rs = pos 0

abbrev pub sum_constants : List ℤ → List LinRow → ℤ
sum_constants (m ∷ ms) (r ∷ rs) = m *ℤ r.constant +ℤ sum_constants ms rs
sum_constants ms rs = pos 0

-- at least 0 for an inequality
abbrev pub AreSigned : List ℤ → List LinRow → Type 0
AreSigned (m ∷ ms) (r ∷ rs) = (r.equal ≡ false → pos 0 ≤ℤ m) × AreSigned ms rs
AreSigned ms rs = Unit {0}

-- one for each row, and the combination of the rows has no unknown and a negative constant
pub record IsFarkas (rows : List LinRow) (ms : List ℤ) : Type 0 where
  pub count : length ms ≡ length rows
  pub signed : AreSigned ms rows
  pub unknowns : (i : ℕ) → sum_at i ms rows ≡ pos 0
  pub constant : sum_constants ms rows <ℤ pos 0
