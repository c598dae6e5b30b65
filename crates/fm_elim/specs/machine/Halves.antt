-- An equality as two inequalities.
use Rattle.std.specs.Prelude.{ℕ, ◌+◌, ◌==◌, negsuc, List, [], ◌∷◌, ◌++◌, Bool, true, false}
use Rattle.mm_poly.specs.Poly.{scaled}
use Rattle.cert_kit.specs.declared.row.PRow.{PRow}
use Rattle.cert_kit.specs.Meaning.{at_least_0}

abbrev pub half_of : PRow → PRow
half_of r = at_least_0 r.poly

abbrev pub other_half_of : PRow → PRow
other_half_of r = at_least_0 (scaled (negsuc 0) r.poly)

abbrev pub parts_at : Bool → PRow → List PRow
parts_at true r = half_of r ∷ other_half_of r ∷ []
parts_at false r = r ∷ []

-- the rows from n on with the one at k in two halves
abbrev pub halved_from : List PRow → ℕ → ℕ → List PRow
halved_from [] k n = []
halved_from (r ∷ rows) k n = parts_at (n == k) r ++ halved_from rows k (n + 1)
