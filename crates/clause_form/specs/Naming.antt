-- Rows with their variables renumbered from 0, in order and without doubles.
use Rattle.std.specs.Prelude.{ℕ, List, map}
use Rattle.mm_poly.specs.Renaming.{renamed}
use Rattle.cert_kit.specs.declared.row.PRow.{PRow}
use Rattle.cert_kit.specs.Order.{row_cmp}
use Rattle.cert_kit.specs.Variables.{in_order, place_of}

abbrev pub renamed_row : (ℕ → ℕ) → PRow → PRow
renamed_row r row = record { poly = renamed r row.poly; op = row.op }

-- the rows over the renumbered variables, in order, each once
abbrev pub named_rows : List ℕ → List PRow → List PRow
named_rows vars rows = in_order row_cmp (map (renamed_row (place_of vars)) rows)
