-- What pairs give whose products are within the limits.
use Rattle.std.specs.Prelude.{List, map}
use Rattle.std.specs.List.{filter}
use Rattle.cert_kit.specs.declared.row.PRow.{PRow}
use Rattle.cert_kit.specs.declared.cert.Psatz.{Psatz}
use Rattle.nia_products.specs.Products.{Factor, pair_has_room, pair_row, pair_source}

abbrev pub pair_rows : List (Factor × Factor) → List PRow
pair_rows ps = map pair_row (filter pair_has_room ps)

abbrev pub pair_sources : List (Factor × Factor) → List Psatz
pair_sources ps = map pair_source (filter pair_has_room ps)
