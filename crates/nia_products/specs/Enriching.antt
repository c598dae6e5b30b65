-- Rows with those that their square monomials and the products of their first inequalities give.
use Rattle.std.specs.Prelude.{List, ◌++◌, map}
use Rattle.std.specs.List.{AllByRecursion}
use Rattle.mm_poly.specs.Poly.{Fits}
use Rattle.cert_kit.specs.declared.row.PRow.{PRow}
use Rattle.cert_kit.specs.declared.cert.Psatz.{Psatz}
use Rattle.cert_kit.specs.declared.cert.Step.{Step}
use Rattle.cert_kit.specs.declared.cert.Step.TheVariants.{Rat}
use Rattle.nia_products.specs.Squares.{squares_of, square_row, square_source}
use Rattle.nia_products.specs.Products.{products_of, pair_row, pair_source}

-- the rows that are added
abbrev pub added : List PRow → List PRow
added rows = map square_row (squares_of rows) ++ map pair_row (products_of rows)

-- the expression of each added row, over the rows
abbrev pub sources : List PRow → List Psatz
sources rows = map square_source (squares_of rows) ++ map pair_source (products_of rows)

abbrev pub enriched : List PRow → List PRow
enriched rows = rows ++ added rows

-- the steps that add them
abbrev pub source_steps : List PRow → List Step
source_steps rows = map Rat (sources rows)

-- each polynomial is within the limits
abbrev pub AreFit : List PRow → Type 0
AreFit rows = AllByRecursion (λ (r : PRow). Fits r.poly) rows
