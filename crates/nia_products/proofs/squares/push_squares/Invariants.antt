use Rattle.std.proofs.Common.{◌≡◌, ◌++◌, drop, map, true}
use Rattle.std.specs.List.{list_all}
use Rattle.nia_products.specs.Squares.{is_square, square_row, square_source}
use Rattle.nia_products.specs.machine.Lending.{lent}
use Rattle.nia_products.proofs.squares.push_squares.Given as goal

-- what is out, and what the monomials that are left give
abbrev pub invariant-loop-mono : goal.invariant-loop-mono
invariant-loop-mono l = record {
  rows : l.enriched.clause.rows ++ map square_row (lent (drop l.mono-index l.monos)) ≡ l.fn.enriched.clause.rows ++ map square_row (lent l.monos);
  sources : l.enriched.sources.items ++ map square_source (lent (drop l.mono-index l.monos)) ≡ l.fn.enriched.sources.items ++ map square_source (lent l.monos);
  squares : list_all is_square (lent (drop l.mono-index l.monos)) ≡ true;
}
