use Rattle.std.proofs.Common.{◌≡◌, ◌++◌, drop}
use Rattle.nia_products.specs.Products.{pairs_with}
use Rattle.nia_products.specs.machine.Lending.{factor_of, lent_factors}
use Rattle.nia_products.specs.machine.Pairs.{pair_rows, pair_sources}
use Rattle.nia_products.proofs.products.push_products_with.Given as goal

-- what is out, and the products with those that are left
abbrev pub invariant-loop-second : goal.invariant-loop-second
invariant-loop-second l = record {
  rows : l.enriched.clause.rows ++ pair_rows (pairs_with (factor_of l.first) (lent_factors (drop l.second-index l.others)))
      ≡ l.fn.enriched.clause.rows ++ pair_rows (pairs_with (factor_of l.first) (lent_factors l.others));
  sources : l.enriched.sources.items ++ pair_sources (pairs_with (factor_of l.first) (lent_factors (drop l.second-index l.others)))
      ≡ l.fn.enriched.sources.items ++ pair_sources (pairs_with (factor_of l.first) (lent_factors l.others));
}
