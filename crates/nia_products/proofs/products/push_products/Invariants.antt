use Rattle.std.proofs.Common.{◌≡◌, ◌++◌, drop}
use Rattle.nia_products.specs.Products.{pairs}
use Rattle.nia_products.specs.machine.Lending.{lent_factors}
use Rattle.nia_products.specs.machine.Pairs.{pair_rows, pair_sources}
use Rattle.nia_products.proofs.products.push_products.Given as goal

-- what is out, and the products of those that are left
abbrev pub invariant-loop-n : goal.invariant-loop-n
invariant-loop-n l = record {
  rows : l.enriched.clause.rows ++ pair_rows (pairs (lent_factors (drop l.n l.factors)))
      ≡ l.fn.enriched.clause.rows ++ pair_rows (pairs (lent_factors l.factors));
  sources : l.enriched.sources.items ++ pair_sources (pairs (lent_factors (drop l.n l.factors)))
      ≡ l.fn.enriched.sources.items ++ pair_sources (pairs (lent_factors l.factors));
}
