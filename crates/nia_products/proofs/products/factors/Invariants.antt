use Rattle.std.proofs.Common.{◌≡◌, ◌≤◌, ◌++◌, drop, length}
use Rattle.nia_products.specs.Products.{factors_from}
use Rattle.nia_products.specs.machine.Lending.{lent_factors}
use Rattle.nia_products.proofs.products.factors.Given as goal

-- what is out, and the inequalities of the rows that are left
abbrev pub invariant-loop-n : goal.invariant-loop-n
invariant-loop-n l = record {
  whole : lent_factors l.factors.items ++ factors_from l.n (drop l.n l.rows) ≡ factors_from 0 l.rows;
  few : length l.factors.items ≤ 20;
}
