use Rattle.std.proofs.Common.{◌≡◌, ◌++◌, drop}
use Rattle.nia_products.specs.Squares.{half_of}
use Rattle.nia_products.proofs.squares.halved.Given as goal

-- what is out, and the halves of those that are left
abbrev pub invariant-loop-factor : goal.invariant-loop-factor
invariant-loop-factor l = l.out.items ++ half_of (drop l.factor-index l.factors) ≡ half_of l.factors
