use Rattle.std.proofs.Common.{◌≡◌, ◌++◌, drop}
use Rattle.nia_products.specs.Squares.{poly_squares}
use Rattle.nia_products.specs.machine.Lending.{lent}
use Rattle.nia_products.proofs.squares.lend_squares.Given as goal

-- what is lent, and the squares of the terms that are left
abbrev pub invariant-loop-term : goal.invariant-loop-term
invariant-loop-term l = lent l.monos.items ++ poly_squares (drop l.term-index l.terms) ≡ lent l.fn.monos.items ++ poly_squares l.terms
