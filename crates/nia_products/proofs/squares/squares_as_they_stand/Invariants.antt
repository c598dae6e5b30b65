use Rattle.std.proofs.Common.{◌≡◌, ◌++◌, drop}
use Rattle.nia_products.specs.Squares.{row_squares}
use Rattle.nia_products.specs.machine.Lending.{lent}
use Rattle.nia_products.proofs.squares.squares_as_they_stand.Given as goal

-- what is lent, and the squares of the rows that are left
abbrev pub invariant-loop-row : goal.invariant-loop-row
invariant-loop-row l = lent l.monos.items ++ row_squares (drop l.row-index l.rows) ≡ row_squares l.rows
