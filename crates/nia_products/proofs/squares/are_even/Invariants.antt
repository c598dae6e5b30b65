use Rattle.std.proofs.Common.{◌≡◌, drop}
use Rattle.std.specs.List.{list_all}
use Rattle.nia_products.specs.Squares.{is_even}
use Rattle.nia_products.proofs.squares.are_even.Given as goal

-- the factors so far are even
abbrev pub invariant-loop-factor : goal.invariant-loop-factor
invariant-loop-factor l = list_all is_even (drop l.factor-index l.factors) ≡ list_all is_even l.factors
