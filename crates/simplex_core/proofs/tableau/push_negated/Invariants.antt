use Rattle.std.proofs.Common.{◌≡◌, ◌++◌, drop}
use Rattle.simplex_core.specs.machine.Tableau.{negated}
use Rattle.simplex_core.proofs.tableau.push_negated.Given as goal

abbrev pub invariant-loop-coeff : goal.invariant-loop-coeff
invariant-loop-coeff l = l.numbers.items ++ negated (drop l.coeff-index l.coeffs) ≡ l.fn.numbers.items ++ negated l.coeffs
