use Rattle.std.proofs.Common.{◌≡◌, ◌++◌, drop}
use Rattle.simplex_core.specs.machine.Tableau.{mark}
use Rattle.simplex_core.proofs.tableau.push_mark.Given as goal

abbrev pub invariant-loop-slack : goal.invariant-loop-slack
invariant-loop-slack l = l.numbers.items ++ drop l.slack (mark l.places l.place) ≡ l.fn.numbers.items ++ mark l.places l.place
