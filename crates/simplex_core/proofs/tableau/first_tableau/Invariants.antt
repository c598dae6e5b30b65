use Rattle.std.proofs.Common.{◌≡◌, ◌++◌, drop, length}
use Rattle.simplex_core.specs.machine.Tableau.{first_lines}
use Rattle.simplex_core.proofs.tableau.first_tableau.Given as goal

abbrev pub invariant-loop-place : goal.invariant-loop-place
invariant-loop-place l =
    l.lines.items ++ first_lines l.unknowns (length l.rows) l.place (drop l.place l.rows) ≡ first_lines l.unknowns (length l.rows) 0 l.rows
