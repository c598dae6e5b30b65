use Rattle.std.proofs.Common.{◌≡◌, ℕ, ◌<◌}
use Rattle.simplex_core.specs.machine.Tableau.{line_at}
use Rattle.simplex_core.proofs.answer.value_of.Given as goal

abbrev pub invariant-loop-line : goal.invariant-loop-line
invariant-loop-line l = (k : ℕ) → k < l.line-index → (line_at l.lines k).0 ≡ l.variable → ⊥
