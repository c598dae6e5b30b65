use Rattle.std.proofs.Common.{ℕ, ◌<◌}
use Rattle.simplex_core.specs.Walk.{CanMend}
use Rattle.simplex_core.proofs.choice.first_mender.Given as goal

abbrev pub invariant-loop-variable : goal.invariant-loop-variable
invariant-loop-variable l = (k : ℕ) → k < l.variable → CanMend l.unknowns l.rows l.line k → ⊥
