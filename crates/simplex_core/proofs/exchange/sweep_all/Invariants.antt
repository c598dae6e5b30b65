use Rattle.std.proofs.Common.{length}
use Rattle.simplex_core.specs.machine.Tableau.{swept_by, IsSweepable}
use Rattle.simplex_core.proofs.LoopLaws.{Mapping}
use Rattle.simplex_core.proofs.exchange.sweep_all.Given as goal

abbrev pub invariant-loop-line : goal.invariant-loop-line
invariant-loop-line l = Mapping (swept_by l.variable l.pivot) (IsSweepable (length l.pivot)) l.lines l.fn.lines l.line-index
