use Rattle.std.proofs.Common.{◌≡◌, length}
use Rattle.simplex_core.specs.Form.{one_of}
use Rattle.simplex_core.specs.machine.Tableau.{AreValues}
use Rattle.simplex_core.proofs.answer.point.Given as goal

abbrev pub invariant-loop-variable : goal.invariant-loop-variable
invariant-loop-variable l = record {
  count : length l.values.items ≡ l.variable;
  values : AreValues (one_of l.unknowns l.rows) l.lines 0 l.values.items;
}
