use Rattle.std.specs.Prelude.{take}
use Rattle.relaxation.specs.Relaxing.{AreFormsOf}
use Rattle.relaxation.proofs.linear.forms.Given as goal

abbrev pub invariant-loop-row : goal.invariant-loop-row
invariant-loop-row l = AreFormsOf l.unknowns (take l.row-index l.rows) l.forms.items
