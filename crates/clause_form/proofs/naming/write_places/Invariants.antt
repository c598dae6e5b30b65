use Rattle.clause_form.specs.machine.Numbering.{Numbers}
use Rattle.clause_form.proofs.naming.write_places.Given as goal

abbrev pub invariant-loop-place : goal.invariant-loop-place
invariant-loop-place l = Numbers l.table.items l.vars l.place
