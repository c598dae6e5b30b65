use Rattle.std.proofs.Common.{◌≡◌, Some}
use Rattle.clause_form.specs.machine.Fitting.{turns_product}
use Rattle.clause_form.proofs.poly.turns.Given as goal

abbrev pub invariant-loop : goal.invariant-loop
invariant-loop l = turns_product l.base l.counter ≡ Some l.power
