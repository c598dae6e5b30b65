use Rattle.mm_poly.proofs.PointSteps.{Raising}
use Rattle.mm_poly.proofs.point.times_power.Given as goal

abbrev pub invariant-loop : goal.invariant-loop
invariant-loop l = Raising l.number l.base l.exponent l.product l.counter
