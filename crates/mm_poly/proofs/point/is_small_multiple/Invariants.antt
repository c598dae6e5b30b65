use Rattle.mm_poly.proofs.PointSteps.{Multiplying}
use Rattle.mm_poly.proofs.point.is_small_multiple.Given as goal

abbrev pub invariant-loop : goal.invariant-loop
invariant-loop l = Multiplying l.number l.base l.exponent l.multiple l.counter
