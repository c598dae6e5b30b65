use Rattle.mm_poly.proofs.PointSteps.{Summing}
use Rattle.mm_poly.proofs.point.value_of.Given as goal

abbrev pub invariant-loop-term : goal.invariant-loop-term
invariant-loop-term l = Summing l.point l.terms l.total l.term-index
