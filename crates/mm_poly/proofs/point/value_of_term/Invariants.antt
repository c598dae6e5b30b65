use Rattle.mm_poly.proofs.PointSteps.{Evaluating}
use Rattle.mm_poly.proofs.point.value_of_term.Given as goal

abbrev pub invariant-loop-n : goal.invariant-loop-n
invariant-loop-n l = Evaluating l.point l.term l.product l.n
