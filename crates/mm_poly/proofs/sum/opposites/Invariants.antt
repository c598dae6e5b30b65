use Rattle.mm_poly.proofs.OppositeSteps.{Negating}
use Rattle.mm_poly.proofs.sum.opposites.Given as goal

abbrev pub invariant-loop-n : goal.invariant-loop-n
invariant-loop-n l = Negating l.terms.items l.fn.terms.items l.n
