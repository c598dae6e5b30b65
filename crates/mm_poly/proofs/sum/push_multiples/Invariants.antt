use Rattle.mm_poly.proofs.ScaleSteps.{Scaling}
use Rattle.mm_poly.proofs.sum.push_multiples.Given as goal

abbrev pub invariant-loop-term : goal.invariant-loop-term
invariant-loop-term l = Scaling l.out.items l.fn.out.items l.terms l.fn.c l.term-index
