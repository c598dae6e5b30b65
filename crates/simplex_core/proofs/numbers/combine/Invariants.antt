use Rattle.simplex_core.proofs.LoopLaws.{Combining}
use Rattle.simplex_core.proofs.numbers.combine.Given as goal

abbrev pub invariant-loop-i : goal.invariant-loop-i
invariant-loop-i l = Combining l.a l.b l.first l.fn.first l.fn.second l.i
