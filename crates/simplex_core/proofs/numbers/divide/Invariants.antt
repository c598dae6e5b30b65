use Rattle.std.proofs.Common.{unsigned_abs}
use Rattle.mm_num.specs.Quotient.{floor_by}
use Rattle.mm_num.specs.Small.{IsSmall}
use Rattle.simplex_core.proofs.LoopLaws.{Mapping}
use Rattle.simplex_core.proofs.numbers.divide.Given as goal

abbrev pub invariant-loop-c : goal.invariant-loop-c
invariant-loop-c l = Mapping (λ c. floor_by c (unsigned_abs l.fn.divisor)) IsSmall l.numbers l.fn.numbers l.c-index
