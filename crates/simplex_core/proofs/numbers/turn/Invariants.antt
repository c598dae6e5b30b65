use Rattle.std.proofs.Common.{◌^◌, ◌<◌, unsigned_abs, neg_ℤ}
use Rattle.simplex_core.proofs.LoopLaws.{Mapping}
use Rattle.simplex_core.proofs.numbers.turn.Given as goal

abbrev pub invariant-loop-c : goal.invariant-loop-c
invariant-loop-c l = Mapping neg_ℤ (λ c. unsigned_abs c < 2 ^ 30) l.numbers l.fn.numbers l.c-index
