use Rattle.std.proofs.Common.{drop}
use Rattle.mm_poly.specs.Mono.{VarsBelow}
use Rattle.box_enum.proofs.waiting.past.Given as goal

-- past the factors from here on
abbrev pub invariant-loop-n : goal.invariant-loop-n
invariant-loop-n l = VarsBelow l.past (drop l.n l.factors)
