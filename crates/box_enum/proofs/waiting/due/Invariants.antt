use Rattle.std.proofs.Common.{drop}
use Rattle.mm_poly.specs.Poly.{HasPlaces}
use Rattle.box_enum.proofs.waiting.due.Given as goal

-- past the terms from here on
abbrev pub invariant-loop-n : goal.invariant-loop-n
invariant-loop-n l = HasPlaces l.due (drop l.n l.terms)
