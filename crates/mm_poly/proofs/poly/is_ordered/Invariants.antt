use Rattle.std.specs.Prelude.{◌≡◌, take, drop}
use Rattle.mm_poly.specs.Mono.{IsMonomial}
use Rattle.mm_poly.specs.Poly.{EachMono}
use Rattle.mm_poly.specs.Tests.{ordered}
use Rattle.mm_poly.proofs.poly.is_ordered.Given as goal

-- what is left decides
abbrev pub invariant-loop-n : goal.invariant-loop-n
invariant-loop-n l = (ordered (drop l.n l.terms) ≡ ordered l.terms) × EachMono IsMonomial (take l.n l.terms)
