use Rattle.std.specs.Prelude.{take}
use Rattle.mm_poly.specs.Mono.{IsMonomial}
use Rattle.mm_poly.specs.Poly.{EachMono}
use Rattle.mm_poly.proofs.poly.have_monomials.Given as goal

-- those that were looked at are
abbrev pub invariant-loop-term : goal.invariant-loop-term
invariant-loop-term l = EachMono IsMonomial (take l.term-index l.terms)
