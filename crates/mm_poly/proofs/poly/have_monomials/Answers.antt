use Rattle.mm_poly.specs.Mono.{IsMonomial}
use Rattle.mm_poly.proofs.EachLaws.{each_step}
use Rattle.mm_poly.proofs.poly.have_monomials.Goals as goal

pub loop-term-preserved : goal.loop-term-preserved
loop-term-preserved c = each_step IsMonomial _ _ _ c.term-item.is c.degree.ensures.monomial c.loop-term.invariant
