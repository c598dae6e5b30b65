use Rattle.std.proofs.Common.{arith, subst, sym}
use Rattle.std.specs.Prelude.{refl}
use Rattle.mm_poly.specs.Mono.{VarsBelow}
use Rattle.mm_poly.specs.declared.term.Term.{Term}
use Rattle.box_enum.proofs.EdgeLaws.{term_places}
use Rattle.box_enum.proofs.waiting.due.Goals as goal

pub loop-n-preserved : goal.loop-n-preserved
loop-n-preserved c = term_places c.terms-terms.result.now c.loop-n.n _ c.loop-n.due c.past.result _ c.index-terms-n.result (omega arith) (omega arith) refl c.index-terms-n.is c.loop-n.invariant
    (subst (λ (u : Term). VarsBelow c.past.result u.mono) (sym c.index-terms-n.is) (subst (λ fs. VarsBelow c.past.result fs) c.factors.ensures.value c.past.ensures)) c.greater-due.ensures.first c.greater-due.ensures.second
