use Rattle.std.proofs.Common.{◌≡◌, IfOk, List, subst}
use Rattle.mm_poly.specs.declared.term.Term.{Term}
use Rattle.mm_poly.proofs.JoinedLaws.{quotients_by_one}
use Rattle.mm_poly.proofs.parts.quotients.Goals as goal

pub returns-then-divisor-eq1 : goal.returns-then-divisor-eq1
returns-then-divisor-eq1 c = subst (λ (ts : List Term). IfOk c.copies.result (λ out. out.items ≡ ts))
    (quotients_by_one c.args.divisor c.args.terms.now c.requires.divisor c.if-divisor-eq1.true c.requires.order) c.copies.ensures
