use Rattle.std.proofs.Common.{arith, ap, List}
use Rattle.mm_poly.specs.declared.term.Term.{Term}
use Rattle.mm_poly.specs.Poly.{norm}
use Rattle.mm_poly.proofs.PartLaws.{constant_small}
use Rattle.mm_poly.proofs.poly.Poly.constant_term.Goals as goal

pub returns-clause-within : goal.returns-clause-within
returns-clause-within c = constant_small _

pub returns-clause-small : goal.returns-clause-small
returns-clause-small c = omega (arith, constant_small c.args.self.now, ap (λ (ts : List Term). norm ts) c.self.view_is, c.self.invariant.norm)
