use Rattle.std.proofs.Common.{List, ap, arith}
use Rattle.mm_poly.specs.declared.term.Term.{Term}
use Rattle.mm_poly.specs.Poly.{norm}
use Rattle.mm_poly.proofs.JoinLaws.{last_small}
use Rattle.mm_poly.proofs.product.push_joined.Goals as goal

pub push_both-requires-clause-small : goal.push_both-requires-clause-small
push_both-requires-clause-small c = omega (arith, ap (λ (ts : List Term). norm ts) c.in-Some.ensures.items, last_small c.pop.new.self.items c.in-Some.last, c.requires.small)
