use Rattle.std.specs.Vec.Iter.{into_iter_items}
use Rattle.mm_poly.proofs.JoinLaws.{Joining}
use Rattle.mm_poly.proofs.product.join.Given as goal

abbrev pub invariant-loop-term : goal.invariant-loop-term
invariant-loop-term l = Joining l.out.items l.yielded (into_iter_items l.term-iterator)
