use Rattle.std.specs.Prelude.{length}
use Rattle.mm_poly.proofs.InsertionLaws.{At}
use Rattle.mm_poly.proofs.insert.put_all.Given as goal

-- each turn puts one term, and the sum stays
abbrev pub decreases-loop-term : goal.decreases-loop-term
decreases-loop-term l = length l.few.items

abbrev pub invariant-loop-term : goal.invariant-loop-term
invariant-loop-term l = At l.few.items l.many.items l.fn.few.items l.fn.many.items
