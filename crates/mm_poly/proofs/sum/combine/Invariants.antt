use Rattle.std.specs.Prelude.{◌+◌, ◌-◌, length}
use Rattle.mm_poly.proofs.CombinationSteps.{Combining}
use Rattle.mm_poly.proofs.sum.combine.Given as goal

abbrev pub invariant-loop-i : goal.invariant-loop-i
invariant-loop-i l = Combining l.out.items l.left l.right l.fn.a l.fn.b l.i l.j

abbrev pub decreases-loop-i : goal.decreases-loop-i
decreases-loop-i l = (length l.left - l.i) + (length l.right - l.j)
