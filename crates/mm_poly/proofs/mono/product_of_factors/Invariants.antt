use Rattle.std.specs.Prelude.{◌+◌, ◌-◌, length}
use Rattle.mm_poly.proofs.FactorSteps.{Factoring}
use Rattle.mm_poly.proofs.mono.product_of_factors.Given as goal

abbrev pub invariant-loop-i : goal.invariant-loop-i
invariant-loop-i l = Factoring l.out.items l.left l.right l.i l.j

abbrev pub decreases-loop-i : goal.decreases-loop-i
decreases-loop-i l = (length l.left - l.i) + (length l.right - l.j)
