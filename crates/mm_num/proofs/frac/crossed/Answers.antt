use Rattle.mm_num.proofs.Ring.{product_zero}
use Rattle.mm_num.proofs.frac.crossed.Goals as goal

pub returns-clause-zero : goal.returns-clause-zero
returns-clause-zero c = rw (← c.left.view_is, ← c.right.view_is) (product_zero _ _ c.right.invariant.positive)
