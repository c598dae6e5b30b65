use Rattle.mm_num.proofs.Ring.{product_positive}
use Rattle.mm_num.proofs.frac.denominators.Goals as goal

pub returns-clause-positive : goal.returns-clause-positive
returns-clause-positive c = rw (← c.left.view_is, ← c.right.view_is) (product_positive _ _ c.left.invariant.positive c.right.invariant.positive)
