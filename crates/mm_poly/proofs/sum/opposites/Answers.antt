use Rattle.mm_poly.proofs.OppositeSteps.{negating}
use Rattle.mm_poly.proofs.sum.opposites.Goals as goal

pub loop-n-init : goal.loop-n-init
loop-n-init c = negating c.args.terms.items c.requires.order c.requires.small
