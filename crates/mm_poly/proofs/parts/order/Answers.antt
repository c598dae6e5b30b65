use Rattle.std.proofs.Common.{sym, ◌∙◌, arith}
use Rattle.mm_poly.specs.Poly.{term_cmp}
use Rattle.mm_poly.proofs.TestLaws.{ended_cmp}
use Rattle.mm_poly.proofs.parts.order.Goals as goal

pub returns : goal.returns
returns c = c.cmp.ensures ∙ sym (ended_cmp term_cmp c.args.left.now c.args.right.now c.loop-n.n (omega arith)) ∙ c.loop-n.invariant
