use Rattle.std.proofs.Common.{sym, ◌∙◌, arith}
use Rattle.mm_poly.specs.Mono.{factor_cmp}
use Rattle.mm_poly.proofs.TestLaws.{ended_cmp}
use Rattle.mm_poly.proofs.mono.order_of_factors.Goals as goal

pub returns : goal.returns
returns c = c.cmp.ensures ∙ sym (ended_cmp factor_cmp c.args.left.now c.args.right.now c.loop-n.n (omega arith)) ∙ c.loop-n.invariant
