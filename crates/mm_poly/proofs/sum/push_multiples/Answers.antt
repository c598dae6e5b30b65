use Rattle.std.proofs.lemmas.Int.{to_z-of_z}
use Rattle.mm_poly.proofs.ScaleSteps.{scaling_begin, scaling_small, scaling, scaled_all}
use Rattle.mm_poly.proofs.sum.push_multiples.Goals as goal

pub loop-term-init : goal.loop-term-init
loop-term-init c = scaling_begin _ _ _ _ (to_z-of_z _ _ c.ranges.c) c.requires

pub push_multiple-requires : goal.push_multiple-requires
push_multiple-requires c = scaling_small _ _ _ _ _ _ c.loop-term.invariant c.loop-term-test.true c.term-item.is

pub loop-term-preserved : goal.loop-term-preserved
loop-term-preserved c = scaling _ _ _ _ _ _ c.loop-term.invariant c.loop-term-test.true c.term-item.is _ c.in_ok-push_multiple.ensures

pub returns : goal.returns
returns c = scaled_all _ _ _ _ _ _ (to_z-of_z _ _ c.ranges.c) c.loop-term.invariant c.loop-term-test.false
