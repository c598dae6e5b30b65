use Rattle.std.proofs.Common.{◌+◌, ◌*◌, sym, ◌∙◌, arith}
use Rattle.box_enum.proofs.EdgeLaws.{multiply, too_big, big_at_once, all_multiplied, times_4}
use Rattle.box_enum.proofs.modesty.is_small.Goals as goal

pub returns-then-number : goal.returns-then-number
returns-then-number c = big_at_once c.args.number (4 * c.args.reach + 4) c.args.exponent _ (omega arith) (omega arith)

pub returns-in_default : goal.returns-in_default
returns-in_default c = too_big _ _ _ _ _ _ c.loop.invariant (omega arith) (omega arith) (omega (arith, times_4 c.loop.multiple c.args.reach, c.in-Some.ensures))

pub returns-in_default-2 : goal.returns-in_default-2
returns-in_default-2 c = too_big _ _ _ _ _ _ c.loop.invariant (omega arith) (omega arith) (omega (arith, times_4 c.loop.multiple c.args.reach, c.in_default.ensures))

pub loop-preserved : goal.loop-preserved
loop-preserved c = multiply _ _ _ _ _ _ _ c.loop.invariant (omega arith) (sym (times_4 c.loop.multiple c.args.reach) ∙ sym c.in-Some.ensures.1) (omega arith)

pub returns : goal.returns
returns c = all_multiplied _ _ _ _ _ _ c.loop.invariant (omega arith)
