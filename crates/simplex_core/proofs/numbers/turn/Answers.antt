use Rattle.std.proofs.Common.{◌^◌, ◌<◌, pos, get_or, length, unsigned_abs, arith}
use Rattle.std.proofs.lemmas.Int.{ints}
use Rattle.simplex_core.proofs.LoopLaws.{mapping_item, mapping_step}
use Rattle.simplex_core.proofs.numbers.turn.Goals as goal

pub overflow_sub-c : goal.overflow_sub-c
overflow_sub-c c =
    let lt : c.loop-c.c-index < length c.loop-c.numbers = omega arith in
    let h : unsigned_abs (get_or c.loop-c.numbers c.loop-c.c-index (pos 0)) < 2 ^ 30 =
    mapping_item _ _ _ _ _ (pos 0) c.loop-c.invariant lt in
    omega (arith, ints, h)

pub loop-c-preserved : goal.loop-c-preserved
loop-c-preserved c =
    let lt : c.loop-c.c-index < length c.loop-c.numbers = omega arith in
    let h : unsigned_abs (get_or c.loop-c.numbers c.loop-c.c-index (pos 0)) < 2 ^ 30 =
    mapping_item _ _ _ _ _ (pos 0) c.loop-c.invariant lt in
    mapping_step _ _ _ _ _ (pos 0) _ c.loop-c.invariant lt (omega (arith, ints, h))
