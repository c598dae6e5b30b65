use Rattle.std.proofs.Common.{◌≡◌, ◌<◌, pos, to_z, of_z, get_or, length, ◌∙◌, arith}
use Rattle.std.specs.Int.{w128}
use Rattle.mm_num.proofs.FracLaws.{wide}
use Rattle.simplex_core.proofs.LoopLaws.{mapping_item, mapping_step}
use Rattle.simplex_core.proofs.numbers.divide.Goals as goal

pub loop-c-preserved : goal.loop-c-preserved
loop-c-preserved c =
    let lt : c.loop-c.c-index < length c.loop-c.numbers = omega arith in
    let item : to_z w128 (of_z w128 (get_or c.loop-c.numbers c.loop-c.c-index (pos 0))) ≡ get_or c.loop-c.numbers c.loop-c.c-index (pos 0) =
    wide _ (mapping_item _ _ _ _ _ (pos 0) c.loop-c.invariant lt) in
    mapping_step _ _ _ _ _ (pos 0) _ c.loop-c.invariant lt
    (wide c.floor_div.result c.floor_div.ensures.small ∙ (simp item at c.floor_div.ensures.value))
