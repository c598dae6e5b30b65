use Rattle.std.proofs.Common.{◌∙◌}
use Rattle.std.proofs.lemmas.Int.{to_z-of_z}
use Rattle.mm_poly.proofs.CombinationSteps.{product_as, sum_is}
use Rattle.mm_poly.proofs.sum.combined.Goals as goal

pub returns : goal.returns
returns c = sum_is _ _ _ _ c.multiple.ensures.small c.multiple-2.ensures.small
    (c.multiple.ensures.value ∙ product_as _ _ _ _ (to_z-of_z _ _ c.ranges.a) (to_z-of_z _ _ c.ranges.first))
    (c.multiple-2.ensures.value ∙ product_as _ _ _ _ (to_z-of_z _ _ c.ranges.b) (to_z-of_z _ _ c.ranges.second))
