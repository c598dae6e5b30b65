use Rattle.std.proofs.Common.{arith}
use Rattle.box_enum.proofs.EdgeLaws.{small_reach}
use Rattle.box_enum.proofs.modesty.is_box_within.Goals as goal

pub are_modest-requires : goal.are_modest-requires
are_modest-requires c = omega (arith, small_reach c.args.edges.now c.requires, c.reach.ensures)
