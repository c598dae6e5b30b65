use Rattle.std.proofs.Common.{arith}
use Rattle.box_enum.proofs.EdgeLaws.{edges_all}
use Rattle.box_enum.proofs.edge.edges.Goals as goal

pub returns : goal.returns
returns c = edges_all _ _ _ _ _ c.loop-n.n c.as_slice-low.ensures c.as_slice-high.ensures (omega arith) c.loop-n.invariant
