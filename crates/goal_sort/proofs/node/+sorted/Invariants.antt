use Rattle.std.proofs.Common.{◌+◌, ◌*◌}
use Rattle.goal_sort.specs.Sorting.{raw_nodes}
use Rattle.goal_sort.proofs.node.+sorted.Given as goal

abbrev pub decreases-one_operand : goal.decreases-one_operand
decreases-one_operand l = 4 * raw_nodes l.a.now + 1

abbrev pub decreases-both_operands : goal.decreases-both_operands
decreases-both_operands l = 4 * (raw_nodes l.a.now + raw_nodes l.b.now) + 1

abbrev pub decreases-left_operand : goal.decreases-left_operand
decreases-left_operand l = 4 * (raw_nodes l.a.now + raw_nodes l.b.now) + 1

abbrev pub decreases-two_operands : goal.decreases-two_operands
decreases-two_operands l = 4 * (raw_nodes l.a.now + raw_nodes l.b.now) + 2

abbrev pub decreases-three_operands : goal.decreases-three_operands
decreases-three_operands l = 4 * (raw_nodes l.a.now + (raw_nodes l.b.now + raw_nodes l.c.now)) + 1

abbrev pub decreases-sorted : goal.decreases-sorted
decreases-sorted l = 4 * raw_nodes l.e.now
