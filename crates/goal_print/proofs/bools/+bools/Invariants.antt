use Rattle.std.proofs.Common.{◌+◌, ◌*◌}
use Rattle.goal_ast.specs.Sorted.{bool_nodes}
use Rattle.goal_print.proofs.bools.+bools.Given as goal

abbrev pub decreases-push_bool : goal.decreases-push_bool
decreases-push_bool l = 2 * bool_nodes l.t.now + 1

abbrev pub decreases-push_bare : goal.decreases-push_bare
decreases-push_bare l = 2 * bool_nodes l.t.now
