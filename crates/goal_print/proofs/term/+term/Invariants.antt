use Rattle.std.proofs.Common.{◌+◌, ◌*◌}
use Rattle.goal_ast.specs.Sorted.{term_nodes}
use Rattle.goal_print.proofs.term.+term.Given as goal

abbrev pub decreases-push_term : goal.decreases-push_term
decreases-push_term l = 2 * term_nodes l.t.now + 1

abbrev pub decreases-push_bare : goal.decreases-push_bare
decreases-push_bare l = 2 * term_nodes l.t.now
