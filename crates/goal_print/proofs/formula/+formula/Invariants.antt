use Rattle.std.proofs.Common.{◌+◌, ◌*◌}
use Rattle.goal_ast.specs.Sorted.{formula_nodes}
use Rattle.goal_print.proofs.formula.+formula.Given as goal

abbrev pub decreases-push_formula : goal.decreases-push_formula
decreases-push_formula l = 2 * formula_nodes l.f.now + 1

abbrev pub decreases-push_bare : goal.decreases-push_bare
decreases-push_bare l = 2 * formula_nodes l.f.now
