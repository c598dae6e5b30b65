use Rattle.std.specs.Prelude.{◌≡◌, ◌+◌, ◌*◌, [], true}
use Rattle.goal_ast.specs.Sorted.{is_sorted, formula_literals_small, formula_nodes}
use Rattle.mm_tests.proofs.goals.nested_formula.Given as goal

-- the formula so far is well sorted, and has a node for each turn besides those of its comparison
abbrev pub invariant-loop : goal.invariant-loop
invariant-loop l = (is_sorted l.f [] ≡ true) × (formula_literals_small l.f ≡ true) × (formula_nodes l.f ≡ l.counter + 2 * l.fn.depth + 3)
