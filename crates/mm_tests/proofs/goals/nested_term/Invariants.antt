use Rattle.std.specs.Prelude.{◌≡◌, ◌+◌, [], true}
use Rattle.goal_ast.specs.declared.term.Sort.TheVariants as sorts
use Rattle.goal_ast.specs.Sorted.{has_sort, literals_small, term_nodes}
use Rattle.mm_tests.proofs.goals.nested_term.Given as goal

-- the term so far is well sorted, and has one node more than there were turns
abbrev pub invariant-loop : goal.invariant-loop
invariant-loop l = (has_sort l.t [] sorts.Int ≡ true) × (literals_small l.t ≡ true) × (term_nodes l.t ≡ l.counter + 1)
