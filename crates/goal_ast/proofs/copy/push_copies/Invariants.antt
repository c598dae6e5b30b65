use Rattle.std.specs.Prelude.{◌≡◌, ◌++◌, take}
use Rattle.goal_ast.proofs.copy.push_copies.Given as goal

-- those so far are out
abbrev pub invariant-loop-bound : goal.invariant-loop-bound
invariant-loop-bound l = l.out.items ≡ l.fn.out.items ++ take l.bound-index l.vars
