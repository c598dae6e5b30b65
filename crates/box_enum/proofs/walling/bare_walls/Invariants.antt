use Rattle.std.proofs.Common.{◌≡◌, ◌++◌, drop}
use Rattle.box_enum.specs.machine.Walling.{bare_walls}
use Rattle.box_enum.proofs.walling.bare_walls.Given as goal

-- what is out, and those that are left
abbrev pub invariant-loop-n : goal.invariant-loop-n
invariant-loop-n l = l.walls.items ++ bare_walls (drop l.n l.vars) (drop l.n l.edges) ≡ bare_walls l.vars l.edges
