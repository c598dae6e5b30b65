use Rattle.std.proofs.Common.{◌≡◌, ◌++◌, drop}
use Rattle.box_enum.specs.machine.Edges.{edges_of}
use Rattle.box_enum.proofs.edge.edges.Given as goal

-- what is out, and those that are left
abbrev pub invariant-loop-n : goal.invariant-loop-n
invariant-loop-n l = l.edges.items ++ edges_of (drop l.n l.low) (drop l.n l.high) ≡ edges_of l.low l.high
