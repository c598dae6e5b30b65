use Rattle.std.proofs.Common.{◌≡◌, drop}
use Rattle.box_enum.specs.Box.{reach_of}
use Rattle.box_enum.specs.machine.Edges.{sides_at}
use Rattle.box_enum.proofs.edge.reach.Given as goal

-- that of the sides from here on
abbrev pub invariant-loop-n : goal.invariant-loop-n
invariant-loop-n l = l.reach ≡ reach_of (sides_at (drop l.n l.edges))
