use Rattle.std.proofs.Common.{◌≡◌, ◌^◌, ◌-◌, min, drop}
use Rattle.box_enum.specs.Box.{size_of}
use Rattle.box_enum.specs.machine.Edges.{sides_at}
use Rattle.box_enum.proofs.edge.size.Given as goal

-- that of the sides from here on
abbrev pub invariant-loop-n : goal.invariant-loop-n
invariant-loop-n l = l.size ≡ min (size_of (sides_at (drop l.n l.edges))) (2 ^ 128 - 1)
