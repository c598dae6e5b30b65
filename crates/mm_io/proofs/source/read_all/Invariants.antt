use Rattle.std.proofs.Common.{length, ◌+◌, ◌-◌, ◌≤◌}
use Rattle.std.specs.Io.KnownBytes.{Consumes}
use Rattle.mm_io.proofs.source.read_all.Given as goal

abbrev pub invariant-loop-chunk : goal.invariant-loop-chunk
invariant-loop-chunk g l =
    Consumes (g.S.Source.left l.initial.src) (g.S.Source.left l.src) l.bytes.items
    × (g.S.Source.faults l.initial.src ≤ g.S.Source.faults l.src)
    × (length l.bytes.items ≤ l.limit + 1)

abbrev pub decreases-loop-chunk : goal.decreases-loop-chunk
decreases-loop-chunk g l = l.limit + 1 - length l.bytes.items
