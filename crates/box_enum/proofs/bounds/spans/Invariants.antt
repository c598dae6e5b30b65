use Rattle.std.proofs.Common.{◌≡◌, drop, map}
use Rattle.box_enum.specs.machine.Reading.{span_of}
use Rattle.box_enum.proofs.bounds.spans.Given as goal

-- what the rows from here on say
abbrev pub invariant-loop-n : goal.invariant-loop-n
invariant-loop-n l = l.spans.items ≡ map (span_of (drop l.n l.rows)) l.vars
