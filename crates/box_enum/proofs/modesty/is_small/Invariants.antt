use Rattle.std.proofs.Common.{◌+◌, ◌*◌, ◌^◌}
use Rattle.box_enum.proofs.EdgeLaws.{Multiplying}
use Rattle.box_enum.proofs.modesty.is_small.Given as goal

abbrev pub invariant-loop : goal.invariant-loop
invariant-loop l = Multiplying l.number (4 * l.reach + 4) l.exponent (2 ^ 100) l.multiple l.counter
