use Rattle.std.proofs.Common.{◌≡◌, ◌++◌, drop, map}
use Rattle.fm_elim.specs.machine.Giving.{given}
use Rattle.fm_elim.proofs.point.values_at.Given as goal

abbrev pub invariant-loop-unknown : goal.invariant-loop-unknown
invariant-loop-unknown l = l.out.items ++ map (given l.values.values.items) (drop l.unknown-index l.unknowns) ≡ map (given l.values.values.items) l.unknowns
