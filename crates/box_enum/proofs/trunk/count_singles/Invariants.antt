use Rattle.std.proofs.Common.{take}
use Rattle.std.specs.List.{AllByRecursion}
use Rattle.box_enum.specs.machine.Trunks.{IsSingle}
use Rattle.box_enum.proofs.trunk.count_singles.Given as goal

-- those that were looked at have a single value
abbrev pub invariant-loop-n : goal.invariant-loop-n
invariant-loop-n l = AllByRecursion IsSingle (take l.n l.walls)
