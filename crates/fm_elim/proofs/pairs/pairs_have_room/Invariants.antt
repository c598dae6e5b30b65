use Rattle.std.proofs.Common.{◌≡◌, drop}
use Rattle.std.specs.List.{AllByRecursion}
use Rattle.fm_elim.specs.Steps.{pairs_have_room}
use Rattle.fm_elim.specs.machine.Sides.{IsSide, sides_of}
use Rattle.fm_elim.proofs.pairs.pairs_have_room.Given as goal

abbrev pub invariant-loop-lower : goal.invariant-loop-lower
invariant-loop-lower l = record {
  sides : AllByRecursion (IsSide l.unknown) (drop l.lower-index l.lowers);
  room : pairs_have_room l.unknown (sides_of (drop l.lower-index l.lowers)) (sides_of l.uppers) ≡ pairs_have_room l.unknown (sides_of l.lowers) (sides_of l.uppers);
}
