use Rattle.std.proofs.Common.{◌≡◌, drop}
use Rattle.std.specs.List.{AllByRecursion, list_all}
use Rattle.fm_elim.specs.Steps.{pair_has_room}
use Rattle.fm_elim.specs.machine.Sides.{IsSide, sides_of}
use Rattle.fm_elim.proofs.pairs.has_room_with.Given as goal

abbrev pub invariant-loop-upper : goal.invariant-loop-upper
invariant-loop-upper l = record {
  sides : AllByRecursion (IsSide l.unknown) (drop l.upper-index l.uppers);
  room : list_all (pair_has_room l.unknown l.lower.live.row) (sides_of (drop l.upper-index l.uppers)) ≡ list_all (pair_has_room l.unknown l.lower.live.row) (sides_of l.uppers);
}
