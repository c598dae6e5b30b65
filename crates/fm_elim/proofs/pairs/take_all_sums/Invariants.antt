use Rattle.std.proofs.Common.{◌≡◌, drop, true, false}
use Rattle.std.specs.List.{AllByRecursion}
use Rattle.fm_elim.specs.Steps.{combined_all, pairs_have_room}
use Rattle.fm_elim.specs.machine.Sides.{IsSide, sides_of}
use Rattle.fm_elim.specs.machine.Logging.{IsLiveSide, Logs}
use Rattle.fm_elim.proofs.FedLaws.{Toward}
use Rattle.fm_elim.proofs.pairs.take_all_sums.Given as goal

abbrev pub invariant-loop-lower : goal.invariant-loop-lower
invariant-loop-lower l = record {
  sides : AllByRecursion (IsSide l.unknown) (drop l.lower-index l.lowers);
  room : pairs_have_room l.unknown (sides_of (drop l.lower-index l.lowers)) (sides_of l.uppers) ≡ true;
  lives : AllByRecursion (IsLiveSide l.initial.log) (drop l.lower-index l.lowers);
  logs : Logs false l.initial.log l.log l.kept.rows.items;
  toward : Toward l.initial.kept l.kept (combined_all l.unknown (sides_of l.lowers) (sides_of l.uppers)) (combined_all l.unknown (sides_of (drop l.lower-index l.lowers)) (sides_of l.uppers));
}
