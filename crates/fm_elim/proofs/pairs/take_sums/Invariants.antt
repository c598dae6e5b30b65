use Rattle.std.proofs.Common.{◌≡◌, drop, true, false, map}
use Rattle.std.specs.List.{AllByRecursion, list_all}
use Rattle.fm_elim.specs.Steps.{combined, pair_has_room}
use Rattle.fm_elim.specs.machine.Sides.{IsSide, sides_of}
use Rattle.fm_elim.specs.machine.Logging.{IsLiveSide, Logs}
use Rattle.fm_elim.proofs.FedLaws.{Toward}
use Rattle.fm_elim.proofs.pairs.take_sums.Given as goal

abbrev pub invariant-loop-upper : goal.invariant-loop-upper
invariant-loop-upper l = record {
  sides : AllByRecursion (IsSide l.unknown) (drop l.upper-index l.uppers);
  room : list_all (pair_has_room l.unknown l.lower.live.row) (sides_of (drop l.upper-index l.uppers)) ≡ true;
  lives : AllByRecursion (IsLiveSide l.initial.log) (drop l.upper-index l.uppers);
  logs : Logs false l.initial.log l.log l.kept.rows.items;
  toward : Toward l.initial.kept l.kept (map (combined l.unknown l.lower.live.row) (sides_of l.uppers)) (map (combined l.unknown l.lower.live.row) (sides_of (drop l.upper-index l.uppers)));
}
