use Rattle.std.proofs.Common.{◌≡◌, true, false, map}
use Rattle.std.specs.Vec.Iter.{into_iter_items}
use Rattle.fm_elim.specs.Steps.{substituted, solve_has_room}
use Rattle.fm_elim.specs.machine.Tidying.{rows_of, IsTidying, then_tidied}
use Rattle.fm_elim.specs.Steps.{solved}
use Rattle.std.specs.List.{AllByRecursion}
use Rattle.fm_elim.specs.machine.Logging.{IsLive, Logs}
use Rattle.fm_elim.proofs.step.solve.Given as goal

abbrev pub invariant-loop-live : goal.invariant-loop-live
invariant-loop-live l = record {
  room : solve_has_room l.unknown l.equality.row.poly (rows_of (into_iter_items l.live-iterator)) ≡ true;
  lives : AllByRecursion (IsLive l.initial.log) (into_iter_items l.live-iterator);
  logs : Logs false l.initial.log l.log l.kept.rows.items;
  tidying : IsTidying (then_tidied (solved l.unknown l.equality.row.poly (rows_of l.fn.others.items))) l.kept
      (map (substituted l.unknown l.equality.row.poly) (rows_of (into_iter_items l.live-iterator)));
}
