use Rattle.std.proofs.Common.{◌≡◌, ◌+◌, length, drop, false}
use Rattle.std.specs.Vec.Iter.{into_iter_items}
use Rattle.fm_elim.specs.Tidy.{tidied}
use Rattle.fm_elim.specs.Steps.{halved}
use Rattle.fm_elim.specs.machine.Halves.{halved_from}
use Rattle.fm_elim.specs.machine.Tidying.{rows_of, IsTidying}
use Rattle.std.specs.List.{AllByRecursion}
use Rattle.fm_elim.specs.machine.Logging.{IsLive, Logs}
use Rattle.fm_elim.proofs.standing.halve.Given as goal

abbrev pub invariant-loop-live : goal.invariant-loop-live
invariant-loop-live l = record {
  counted : l.n + length (into_iter_items l.live-iterator) ≡ length l.fn.rows.items;
  items : into_iter_items l.live-iterator ≡ drop l.n l.fn.rows.items;
  lives : AllByRecursion (IsLive l.initial.log) (into_iter_items l.live-iterator);
  logs : Logs false l.initial.log l.log l.kept.rows.items;
  tidying : IsTidying (tidied (halved l.place (rows_of l.fn.rows.items))) l.kept (halved_from (rows_of (into_iter_items l.live-iterator)) l.place l.n);
}
