use Rattle.std.proofs.Common.{drop, false}
use Rattle.fm_elim.specs.Tidy.{tidied}
use Rattle.fm_elim.specs.machine.Tidying.{IsTidying}
use Rattle.fm_elim.specs.machine.Logging.{Logs}
use Rattle.fm_elim.proofs.run.tidy_rows.Given as goal

abbrev pub invariant-loop-n : goal.invariant-loop-n
invariant-loop-n l = record {
  tidying : IsTidying (tidied l.rows) l.kept (drop l.n l.rows);
  logs : Logs false l.initial.log l.log l.kept.rows.items;
}
