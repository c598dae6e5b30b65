use Rattle.std.proofs.Common.{true, false}
use Rattle.fm_elim.specs.Elimination.{outcome_in, enough_steps}
use Rattle.fm_elim.specs.machine.Tidying.{rows_of, AreStanding}
use Rattle.fm_elim.specs.machine.Running.{IsRunning}
use Rattle.fm_elim.specs.machine.Logging.{Logs}
use Rattle.fm_elim.proofs.run.run_from.Given as goal

abbrev pub invariant-loop-left : goal.invariant-loop-left
invariant-loop-left l = record {
  running : IsRunning (outcome_in (enough_steps (rows_of l.fn.rows.items)) true (rows_of l.fn.rows.items)) l.left l.state;
  tidy : AreStanding (rows_of l.state.rows.items);
  logs : Logs false l.initial.log l.log l.state.rows.items;
}

abbrev pub decreases-loop-left : goal.decreases-loop-left
decreases-loop-left l = l.left
