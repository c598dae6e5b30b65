-- The log as an elimination goes, and as it ends.
use Rattle.std.specs.Prelude.{[], true, false}
use Rattle.fm_elim.specs.declared.log.Log.{Log}
use Rattle.fm_elim.specs.declared.state.Ran.{Ran}
use Rattle.fm_elim.specs.declared.state.Ran.TheVariants as ran
use Rattle.fm_elim.specs.declared.state.Next.{Next}
use Rattle.fm_elim.specs.declared.state.Next.TheVariants as after
use Rattle.fm_elim.specs.declared.ending.Ending.{Ending}
use Rattle.fm_elim.specs.declared.ending.Ending.TheVariants as ending
use Rattle.fm_elim.specs.machine.Logging.{Logs}

abbrev pub LogsRan : Ran → Log → Log → Type 0
LogsRan ran.Contra old new = Logs true old new []
LogsRan (ran.Point removed norm) old new = Unit {0}
LogsRan ran.Grey old new = Unit {0}
LogsRan ran.Over old new = Unit {0}

abbrev pub LogsNext : Next → Log → Log → Type 0
LogsNext (after.Going s) old new = Logs false old new s.rows.items
LogsNext (after.Ended r) old new = LogsRan r old new

abbrev pub LogsEnding : Ending → Log → Log → Type 0
LogsEnding ending.Contra old new = Logs true old new []
LogsEnding (ending.Point values) old new = Unit {0}
LogsEnding ending.Grey old new = Unit {0}
LogsEnding ending.Over old new = Unit {0}
