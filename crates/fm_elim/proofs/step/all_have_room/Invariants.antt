use Rattle.std.proofs.Common.{◌≡◌, drop}
use Rattle.fm_elim.specs.Steps.{solve_has_room}
use Rattle.fm_elim.specs.machine.Tidying.{rows_of}
use Rattle.fm_elim.proofs.step.all_have_room.Given as goal

abbrev pub invariant-loop-live : goal.invariant-loop-live
invariant-loop-live l = solve_has_room l.unknown l.equality.row.poly (rows_of (drop l.live-index l.rows)) ≡ solve_has_room l.unknown l.equality.row.poly (rows_of l.rows)
