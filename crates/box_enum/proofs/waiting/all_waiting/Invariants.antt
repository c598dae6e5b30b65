use Rattle.std.proofs.Common.{take}
use Rattle.box_enum.specs.machine.Searching.{ArePlaced}
use Rattle.box_enum.proofs.waiting.all_waiting.Given as goal

-- those that are out
abbrev pub invariant-loop-row : goal.invariant-loop-row
invariant-loop-row l = ArePlaced l.vars (take l.row-index l.rows) l.waiting.items
