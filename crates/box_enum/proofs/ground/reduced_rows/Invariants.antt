use Rattle.box_enum.specs.machine.Trunks.{ArePut, with_singles}
use Rattle.box_enum.proofs.ground.reduced_rows.Given as goal

-- the rows up to here are put
abbrev pub invariant-loop-n : goal.invariant-loop-n
invariant-loop-n l = ArePut l.rows (with_singles l.rows l.single) l.choices l.n l.steps.items l.standing.items
