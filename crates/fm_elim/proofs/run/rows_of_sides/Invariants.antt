use Rattle.std.proofs.Common.{◌≡◌, ◌++◌}
use Rattle.std.specs.Vec.Iter.{into_iter_items}
use Rattle.fm_elim.specs.machine.Sides.{sides_of}
use Rattle.fm_elim.proofs.run.rows_of_sides.Given as goal

abbrev pub invariant-loop-side : goal.invariant-loop-side
invariant-loop-side l = l.rows.items ++ sides_of (into_iter_items l.side-iterator) ≡ sides_of l.fn.sides.items
