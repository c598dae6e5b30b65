use Rattle.std.proofs.Common.{take}
use Rattle.mm_poly.specs.Point.{point_of}
use Rattle.cert_kit.specs.Row.{Solves}
use Rattle.integer_search.proofs.checked.solve.Given as goal

abbrev pub invariant-loop-row : goal.invariant-loop-row
invariant-loop-row l = Solves (point_of l.values) (take l.row-index l.rows)
