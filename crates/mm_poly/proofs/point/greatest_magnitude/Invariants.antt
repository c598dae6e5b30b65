use Rattle.std.specs.Prelude.{◌≡◌, max, drop}
use Rattle.mm_poly.specs.Point.{greatest_magnitude}
use Rattle.mm_poly.proofs.point.greatest_magnitude.Given as goal

-- the greatest so far and those that are left
abbrev pub invariant-loop-number : goal.invariant-loop-number
invariant-loop-number l = max l.greatest (greatest_magnitude (drop l.number-index l.point)) ≡ greatest_magnitude l.point
