use Rattle.std.specs.Prelude.{◌≡◌, ◌+◌, ◌^◌, ◌<◌, drop}
use Rattle.mm_poly.specs.Poly.{norm}
use Rattle.mm_poly.proofs.poly.is_small.Given as goal

-- the sum so far and the magnitudes that are left
abbrev pub invariant-loop-term : goal.invariant-loop-term
invariant-loop-term l = (l.total + norm (drop l.term-index l.terms) ≡ norm l.terms) × (l.total < 2 ^ 126)
