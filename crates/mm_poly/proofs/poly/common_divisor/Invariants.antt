use Rattle.std.specs.Prelude.{◌≡◌, ◌^◌, ◌<◌, pos, drop}
use Rattle.mm_poly.specs.Poly.{content}
use Rattle.mm_poly.proofs.poly.common_divisor.Given as goal

-- the divisor of those from here on
abbrev pub invariant-loop-n : goal.invariant-loop-n
invariant-loop-n l = (l.divisor ≡ pos (content (drop l.n l.terms))) × (content (drop l.n l.terms) < 2 ^ 126)
