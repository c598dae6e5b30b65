use Rattle.std.specs.Prelude.{◌≡◌, ◌++◌, ◌^◌, ◌<◌, drop, unsigned_abs}
use Rattle.mm_poly.specs.Poly.{norm, floor_divided}
use Rattle.mm_poly.proofs.parts.quotients.Given as goal

-- what is out, and the quotients of the terms that are left
abbrev pub invariant-loop-term : goal.invariant-loop-term
invariant-loop-term l = (l.out.items ++ floor_divided (unsigned_abs l.fn.divisor) (drop l.term-index l.terms) ≡ floor_divided (unsigned_abs l.fn.divisor) l.terms)
    × (norm (drop l.term-index l.terms) < 2 ^ 126)
