use Rattle.std.specs.Prelude.{◌↔◌, drop}
use Rattle.mm_poly.specs.Poly.{HasPlaces}
use Rattle.mm_poly.proofs.point.have_places.Given as goal

-- what is left decides
abbrev pub invariant-loop-term : goal.invariant-loop-term
invariant-loop-term l = HasPlaces l.count (drop l.term-index l.terms) ↔ HasPlaces l.count l.terms
