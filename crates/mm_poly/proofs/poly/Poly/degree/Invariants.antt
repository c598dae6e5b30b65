use Rattle.std.specs.Prelude.{◌≡◌, max, drop}
use Rattle.mm_poly.specs.Poly.{degree}
use Rattle.mm_poly.proofs.poly.Poly.degree.Given as goal

abbrev pub invariant-loop-term : goal.invariant-loop-term
invariant-loop-term l = max l.greatest (degree (drop l.term-index l.term-items)) ≡ degree l.term-items
