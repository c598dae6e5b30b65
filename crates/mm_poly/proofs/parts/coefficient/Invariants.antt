use Rattle.std.specs.Prelude.{◌≡◌, drop}
use Rattle.mm_poly.specs.Poly.{coeff_of}
use Rattle.mm_poly.proofs.parts.coefficient.Given as goal

-- what is left decides
abbrev pub invariant-loop-term : goal.invariant-loop-term
invariant-loop-term l = coeff_of (drop l.term-index l.terms) l.mono ≡ coeff_of l.terms l.mono
