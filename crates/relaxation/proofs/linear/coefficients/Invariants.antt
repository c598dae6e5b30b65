use Rattle.std.proofs.Common.{◌≡◌, ◌++◌, drop, map}
use Rattle.mm_poly.specs.Poly.{coeff_of}
use Rattle.relaxation.proofs.linear.coefficients.Given as goal

abbrev pub invariant-loop-unknown : goal.invariant-loop-unknown
invariant-loop-unknown l = l.coeffs.items ++ map (coeff_of l.poly) (drop l.unknown-index l.unknowns) ≡ map (coeff_of l.poly) l.unknowns
