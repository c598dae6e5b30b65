-- What leaves room for a result within the limits.
use Rattle.std.specs.Prelude.{◌+◌, ◌^◌, ◌<◌, ◌≤◌, unsigned_abs, List}
use Rattle.mm_poly.specs.declared.term.Term.{Term}
use Rattle.mm_poly.specs.Poly.{norm, spread, degree, constant_of}
use Rattle.cert_kit.specs.declared.bounds.Bounds.{Bounds}
use Rattle.cert_kit.specs.Acceptance.{Range}

-- the bounds are at least the polynomial's own
pub record Covers (b : Bounds) (p : List Term) : Type 0 where
  pub norm : norm p ≤ b.norm
  pub spread : spread p ≤ b.spread
  pub degree : degree p ≤ b.degree

-- the least and the greatest value can be subtracted from the polynomial
pub record ValuesHaveRoom (r : Range) : Type 0 where
  pub low_norm : norm r.poly + unsigned_abs r.low < 2 ^ 126
  pub high_norm : norm r.poly + unsigned_abs r.high < 2 ^ 126
  pub low_spread : spread r.poly + spread (constant_of r.low) ≤ 65536
  pub high_spread : spread r.poly + spread (constant_of r.high) ≤ 65536
