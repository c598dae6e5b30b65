-- What leaves room for a result within the limits.
use Rattle.std.specs.Prelude.{◌+◌, ◌*◌, ◌^◌, ◌<◌, ◌≤◌, List}
use Rattle.mm_poly.specs.declared.term.Term.{Term}
use Rattle.mm_poly.specs.Poly.{norm, spread, degree}

-- the sum of two polynomials is within the limits
pub record SumHasRoom (p q : List Term) : Type 0 where
  pub norm : norm p + norm q < 2 ^ 126
  pub spread : spread p + spread q ≤ 65536

-- the product of two polynomials is within the limits
pub record ProductHasRoom (p q : List Term) : Type 0 where
  pub norm : norm p * norm q < 2 ^ 126
  pub spread : spread p * spread q ≤ 65536
  pub degree : degree p + degree q ≤ 255
