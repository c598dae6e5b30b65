use Rattle.std.specs.Prelude.{◌≡◌, drop}
use Rattle.mm_poly.specs.Mono.{exponent_of}
use Rattle.mm_poly.proofs.mono.exponent_in.Given as goal

-- what is left decides
abbrev pub invariant-loop-factor : goal.invariant-loop-factor
invariant-loop-factor l = exponent_of (drop l.factor-index l.factors) l.v ≡ exponent_of l.factors l.v
