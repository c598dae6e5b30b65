use Rattle.std.specs.Prelude.{◌↔◌, drop}
use Rattle.mm_poly.specs.Mono.{VarsBelow}
use Rattle.mm_poly.proofs.mono.are_below.Given as goal

-- what is left decides
abbrev pub invariant-loop-factor : goal.invariant-loop-factor
invariant-loop-factor l = VarsBelow l.count (drop l.factor-index l.factors) ↔ VarsBelow l.count l.factors
