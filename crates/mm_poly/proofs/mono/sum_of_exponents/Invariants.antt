use Rattle.std.specs.Prelude.{◌≡◌, ◌+◌, drop}
use Rattle.mm_poly.specs.Mono.{mono_degree}
use Rattle.mm_poly.proofs.mono.sum_of_exponents.Given as goal

-- the sum so far and the exponents that are left
abbrev pub invariant-loop-factor : goal.invariant-loop-factor
invariant-loop-factor l = l.total + mono_degree (drop l.factor-index l.factors) ≡ mono_degree l.factors
