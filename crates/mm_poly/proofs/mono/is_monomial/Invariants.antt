use Rattle.std.specs.Prelude.{◌≡◌, ◌^◌, ◌≤◌, take, drop}
use Rattle.mm_poly.specs.Mono.{VarsBelow}
use Rattle.mm_poly.specs.Tests.{rises}
use Rattle.mm_poly.proofs.mono.is_monomial.Given as goal

-- what is left decides
abbrev pub invariant-loop-n : goal.invariant-loop-n
invariant-loop-n l = (rises l.degree (drop l.n l.factors) ≡ rises 0 l.factors) × (l.degree ≤ 255) × VarsBelow (2 ^ 32) (take l.n l.factors)
