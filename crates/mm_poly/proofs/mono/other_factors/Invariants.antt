use Rattle.std.specs.Prelude.{◌≡◌, ◌++◌, drop}
use Rattle.mm_poly.specs.Mono.{without_variable}
use Rattle.mm_poly.proofs.mono.other_factors.Given as goal

-- what is out, and the others of those that are left
abbrev pub invariant-loop-factor : goal.invariant-loop-factor
invariant-loop-factor l = l.out.items ++ without_variable (drop l.factor-index l.factors) l.v ≡ without_variable l.factors l.v
