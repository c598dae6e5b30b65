use Rattle.std.proofs.Common.{◌≡◌, ◌++◌, drop}
use Rattle.cert_kit.specs.Variables.{mono_variables}
use Rattle.cert_kit.proofs.occurring.push_factors.Given as goal

-- what is out, and the factors that are left
abbrev pub invariant-loop-factor : goal.invariant-loop-factor
invariant-loop-factor l = l.vars.items ++ mono_variables (drop l.factor-index l.factors) ≡ l.fn.vars.items ++ mono_variables l.factors
