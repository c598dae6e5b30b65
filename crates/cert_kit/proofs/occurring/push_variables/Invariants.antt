use Rattle.std.proofs.Common.{◌≡◌, ◌++◌, drop}
use Rattle.cert_kit.specs.Variables.{poly_variables}
use Rattle.cert_kit.proofs.occurring.push_variables.Given as goal

-- what is out, and the terms that are left
abbrev pub invariant-loop-term : goal.invariant-loop-term
invariant-loop-term l = l.vars.items ++ poly_variables (drop l.term-index l.terms) ≡ l.fn.vars.items ++ poly_variables l.terms
