use Rattle.std.specs.Prelude.{◌≡◌, drop}
use Rattle.cert_text.specs.Check.{are_steps_within}
use Rattle.cert_text.proofs.grammar.steps_fit.Given as goal

-- the steps that are left decide
abbrev pub invariant-loop-step : goal.invariant-loop-step
invariant-loop-step l = are_steps_within (drop l.step-index l.steps) ≡ are_steps_within l.steps
