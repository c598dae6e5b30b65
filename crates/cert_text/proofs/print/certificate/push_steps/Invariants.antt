use Rattle.std.proofs.Common.{◌≡◌, ◌++◌, drop}
use Rattle.std.specs.List.{flat_map}
use Rattle.cert_text.specs.Text.{step_text}
use Rattle.cert_text.proofs.print.certificate.push_steps.Given as goal

-- what is out, with the steps that are left
abbrev pub invariant-loop-step : goal.invariant-loop-step
invariant-loop-step l = l.out.items ++ flat_map step_text (drop l.step-index l.steps) ≡ l.fn.out.items ++ flat_map step_text l.steps
