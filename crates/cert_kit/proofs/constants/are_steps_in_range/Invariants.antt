use Rattle.std.proofs.Common.{◌≡◌, drop}
use Rattle.cert_kit.specs.Depth.{steps_in_range}
use Rattle.cert_kit.proofs.constants.are_steps_in_range.Given as goal

-- what is left decides
abbrev pub invariant-loop-step : goal.invariant-loop-step
invariant-loop-step l = steps_in_range (drop l.step-index l.steps) ≡ steps_in_range l.steps
