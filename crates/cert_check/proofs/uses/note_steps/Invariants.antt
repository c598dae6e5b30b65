use Rattle.std.specs.Prelude.{◌≡◌, drop}
use Rattle.cert_check.specs.Uses.{steps_numbers, noted}
use Rattle.cert_check.proofs.uses.note_steps.Given as goal

-- the steps that are left lead to what all lead to
abbrev pub invariant-loop-step : goal.invariant-loop-step
invariant-loop-step l = noted l.first l.time (steps_numbers (drop l.step-index l.steps)) l.times.items ≡ noted l.first l.time (steps_numbers l.steps) l.fn.times.items
