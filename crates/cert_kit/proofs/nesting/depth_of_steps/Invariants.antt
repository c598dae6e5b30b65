use Rattle.std.proofs.Common.{◌≡◌, ◌-◌, ◌^◌, min, max, drop}
use Rattle.cert_kit.specs.Depth.{steps_depth}
use Rattle.cert_kit.proofs.nesting.depth_of_steps.Given as goal

-- the deepest so far with what is left is the deepest of all
abbrev pub invariant-loop-step : goal.invariant-loop-step
invariant-loop-step l = max l.most (min (steps_depth (drop l.step-index l.steps)) (2 ^ 32 - 1)) ≡ min (steps_depth l.steps) (2 ^ 32 - 1)
