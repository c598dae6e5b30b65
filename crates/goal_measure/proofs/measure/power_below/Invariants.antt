use Rattle.std.specs.Prelude.{◌≡◌, ◌^◌, ◌<◌}
use Rattle.goal_measure.proofs.measure.power_below.Given as goal

-- the power by the turns so far, which is below the limit
abbrev pub invariant-loop : goal.invariant-loop
invariant-loop l = (l.value ≡ l.base ^ l.counter) × (l.value < l.limit)
