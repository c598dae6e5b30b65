use Rattle.std.specs.Prelude.{◌≡◌, drop}
use Rattle.cert_check.specs.Uses.{steps_noted}
use Rattle.cert_check.proofs.uses.note_in_order.Given as goal

-- the steps that are left lead to what all lead to
abbrev pub invariant-loop-time : goal.invariant-loop-time
invariant-loop-time l = steps_noted l.first l.time (drop l.time l.steps) l.times.items ≡ steps_noted l.first 0 l.steps l.fn.times.items
