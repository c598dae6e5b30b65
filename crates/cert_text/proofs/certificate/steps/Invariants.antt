use Rattle.std.proofs.Common.{◌≡◌, ◌-◌}
use Rattle.cert_text.specs.Reading.{steps_at}
use Rattle.cert_text.proofs.LoopSteps.{with_front}
use Rattle.cert_text.proofs.certificate.steps.Given as goal

-- the steps so far with what is left to read are all that is read
abbrev pub invariant-loop : goal.invariant-loop
invariant-loop l = with_front l.steps.items (steps_at l.depth (l.most - l.counter) l.rest) ≡ steps_at l.depth l.most l.bytes
