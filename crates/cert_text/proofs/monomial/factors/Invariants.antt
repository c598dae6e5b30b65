use Rattle.std.proofs.Common.{◌≡◌, ◌-◌}
use Rattle.cert_text.specs.Reading.{more_factors_at, factors_at}
use Rattle.cert_text.proofs.LoopSteps.{with_front}
use Rattle.cert_text.proofs.monomial.factors.Given as goal

-- the factors so far with what is left to read are all that is read
abbrev pub invariant-loop : goal.invariant-loop
invariant-loop l = with_front l.factors.items (more_factors_at (255 - l.counter) l.rest) ≡ factors_at l.bytes
