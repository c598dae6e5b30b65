use Rattle.std.proofs.Common.{◌≡◌, ◌-◌}
use Rattle.cert_text.specs.Reading.{more_terms_at, terms_at}
use Rattle.cert_text.proofs.LoopSteps.{with_front}
use Rattle.cert_text.proofs.polynomial.terms.Given as goal

-- the terms so far with what is left to read are all that is read
abbrev pub invariant-loop : goal.invariant-loop
invariant-loop l = with_front l.terms.items (more_terms_at (65536 - l.counter) l.rest) ≡ terms_at l.bytes
