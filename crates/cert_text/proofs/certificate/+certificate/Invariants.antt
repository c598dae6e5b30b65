use Rattle.std.proofs.Common.{◌≡◌, ◌-◌, ◌+◌, ◌*◌, ◌^◌}
use Rattle.std.specs.Prelude.{codes}
use Rattle.cert_text.specs.Reading.{after, many_at, members_at, cert_at}
use Rattle.cert_text.proofs.LoopSteps.{with_front}
use Rattle.cert_text.proofs.certificate.+certificate.Given as goal

abbrev pub decreases-close : goal.decreases-close
decreases-close l = 4 * l.depth

abbrev pub decreases-certificate : goal.decreases-certificate
decreases-certificate l = 4 * l.depth + 1

abbrev pub decreases-split : goal.decreases-split
decreases-split l = 4 * l.depth + 2

abbrev pub decreases-members : goal.decreases-members
decreases-members l = 4 * l.depth + 2

abbrev pub decreases-enumeration : goal.decreases-enumeration
decreases-enumeration l = 4 * l.depth + 3

-- the members so far with what is left to read are all that is read
abbrev pub invariant-members-loop : goal.invariant-members-loop
invariant-members-loop l = with_front l.members.items (many_at (after (codes ", ")) (cert_at l.depth) (2 ^ 32 - 1 - l.counter) l.rest) ≡ members_at (cert_at l.depth) l.bytes
