use Rattle.std.specs.Prelude.{◌≡◌, drop, map}
use Rattle.cert_check.specs.Uses.{all_numbers, cert_numbers, noted}
use Rattle.cert_check.proofs.uses.+note.Given as goal

-- the members that are left lead to what all lead to
abbrev pub invariant-note_certs-loop-member : goal.invariant-note_certs-loop-member
invariant-note_certs-loop-member l = noted l.first l.time (all_numbers (map cert_numbers (drop l.member-index l.members))) l.times.items
    ≡ noted l.first l.time (all_numbers (map cert_numbers l.members)) l.fn.times.items
