use Rattle.std.proofs.Common.{◌≡◌, drop, map}
use Rattle.cert_kit.specs.Depth.{all_in_range, cert_constants}
use Rattle.cert_kit.proofs.constants.+constants.Given as goal

-- what is left decides
abbrev pub invariant-are_certs_in_range-loop-member : goal.invariant-are_certs_in_range-loop-member
invariant-are_certs_in_range-loop-member l = all_in_range (map cert_constants (drop l.member-index l.members)) ≡ all_in_range (map cert_constants l.members)
