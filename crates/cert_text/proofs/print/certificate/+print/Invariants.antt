use Rattle.std.proofs.Common.{◌≡◌, ◌++◌, drop, map}
use Rattle.cert_text.specs.Text.{more_members, cert_text}
use Rattle.cert_text.proofs.print.certificate.+print.Given as goal

-- what is out, with the members that are left
abbrev pub invariant-push_members-loop-member : goal.invariant-push_members-loop-member
invariant-push_members-loop-member l = l.out.items ++ more_members (map cert_text (drop l.member-index l.members)) ≡ l.fn.out.items ++ more_members (map cert_text l.members)
