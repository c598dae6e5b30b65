use Rattle.cert_check.proofs.MemberLaws.{Counting}
use Rattle.cert_check.proofs.close.+check.Given as goal

-- the members that are left, from this value on, have the first fault of all of them
abbrev pub invariant-check_members-loop-member : goal.invariant-check_members-loop-member
invariant-check_members-loop-member l = Counting l.interval l.value l.members l.member-index l.rows l.fn.rows
