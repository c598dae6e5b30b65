use Rattle.std.proofs.Common.{◌≡◌, take}
use Rattle.cert_kit.proofs.copy.+copying.Given as goal

abbrev pub invariant-copied_members-loop-member : goal.invariant-copied_members-loop-member
invariant-copied_members-loop-member l = l.copies.items ≡ take l.member-index l.members
