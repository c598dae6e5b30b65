use Rattle.std.proofs.Common.{◌≡◌, ◌++◌, length, reverse}
use Rattle.cert_kit.proofs.parts.moved.Given as goal

-- those that are left, and those that were moved, the last first
abbrev pub invariant-loop-item : goal.invariant-loop-item
invariant-loop-item g l = l.items ++ reverse l.out.items ≡ l.fn.items

abbrev pub decreases-loop-item : goal.decreases-loop-item
decreases-loop-item g l = length l.items
