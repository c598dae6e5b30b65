use Rattle.std.proofs.Common.{ℕ, ◌+◌, ◌-◌, ◌≤◌, length}
use Rattle.box_enum.specs.machine.Places.{IsShallow}
use Rattle.box_enum.proofs.TrunkLaws.{IsWrapped}
use Rattle.box_enum.proofs.trunk.wrapped.Given as goal

-- the walls from here on are around the certificate
abbrev pub invariant-loop-n : goal.invariant-loop-n
invariant-loop-n l = record {
  good : IsWrapped l.n l.single l.fn.inner l.cert;
  shallow : (d : ℕ) → 2 ≤ d → IsShallow d l.fn.inner → IsShallow (d + (length l.single - l.n)) l.cert;
}
