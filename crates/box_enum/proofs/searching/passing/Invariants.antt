use Rattle.std.proofs.Common.{◌≡◌, ◌++◌, ℤ, List, true, take}
use Rattle.box_enum.specs.machine.Searching.{waits_hold}
use Rattle.box_enum.proofs.searching.passing.Given as goal

-- those that were passed hold
abbrev pub invariant-loop-n : goal.invariant-loop-n
invariant-loop-n l = (zs : List ℤ) → waits_hold (take l.n l.rows) (l.chosen ++ zs) ≡ true
