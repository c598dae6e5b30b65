use Rattle.std.proofs.Common.{ℕ, ℤ, take}
use Rattle.std.specs.List.{AllByRecursion}
use Rattle.cert_kit.specs.Row.{Holds}
use Rattle.box_enum.specs.declared.standing.Standing.{Standing}
use Rattle.box_enum.specs.machine.Places.{Agrees}
use Rattle.box_enum.proofs.refuting.refuted_at_last.Given as goal

-- the rows that were tried hold wherever the chosen values stand
abbrev pub invariant-loop-standing : goal.invariant-loop-standing
invariant-loop-standing l = (x : ℕ → ℤ) → AllByRecursion (Agrees x) l.choices → AllByRecursion (λ (s : Standing). Holds x s.numbered.row) (take l.standing-index l.standing-items)
