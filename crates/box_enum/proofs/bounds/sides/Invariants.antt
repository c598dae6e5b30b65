use Rattle.std.proofs.Common.{drop}
use Rattle.box_enum.proofs.BoundLaws.{Joined}
use Rattle.box_enum.proofs.bounds.sides.Given as goal

abbrev pub invariant-loop-span : goal.invariant-loop-span
invariant-loop-span l = Joined l.low.items l.high.items (drop l.span-index l.spans) l.spans
