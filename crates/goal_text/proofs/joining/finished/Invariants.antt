use Rattle.std.proofs.Common.{◌≡◌, length}
use Rattle.goal_text.specs.Operands.{finished}
use Rattle.goal_text.proofs.joining.finished.Given as goal

-- the end after what is left is the end after all
abbrev pub invariant-loop-alloc : goal.invariant-loop-alloc
invariant-loop-alloc l = finished l.frames l.expr ≡ finished l.initial.frames l.initial.expr

abbrev pub decreases-loop-alloc : goal.decreases-loop-alloc
decreases-loop-alloc l = length l.frames
