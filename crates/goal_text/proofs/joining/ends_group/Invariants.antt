use Rattle.std.proofs.Common.{◌≡◌, length}
use Rattle.goal_text.specs.Operands.{ends_group}
use Rattle.goal_text.proofs.joining.ends_group.Given as goal

-- the parenthesis after what is left is the one after all
abbrev pub invariant-loop-alloc : goal.invariant-loop-alloc
invariant-loop-alloc l = ends_group l.frames l.expr ≡ ends_group l.initial.frames l.initial.expr

abbrev pub decreases-loop-alloc : goal.decreases-loop-alloc
decreases-loop-alloc l = length l.frames
