use Rattle.std.proofs.Common.{◌≡◌, length}
use Rattle.goal_text.specs.Operands.{joins}
use Rattle.goal_text.proofs.joining.joins.Given as goal

-- the sign after what is left is the sign after all
abbrev pub invariant-loop-alloc : goal.invariant-loop-alloc
invariant-loop-alloc l = joins l.sign l.at l.levels l.frames l.whole ≡ joins l.initial.sign l.initial.at l.initial.levels l.initial.frames l.initial.whole

abbrev pub decreases-loop-alloc : goal.decreases-loop-alloc
decreases-loop-alloc l = length l.frames
