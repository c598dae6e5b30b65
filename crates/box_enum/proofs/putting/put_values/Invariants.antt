use Rattle.std.proofs.Common.{take}
use Rattle.box_enum.proofs.PutSteps.{Putting}
use Rattle.box_enum.proofs.putting.put_values.Given as goal

-- what is put so far
abbrev pub invariant-loop-choice : goal.invariant-loop-choice
invariant-loop-choice l = Putting l.reach l.fn.steps.items l.steps.items l.count l.from (take l.choice-index l.choices) l.left l.next
