use Rattle.std.proofs.Common.{◌≡◌, ◌*◌, ◌-◌, ◌^◌, ◌≤◌, min, drop}
use Rattle.clause_form.specs.machine.Tally.{joint_number}
use Rattle.clause_form.proofs.tally.with_hypotheses.Given as goal

abbrev pub invariant-loop-hyp : goal.invariant-loop-hyp
invariant-loop-hyp l = (l.number ≤ 2 ^ 64 - 1) × (min (l.number * joint_number (drop l.hyp-index l.hyps)) (2 ^ 64 - 1) ≡ min (l.fn.others * joint_number l.hyps) (2 ^ 64 - 1))
