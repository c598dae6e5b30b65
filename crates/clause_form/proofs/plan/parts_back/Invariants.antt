use Rattle.std.proofs.Common.{◌≡◌, map, reverse, drop}
use Rattle.clause_form.specs.machine.Plan.{made_by, made_part, joint_others, made_parts}
use Rattle.clause_form.proofs.plan.parts_back.Given as goal

-- the hypotheses from here on, and how many alternatives they have with the last part
abbrev pub invariant-loop-n : goal.invariant-loop-n
invariant-loop-n l = record {
  parts : map made_part (reverse l.parts.items) ≡ made_parts (drop l.n l.hyps) (made_by l.fn.last);
  others : l.others ≡ joint_others (drop l.n l.hyps) (made_by l.fn.last);
}
