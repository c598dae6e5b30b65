use Rattle.box_enum.proofs.ReplacingSteps.{Dividing}
use Rattle.box_enum.proofs.replacing.push_quotient.Given as goal

-- what is out, and the powers that are left
abbrev pub invariant-loop-k : goal.invariant-loop-k
invariant-loop-k l = Dividing l.reach l.choice.variable l.choice.value l.term l.fn.out.items l.out.items l.coeff l.k
