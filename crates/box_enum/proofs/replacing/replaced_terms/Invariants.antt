use Rattle.std.proofs.Common.{◌≡◌, ◌++◌, drop}
use Rattle.box_enum.specs.machine.Putting.{cofactor_terms, put_terms}
use Rattle.box_enum.proofs.replacing.replaced_terms.Given as goal

-- what is out, and the terms that are left
abbrev pub invariant-loop-term : goal.invariant-loop-term
invariant-loop-term l = (l.cofactor.items ++ cofactor_terms l.choice.variable l.choice.value (drop l.term-index l.terms) ≡ cofactor_terms l.choice.variable l.choice.value l.terms)
    × (l.left.items ++ put_terms l.choice.variable l.choice.value (drop l.term-index l.terms) ≡ put_terms l.choice.variable l.choice.value l.terms)
