use Rattle.std.proofs.Common.{◌≡◌, drop}
use Rattle.fm_elim.specs.Steps.{unit_unknown}
use Rattle.fm_elim.proofs.choice.unit_unknown.Given as goal

abbrev pub invariant-loop-term : goal.invariant-loop-term
invariant-loop-term l = unit_unknown (drop l.term-index l.terms) ≡ unit_unknown l.terms
