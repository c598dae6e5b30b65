use Rattle.std.proofs.Common.{◌≡◌, ◌+ℤ◌, drop}
use Rattle.cut_branch.specs.Points.{value_over}
use Rattle.cut_branch.proofs.scaled.value_over.Given as goal

abbrev pub invariant-loop-term : goal.invariant-loop-term
invariant-loop-term l = l.total +ℤ value_over l.vars l.at.den l.at.nums.items (drop l.term-index l.terms) ≡ value_over l.vars l.at.den l.at.nums.items l.terms
