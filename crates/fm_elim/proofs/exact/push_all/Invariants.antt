use Rattle.std.proofs.Common.{◌≡◌, ◌++◌, drop}
use Rattle.fm_elim.specs.machine.Choice.{lent}
use Rattle.fm_elim.proofs.exact.push_all.Given as goal

abbrev pub invariant-loop-term : goal.invariant-loop-term
invariant-loop-term l = lent l.terms.items ++ drop l.term-index l.more ≡ lent l.fn.terms.items ++ l.more
