use Rattle.std.proofs.Common.{drop}
use Rattle.fm_elim.specs.machine.Choice.{lent, IsGroup}
use Rattle.fm_elim.proofs.exact.first_exact_in.Given as goal

abbrev pub invariant-loop-n : goal.invariant-loop-n
invariant-loop-n l = IsGroup (lent (drop l.n l.terms)) l.group
