use Rattle.std.proofs.Common.{drop}
use Rattle.fm_elim.specs.machine.Giving.{IsGiven}
use Rattle.fm_elim.proofs.point.give_all.Given as goal

abbrev pub invariant-loop-n : goal.invariant-loop-n
invariant-loop-n l = IsGiven (drop l.n l.removed) l.given
