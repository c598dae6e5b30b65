use Rattle.std.proofs.Common.{◌≡◌, take}
use Rattle.fm_elim.specs.machine.Giving.{given}
use Rattle.fm_elim.proofs.giving.value_of.Given as goal

abbrev pub invariant-loop-n : goal.invariant-loop-n
invariant-loop-n l = given l.values l.mono ≡ given (take l.n l.values) l.mono
