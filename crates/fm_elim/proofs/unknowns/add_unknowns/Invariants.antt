use Rattle.std.proofs.Common.{◌≡◌, drop}
use Rattle.fm_elim.specs.Unknowns.{with_unknowns}
use Rattle.fm_elim.proofs.unknowns.add_unknowns.Given as goal

abbrev pub invariant-loop-n : goal.invariant-loop-n
invariant-loop-n l = l.found.items ≡ with_unknowns (drop l.n l.terms) l.fn.found.items
