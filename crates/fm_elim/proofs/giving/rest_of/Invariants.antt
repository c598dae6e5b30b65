use Rattle.std.proofs.Common.{◌≡◌, ◌+◌, ◌*◌, ◌≤◌, ◌+ℤ◌, drop, unsigned_abs}
use Rattle.mm_poly.specs.Poly.{norm}
use Rattle.fm_elim.specs.Points.{rest_of}
use Rattle.fm_elim.specs.machine.Giving.{given}
use Rattle.fm_elim.proofs.giving.rest_of.Given as goal

abbrev pub invariant-loop-term : goal.invariant-loop-term
invariant-loop-term l = record {
  sum : l.total +ℤ rest_of l.unknown (given l.values) (drop l.term-index l.terms) ≡ rest_of l.unknown (given l.values) l.terms;
  bound : unsigned_abs l.total + norm (drop l.term-index l.terms) * (1 + l.greatest) ≤ norm l.terms * (1 + l.greatest);
}
