use Rattle.std.proofs.Common.{◌≡◌, drop}
use Rattle.std.specs.List.{AllByRecursion}
use Rattle.mm_num.specs.Small.{IsSmall}
use Rattle.fm_elim.specs.Points.{raised}
use Rattle.fm_elim.specs.machine.Giving.{given, IsBound}
use Rattle.fm_elim.proofs.giving.raised.Given as goal

abbrev pub invariant-loop-row : goal.invariant-loop-row
invariant-loop-row l = record {
  rows : AllByRecursion (IsBound l.top l.unknown) (drop l.row-index l.lowers);
  value : raised l.unknown (given l.values) (drop l.row-index l.lowers) l.least ≡ raised l.unknown (given l.values) l.lowers l.fn.start;
  small : IsSmall l.least;
}
