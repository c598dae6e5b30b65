use Rattle.std.proofs.Common.{◌≡◌, drop, pos}
use Rattle.std.specs.List.{AllByRecursion}
use Rattle.mm_num.specs.Small.{IsSmall}
use Rattle.fm_elim.specs.Points.{lowered}
use Rattle.fm_elim.specs.machine.Giving.{given, IsBound}
use Rattle.fm_elim.proofs.giving.lowered.Given as goal

abbrev pub invariant-loop-row : goal.invariant-loop-row
invariant-loop-row l = record {
  rows : AllByRecursion (IsBound l.top l.unknown) (drop l.row-index l.uppers);
  value : lowered l.unknown (given l.values) (drop l.row-index l.uppers) l.most ≡ lowered l.unknown (given l.values) l.uppers (pos 0);
  small : IsSmall l.most;
}
