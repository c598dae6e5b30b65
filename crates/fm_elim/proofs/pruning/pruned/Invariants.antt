use Rattle.std.proofs.Common.{◌≡◌, length}
use Rattle.fm_elim.specs.machine.Pruning.{IsPruning, ArePlaced}
use Rattle.fm_elim.proofs.pruning.pruned.Given as goal

abbrev pub invariant-loop-n : goal.invariant-loop-n
invariant-loop-n l = record {
  pruning : IsPruning l.log l.pruned;
  count : length l.pruned.places.items ≡ l.n;
  placed : ArePlaced l.needed.items l.pruned.places.items;
}
