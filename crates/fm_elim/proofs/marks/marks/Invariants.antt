use Rattle.std.proofs.Common.{◌≡◌, ◌+◌, ℕ, length, true, Some, slice_get}
use Rattle.fm_elim.specs.machine.Pruning.{AreClosed}
use Rattle.fm_elim.proofs.marks.marks.Given as goal

abbrev pub invariant-loop-n : goal.invariant-loop-n
invariant-loop-n l = record {
  count : length l.marks.items ≡ length l.log.sources.items;
  last : (k : ℕ) → length l.log.sources.items ≡ k + 1 → slice_get l.marks.items k ≡ Some true;
  closed : AreClosed (length l.log.given.now) l.log.sources.items l.marks.items l.n;
}
