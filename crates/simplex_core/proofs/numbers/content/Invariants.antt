use Rattle.std.proofs.Common.{◌≡◌, ◌≤◌, pos, length, drop}
use Rattle.mm_num.specs.Small.{IsSmall}
use Rattle.simplex_core.specs.machine.Tableau.{content}
use Rattle.simplex_core.proofs.numbers.content.Given as goal

abbrev pub invariant-loop-i : goal.invariant-loop-i
invariant-loop-i l = record {
  value : l.divisor ≡ pos (content (drop l.i l.numbers));
  small : IsSmall l.divisor;
  inside : l.i ≤ length l.numbers;
}
