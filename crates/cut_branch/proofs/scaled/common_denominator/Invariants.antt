use Rattle.std.proofs.Common.{pos, ◌≤ℤ◌}
use Rattle.mm_num.specs.Small.{IsSmall}
use Rattle.cut_branch.proofs.scaled.common_denominator.Given as goal

abbrev pub invariant-loop-value : goal.invariant-loop-value
invariant-loop-value l = record { positive : pos 1 ≤ℤ l.common; small : IsSmall l.common }
