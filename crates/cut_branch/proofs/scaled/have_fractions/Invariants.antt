use Rattle.std.proofs.Common.{take}
use Rattle.std.specs.List.{AllByRecursion}
use Rattle.mm_num.specs.Frac.{IsFraction}
use Rattle.cut_branch.proofs.scaled.have_fractions.Given as goal

abbrev pub invariant-loop-value : goal.invariant-loop-value
invariant-loop-value l = AllByRecursion IsFraction (take l.value-index l.point)
