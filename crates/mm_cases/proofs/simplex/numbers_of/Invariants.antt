use Rattle.std.specs.List.{All}
use Rattle.mm_num.specs.Small.{IsSmall}
use Rattle.mm_cases.proofs.simplex.numbers_of.Given as goal

abbrev pub invariant-loop-word : goal.invariant-loop-word
invariant-loop-word l = All IsSmall l.numbers.items
