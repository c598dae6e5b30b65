use Rattle.std.proofs.Common.{◌≡◌, ◌+◌, ◌++◌, drop}
use Rattle.box_enum.specs.machine.Trunks.{choices_from}
use Rattle.box_enum.proofs.trunk.single_choices.Given as goal

-- what is out, and those that are left
abbrev pub invariant-loop-n : goal.invariant-loop-n
invariant-loop-n l = l.choices.items ++ choices_from (l.first + l.n) (drop l.n l.single) ≡ choices_from l.first l.single
