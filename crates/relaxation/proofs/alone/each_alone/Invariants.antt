use Rattle.std.proofs.Common.{◌≡◌, ◌++◌, drop, map}
use Rattle.relaxation.proofs.LinearLaws.{single}
use Rattle.relaxation.proofs.alone.each_alone.Given as goal

abbrev pub invariant-loop-var : goal.invariant-loop-var
invariant-loop-var l = l.alone.items ++ map single (drop l.var-index l.vars) ≡ map single l.vars
