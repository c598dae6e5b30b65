use Rattle.std.proofs.Common.{◌≡◌}
use Rattle.mm_num.specs.Power.{power}
use Rattle.goal_ast.proofs.arithmetic.power_by_turns.Given as goal

-- the power by the turns so far
abbrev pub invariant-loop : goal.invariant-loop
invariant-loop l = l.value ≡ power l.base l.counter
