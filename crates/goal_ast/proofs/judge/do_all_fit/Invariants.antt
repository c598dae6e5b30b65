use Rattle.std.proofs.Common.{◌≡◌, drop}
use Rattle.goal_ast.specs.Fitting.{all_fit}
use Rattle.goal_ast.proofs.judge.do_all_fit.Given as goal

-- what is left decides
abbrev pub invariant-loop-at : goal.invariant-loop-at
invariant-loop-at l = all_fit (drop l.at l.vars) (drop l.at l.values) ≡ all_fit l.vars l.values
