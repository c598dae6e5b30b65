use Rattle.goal_serve.proofs.PlacingLaws.{IsPut}
use Rattle.goal_serve.proofs.placing.placed.Given as goal

abbrev pub invariant-loop-place : goal.invariant-loop-place
invariant-loop-place l = IsPut l.out.items l.vars l.values l.bound l.place
