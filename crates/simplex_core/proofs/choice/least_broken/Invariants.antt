use Rattle.simplex_core.proofs.ChoiceLaws.{IsBest}
use Rattle.simplex_core.proofs.choice.least_broken.Given as goal

abbrev pub invariant-loop-place : goal.invariant-loop-place
invariant-loop-place l = IsBest l.unknowns l.rows l.lines l.place l.best
