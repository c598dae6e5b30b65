use Rattle.std.proofs.Common.{◌≡◌, None, IfSome, take}
use Rattle.cut_branch.specs.declared.splitting.Choice.{Choice}
use Rattle.cut_branch.specs.Points.{IsIntegral}
use Rattle.cut_branch.specs.machine.Scaling.{IsFractional}
use Rattle.cut_branch.proofs.splitting.narrowest.Given as goal

abbrev pub invariant-loop-place : goal.invariant-loop-place
invariant-loop-place l = record {
  none : l.best ≡ None → IsIntegral (take l.place l.point);
  some : IfSome l.best (λ (c : Choice). IsFractional l.point c.place);
}
