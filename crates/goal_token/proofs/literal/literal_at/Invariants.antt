use Rattle.std.proofs.Common.{◌^◌, ◌≤◌}
use Rattle.goal_token.proofs.LiteralSteps.{IsLeft}
use Rattle.goal_token.proofs.literal.literal_at.Given as goal

abbrev pub invariant-loop-place : goal.invariant-loop-place
invariant-loop-place l = record {
  left : IsLeft l.bytes l.value l.place;
  capped : l.value ≤ 2 ^ 126;
}
