use Rattle.std.proofs.Common.{◌≡◌, ◌≤◌, length, drop, ◌+◌, ◌-◌}
use Rattle.goal_token.specs.Tokens.{after_comment}
use Rattle.goal_token.proofs.comment.after_comment.Given as goal

-- what is left of the comment is all of it
abbrev pub invariant-loop-depth : goal.invariant-loop-depth
invariant-loop-depth l = record {
  rest : after_comment l.depth (drop l.place l.bytes) ≡ after_comment 1 (drop l.start l.bytes);
  after : l.start ≤ l.place;
  within : l.place ≤ length l.bytes;
  shallow : l.depth ≤ l.place + 1;
}

abbrev pub decreases-loop-depth : goal.decreases-loop-depth
decreases-loop-depth l = length l.bytes - l.place
