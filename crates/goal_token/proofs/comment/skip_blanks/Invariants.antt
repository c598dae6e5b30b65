use Rattle.std.proofs.Common.{◌≡◌, ◌≤◌, ◌-◌, length, drop}
use Rattle.goal_token.specs.Tokens.{tokens_at}
use Rattle.goal_token.proofs.comment.skip_blanks.Given as goal

-- the tokens of what is left are all tokens
abbrev pub invariant-loop-place : goal.invariant-loop-place
invariant-loop-place l = record {
  same : tokens_at l.start (drop l.start l.bytes) ≡ tokens_at l.place (drop l.place l.bytes);
  within : l.place ≤ length l.bytes;
}

abbrev pub decreases-loop-place : goal.decreases-loop-place
decreases-loop-place l = length l.bytes - l.place
