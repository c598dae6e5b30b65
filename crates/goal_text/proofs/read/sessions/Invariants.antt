use Rattle.std.proofs.Common.{◌≡◌, length}
use Rattle.goal_token.specs.Tokens.{tokens_of}
use Rattle.goal_text.specs.Steps.{nothing_read}
use Rattle.goal_text.specs.Outcome.{outcome}
use Rattle.goal_text.specs.Reading.{begun_of, IsFew}
use Rattle.goal_text.proofs.read.sessions.Given as goal

-- what the rest comes to is what all comes to, and no limit was passed
abbrev pub invariant-loop-reader : goal.invariant-loop-reader
invariant-loop-reader l = record {
  rest : outcome (length l.bytes) l.reader (begun_of l.counters) l.lexer ≡ outcome (length l.bytes) nothing_read (record { sessions = 0; goals = 0 }) (tokens_of l.bytes);
  few : IsFew l.reader (begun_of l.counters);
}

abbrev pub decreases-loop-reader : goal.decreases-loop-reader
decreases-loop-reader l = length l.lexer
