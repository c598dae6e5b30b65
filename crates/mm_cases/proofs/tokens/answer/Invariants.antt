use Rattle.std.proofs.Common.{length}
use Rattle.mm_cases.proofs.tokens.answer.Given as goal

-- the tokens that are left
abbrev pub decreases-loop-out : goal.decreases-loop-out
decreases-loop-out l = length l.lexer
