use Rattle.std.proofs.Common.{arith}
use Rattle.box_enum.proofs.ReadingLaws.{single_is}
use Rattle.box_enum.proofs.reading.variable_in.Goals as goal

pub returns-then-exponent-eq1-clause-some : goal.returns-then-exponent-eq1-clause-some
returns-then-exponent-eq1-clause-some c = single_is _ _ _ (omega (arith, c.len.ensures.value, c.if-len-ne1.false)) c.factor-variable.ensures (omega arith)
