use Rattle.std.proofs.Common.{arith}
use Rattle.box_enum.proofs.ReplacingSteps.{small_term}
use Rattle.box_enum.proofs.replacing.replaced_terms.Goals as goal

pub push_quotient-requires-clause-small : goal.push_quotient-requires-clause-small
push_quotient-requires-clause-small c = small_term c.args.reach c.args.terms.now c.loop-term.term-index c.term-item.result (omega arith) c.term-item.is c.requires.small
