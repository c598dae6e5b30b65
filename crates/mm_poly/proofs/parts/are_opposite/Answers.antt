use Rattle.std.proofs.Common.{arith}
use Rattle.mm_poly.proofs.ContentLaws.{coeff_within}
use Rattle.mm_poly.proofs.OppositeLaws.{other_lengths}
use Rattle.mm_poly.proofs.parts.are_opposite.Goals as goal

pub returns-then-first-second : goal.returns-then-first-second
returns-then-first-second c = other_lengths c.args.first.now c.args.second.now c.if-first-second.true

pub is_opposite_term-requires-clause-first : goal.is_opposite_term-requires-clause-first
is_opposite_term-requires-clause-first c = omega (arith, c.requires.first, coeff_within c.args.first.now c.loop-n.n _ (omega arith) c.index-first-n.is)

pub is_opposite_term-requires-clause-second : goal.is_opposite_term-requires-clause-second
is_opposite_term-requires-clause-second c = omega (arith, c.requires.second, coeff_within c.args.second.now c.loop-n.n _ (omega arith) c.index-second-n.is)
