use Rattle.std.proofs.Common.{sym, arith}
use Rattle.mm_poly.proofs.PartLaws.{last_constant, last_unknown, no_terms}
use Rattle.mm_poly.proofs.parts.unknowns.Goals as goal

pub returns-then-count-eq0 : goal.returns-then-count-eq0
returns-then-count-eq0 c = sym (no_terms c.args.terms.now (omega arith)).1

pub returns-then-is_empty : goal.returns-then-is_empty
returns-then-is_empty c = sym (last_constant c.args.terms.now _ c.requires.order c.requires.monos (omega arith) c.index-terms-count.is (c.is_empty.ensures.0 c.if-is_empty.true)).0

pub returns-else-is_empty : goal.returns-else-is_empty
returns-else-is_empty c = sym (last_unknown c.args.terms.now _ c.requires.order c.requires.monos (omega arith) c.index-terms-count.is (λ e. let h = c.is_empty.ensures.1 e in let k = c.if-is_empty.false in cc)).0
