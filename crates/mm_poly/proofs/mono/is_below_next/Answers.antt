use Rattle.std.proofs.Common.{sym, ◌∙◌, le-leb}
use Rattle.mm_poly.proofs.TestLaws.{rising_last}
use Rattle.mm_poly.proofs.mono.is_below_next.Goals as goal

pub returns-then-n-factors : goal.returns-then-n-factors
returns-then-n-factors c = le-leb _ _ c.if-n-factors.true ∙ sym (rising_last c.args.factors.now c.args.n c.if-n-factors.true)
