use Rattle.std.proofs.Common.{sym, ◌∙◌, le-leb}
use Rattle.mm_poly.proofs.TestLaws.{ordered_last}
use Rattle.mm_poly.proofs.poly.comes_before_next.Goals as goal

pub returns-then-n-terms : goal.returns-then-n-terms
returns-then-n-terms c = le-leb _ _ c.if-n-terms.true ∙ sym (ordered_last c.args.terms.now c.args.n c.if-n-terms.true)
