use Rattle.std.proofs.Common.{rules, ◌≢◌, pos, sym, ◌∙◌, arith}
use Rattle.mm_poly.specs.Mono.{IsMonomial}
use Rattle.mm_poly.proofs.TestLaws.{ordered_step, bits_nonzero}
use Rattle.mm_poly.proofs.EachLaws.{each_step}
use Rattle.mm_poly.proofs.poly.is_ordered.Goals as goal

pub loop-n-preserved : goal.loop-n-preserved
loop-n-preserved c =
    let nonzero : c.index-terms-n.result.coeff ≢ pos 0 = search (rules, bits_nonzero) in
    let starts = sym c.comes_before_next.ensures ∙ c.if-not-comes_before_next.false in (
      ordered_step c.args.terms.now c.loop-n.n c.index-terms-n.result (omega arith) c.index-terms-n.is nonzero starts ∙ c.loop-n.invariant.0,
      each_step IsMonomial c.args.terms.now c.loop-n.n c.index-terms-n.result c.index-terms-n.is c.degree.ensures.monomial c.loop-n.invariant.1,
    )
