use Rattle.std.proofs.Common.{◌≡◌, to_z, of_z, ◌∙◌, arith}
use Rattle.std.proofs.lemmas.Int.{ints}
use Rattle.std.specs.Int.{w128}
use Rattle.mm_poly.proofs.ContentLaws.{coeff_within}
use Rattle.mm_poly.proofs.PartLaws.{coeff_here, coeff_step}
use Rattle.mm_poly.proofs.parts.coefficient.Goals as goal

pub returns-then-same : goal.returns-then-same
returns-then-same c =
    let s = coeff_within c.args.terms.now _ _ (omega arith) c.term-item.is in
    let same : to_z w128 (of_z w128 c.term-item.result.coeff) ≡ c.term-item.result.coeff = omega (arith, ints, c.requires) in
    same ∙ coeff_here _ _ _ _ (omega arith) c.term-item.is (c.same.ensures.0 c.if-same.true) c.loop-term.invariant

pub loop-term-preserved : goal.loop-term-preserved
loop-term-preserved c = coeff_step _ _ _ _ (omega arith) c.term-item.is (λ e. let h = c.same.ensures.1 e in let k = c.if-same.false in cc) c.loop-term.invariant
