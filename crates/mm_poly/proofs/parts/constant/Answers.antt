use Rattle.std.proofs.Common.{◌≡◌, to_z, of_z, sym, ◌∙◌, arith}
use Rattle.std.proofs.lemmas.Int.{ints}
use Rattle.std.specs.Int.{w128}
use Rattle.mm_poly.proofs.ContentLaws.{coeff_within}
use Rattle.mm_poly.proofs.PartLaws.{last_constant, last_unknown, no_terms}
use Rattle.mm_poly.proofs.parts.constant.Goals as goal

pub returns-then-count-eq0 : goal.returns-then-count-eq0
returns-then-count-eq0 c = sym (no_terms c.args.terms.now (omega arith)).2

pub returns-then-is_empty : goal.returns-then-is_empty
returns-then-is_empty c =
    let s = coeff_within c.args.terms.now _ _ (omega arith) c.index-terms-count.is in
    let same : to_z w128 (of_z w128 c.index-terms-count.result.coeff) ≡ c.index-terms-count.result.coeff = omega (arith, ints, c.requires.small) in
    same ∙ sym (last_constant c.args.terms.now _ c.requires.order c.requires.monos (omega arith) c.index-terms-count.is (c.is_empty.ensures.0 c.if-is_empty.true)).1

pub returns-else-is_empty : goal.returns-else-is_empty
returns-else-is_empty c = sym (last_unknown c.args.terms.now _ c.requires.order c.requires.monos (omega arith) c.index-terms-count.is (λ e. let h = c.is_empty.ensures.1 e in let k = c.if-is_empty.false in cc)).1
